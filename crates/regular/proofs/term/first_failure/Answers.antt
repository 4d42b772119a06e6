use Rattle.std.proofs.Common.{arith, ◌≡◌, ℕ, ◌+◌, ◌*◌, ◌/◌, ◌%◌, ◌<◌, Bool, true, false, nat_eq, List, ℤ, ap, ◌∙◌, subst, inl, inr}
use Rattle.std.proofs.lemmas.Bool.{cases_lt}
use Rattle.pseudo_bool.specs.Energies.{digit}
use Rattle.regular.specs.declared.fixed.Fixed.{Fixed}
use Rattle.regular.specs.Regularity.{IsRegularTable, order_of, projection}
use Rattle.regular.proofs.term.first_failure.Goals as goal

-- the projection at a place of the order
fixed_at : (order : ℕ) → Fixed
fixed_at order = record { position = order / 2; value = nat_eq (order % 2) 1 }

fixed_is : (order p : ℕ) (v : Bool) → 2 * p + digit v ≡ order → fixed_at order ≡ record { position = p; value = v }
unfolding fixed_at
fixed_is order p true e =
    let half : order / 2 ≡ p = omega arith in
    let rest : order % 2 ≡ 1 = omega arith in
    let one : fixed_at order ≡ record { position = p; value = nat_eq (order % 2) 1 } = ap (λ (q : ℕ). record { position = q; value = nat_eq (order % 2) 1 }) half in
    one ∙ ap (λ (r : ℕ). record { position = p; value = nat_eq r 1 }) rest
fixed_is order p false e =
    let half : order / 2 ≡ p = omega arith in
    let rest : order % 2 ≡ 0 = omega arith in
    let one : fixed_at order ≡ record { position = p; value = nat_eq (order % 2) 1 } = ap (λ (q : ℕ). record { position = q; value = nat_eq (order % 2) 1 }) half in
    one ∙ ap (λ (r : ℕ). record { position = p; value = nat_eq r 1 }) rest

next : (table : List ℤ) (order : ℕ) → ((earlier : Fixed) → order_of earlier < order → IsRegularTable (projection table earlier))
    → IsRegularTable (projection table (record { position = order / 2; value = nat_eq (order % 2) 1 }))
    → (earlier : Fixed) → order_of earlier < order + 1 → IsRegularTable (projection table earlier)
unfolding fixed_at
next table order before here earlier l = elim (cases_lt (order_of earlier) order) [
  | inl below ↦ before earlier below
  | inr above ↦
      let P : Fixed → Type 0 = λ f. IsRegularTable (projection table f) in
      subst P (fixed_is order earlier.position earlier.value (omega arith)) here
]

pub loop-order-preserved : goal.loop-order-preserved
loop-order-preserved c =
    let regular : IsRegularTable c.projection_of.result = c.is_regular_table.ensures.0 c.if-not-is_regular_table.false in
    next c.args.table.now c.loop-order.order c.loop-order.invariant (rw c.projection_of.ensures at regular)
