-- Costs that are added one after another, each by hidden nodes.
use Rattle.std.proofs.Common.{◌≡◌, ℕ, suc, ◌+◌, ◌*◌, ◌≤◌, Bool, true, false, List, vec_len, ℤ, pos, ◌+ℤ◌, ◌≤ℤ◌, refl, ap, ◌∙◌, subst, arith}
use Rattle.std.proofs.lemmas.Int.{ints}
use Rattle.std.proofs.lemmas.Nat.{mul-le}
use Rattle.sums.specs.Sums.{count_if}
use Rattle.compile_cut.specs.declared.quadratic.Quadratic.{Quadratic}
use Rattle.compile_cut.specs.Shown.{Shows}
use Rattle.compile_cut.specs.Quadratics.{quadratic_value, IsQuadraticBounded, AddsLeast, IsTied}
use Rattle.compile_cut.proofs.TermLemmas.{bounded-weaker}
use Rattle.move_energy.specs.declared.choice.Choice.{Choice}
use Rattle.cost_store.specs.LabelCosts.{cost_at}
use Rattle.label_cost_terms.specs.LabelCosts.{uses, costs_below, AddsHidden, GrowsBy}

-- nothing is added, and the cost is fixed
fixed_lower : (v : ℤ) (c fixed : ℕ) → c ≡ fixed → (v +ℤ pos c) ≤ℤ (v +ℤ pos fixed)
fixed_lower v c fixed is = omega (arith, ints, is)

fixed_reached : (v : ℤ) (c fixed : ℕ) → c ≡ fixed → v +ℤ pos fixed ≡ v +ℤ pos c
fixed_reached v c fixed is = omega (arith, ints, is)

pub adds_fixed : (q : Quadratic) (cost : (ℕ → Bool) → ℕ) (fixed : ℕ) → ((x : ℕ → Bool) → cost x ≡ fixed) → AddsHidden q q cost
adds_fixed q cost fixed is = record {
  rest = pos fixed;
  nodes = omega arith;
  lower = λ x. fixed_lower (quadratic_value q x) (cost x) fixed (is x);
  reached = λ x. (x, (λ i l. refl), fixed_reached (quadratic_value q x) (cost x) fixed (is x));
}

pub wider_none : (more terms : ℕ) (q : Quadratic) → GrowsBy more terms q q
wider_none more terms q = record { nodes = omega arith; bounded = λ k b. bounded-weaker k (k + terms) q (omega arith) b }

-- a cost that was added by one hidden node
plus_none : (v w : ℤ) → v ≤ℤ w → v ≤ℤ (w +ℤ pos 0)
plus_none v w h = omega (arith, ints, h)

same_plus : (w v : ℤ) (c d : ℕ) → w ≡ v +ℤ pos c → c ≡ d → w +ℤ pos 0 ≡ v +ℤ pos d
same_plus w v c d h k = omega (arith, ints, h, k)

pay_same : (v w : ℤ) (c d : ℕ) → (v +ℤ pos c) ≤ℤ w → c ≡ d → (v +ℤ pos d) ≤ℤ (w +ℤ pos 0)
pay_same v w c d h k = omega (arith, ints, h, k)

pub adds_tied : (old new : Quadratic) (times cost : ℕ) (own told : (ℕ → Bool) → ℕ) → IsTied times cost old new → AddsLeast old new own → ((x : ℕ → Bool) → own x ≡ told x)
    → AddsHidden old new told
adds_tied old new times cost own told tied adds same = record {
  rest = pos 0;
  nodes = omega (arith, tied.nodes);
  lower = λ x. pay_same (quadratic_value old x) (quadratic_value new x) (own x) (told x) (adds.lower x) (same x);
  reached = λ x.
      let there = adds.reached x in
      (there.0, there.1, same_plus (quadratic_value new there.0) (quadratic_value old x) (own x) (told x) there.2 (same x));
}

pub wider_tied : (old new : Quadratic) (len n cost : ℕ) → len ≤ n → n ≤ 1048576 → cost ≤ 10000000 → IsTied (len + 1) cost old new → GrowsBy 1 10486 old new
wider_tied old new len n cost l k c tied =
    let few : cost * (len + 1) ≤ 10000000 * 1048577 = mul-le cost (len + 1) 10000000 1048577 c (omega (arith, l, k)) in
    record { nodes = omega (arith, tied.nodes); bounded = λ b h. tied.bounded b 10486 (omega (arith, few)) h }

-- one cost after another
both_lower : (a b c r s : ℤ) (p q : ℕ) → (a +ℤ pos p) ≤ℤ (b +ℤ r) → (b +ℤ pos q) ≤ℤ (c +ℤ s) → (a +ℤ pos (p + q)) ≤ℤ (c +ℤ (r +ℤ s))
both_lower a b c r s p q h k = omega (arith, ints, h, k)

both_reached : (a b c r s : ℤ) (p q u : ℕ) → b +ℤ r ≡ a +ℤ pos p → c +ℤ s ≡ b +ℤ pos u → u ≡ q → c +ℤ (r +ℤ s) ≡ a +ℤ pos (p + q)
both_reached a b c r s p q u h k e = omega (arith, ints, h, k, e)

pub adds_both : (a b c : Quadratic) (first second : (ℕ → Bool) → ℕ) → AddsHidden a b first → AddsHidden b c second
    → ((x y : ℕ → Bool) → Shows (vec_len a.weights) x y → second y ≡ second x) → AddsHidden a c (λ x. first x + second x)
adds_both a b c first second one two same = record {
  rest = one.rest +ℤ two.rest;
  nodes = omega (arith, one.nodes, two.nodes);
  lower = λ x. both_lower (quadratic_value a x) (quadratic_value b x) (quadratic_value c x) one.rest two.rest (first x) (second x) (one.lower x) (two.lower x);
  reached = λ x.
      let there = one.reached x in
      let last = two.reached there.0 in
      let shown : Shows (vec_len a.weights) x last.0 = λ i l. last.1 i (omega (arith, l, one.nodes)) ∙ there.1 i l in
      (last.0, shown, both_reached (quadratic_value a x) (quadratic_value b there.0) (quadratic_value c last.0) one.rest two.rest (first x) (second x) (second there.0) there.2 last.2 (same x there.0 there.1));
}

pub adds_along : (old new : Quadratic) (cost other : (ℕ → Bool) → ℕ) → ((x : ℕ → Bool) → cost x ≡ other x) → AddsHidden old new cost → AddsHidden old new other
adds_along old new cost other same adds = record {
  rest = adds.rest;
  nodes = adds.nodes;
  lower = λ x. (let F : ℕ → Type 0 = λ c. (quadratic_value old x +ℤ pos c) ≤ℤ (quadratic_value new x +ℤ adds.rest) in subst F (same x) (adds.lower x));
  reached = λ x.
      let there = adds.reached x in
      (there.0, there.1, there.2 ∙ ap (λ c. quadratic_value old x +ℤ pos c) (same x));
}

pub wider_more : (i : ℕ) (a b c : Quadratic) → GrowsBy i (10486 * i) a b → GrowsBy 1 10486 b c → GrowsBy (i + 1) (10486 * (i + 1)) a c
wider_more i a b c one two = record {
  nodes = omega (arith, one.nodes, two.nodes);
  bounded = λ k h.
      let there = two.bounded (k + 10486 * i) (one.bounded k h) in
      let same : (k + 10486 * i) + 10486 ≡ k + 10486 * (i + 1) = omega arith in
      let P : ℕ → Type 0 = λ n. IsQuadraticBounded n c in
      subst P same there;
}

pub none_paid : (b : Bool) (cost : ℕ) → cost ≡ 0 → count_if b cost ≡ 0
none_paid true cost h = h
none_paid false cost h = refl

pub more_costs : (i alpha : ℕ) (f : List ℕ) (choices : List Choice) (costs : List ℤ) (x : ℕ → Bool) (cost : ℕ) → cost ≡ cost_at costs i
    → costs_below i alpha f choices costs x + count_if (uses alpha f choices i x) cost ≡ costs_below (i + 1) alpha f choices costs x
more_costs i alpha f choices costs x cost is =
    let step : suc i ≡ i + 1 = omega arith in
    ap (λ (c : ℕ). costs_below i alpha f choices costs x + count_if (uses alpha f choices i x) c) is
    ∙ ap (λ (n : ℕ). costs_below n alpha f choices costs x) step
