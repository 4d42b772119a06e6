-- What an expansion pays for its own label.
use Rattle.std.proofs.Common.{◌≡◌, ℕ, ◌+◌, ◌<◌, ◌≤◌, ◌==◌, Bool, false, not, cond, IsTrue, List, length, Ok, Err, Result, refl, sym, ap, ◌∙◌, inl, inr, arith, ℤ, pos, unsigned_abs, ◌+ℤ◌, ◌-ℤ◌, ◌<ℤ◌, w64, to_z, of_z, FitsSigned, lit<}
use Rattle.std.proofs.lemmas.Int.{ints, to_z-of_z}
use Rattle.sums.proofs.IntegerSumLemmas.{within_fits, abs-add}
use Rattle.label_energies.specs.declared.change.Move.{Move}
use Rattle.label_energies.specs.declared.change.Move.TheVariants.{Expand, Swap}
use Rattle.label_energies.specs.Energies.{Instance, IsInstance, labelling, plain_energy}
use Rattle.label_energies.specs.Moves.{IsAllowed, IsSwap, labelling_made, label_after}
use Rattle.label_energies.proofs.Energy.{plain-same, equal_is}
use Rattle.move_energy.specs.declared.choice.Choice.{Choice}
use Rattle.move_energy.specs.declared.choice.Choice.TheVariants.{Zero}
use Rattle.move_energy.specs.declared.building.MoveEnergy.{MoveEnergy}
use Rattle.move_energy.specs.declared.error.BuildError.{BuildError}
use Rattle.move_energy.specs.Choices.{bit_of, choice_at, value_of, AreAssigned}
use Rattle.move_energy.specs.MoveValues.{move_value}
use Rattle.site_bounds.specs.Decisions.{IsSmallestLeast}
use Rattle.kept_labels.specs.Kept.{AreLabelsKept, own_price}
use Rattle.kept_labels.proofs.Plain.{kept_plain}
use Rattle.one_move.specs.declared.left.Left.{Left}
use Rattle.one_move.specs.Building.{site_values, made_value, moves_site, HasChanges, IsWorthPrice, IsPricedAnswer, IsBuiltPlain, IsBuiltMove, priced_of}
use Rattle.one_move.proofs.Least.{bit_of_choice, made_over, smallest_along}

-- nothing is to be paid
pub answer_paid : (m : Instance) (move : Move) (f : ℕ → ℕ) (x : ℕ → Bool) → IsSmallestLeast m.sites (made_value m move f) x → IsPricedAnswer m move f 0 x
answer_paid m move f x least = record { taken = λ worth. least; left = λ unworth. absurd (unworth (inl refl)) }

-- an expansion that keeps its labels
answer_kept : (m : Instance) (a : ℕ) (f : ℕ → ℕ) (x : ℕ → Bool) (price : ℕ) → IsInstance m → a < m.labels → IsAllowed m (Expand a) f → AreLabelsKept m a f → price ≡ own_price m a f
    → IsSmallestLeast m.sites (move_value m (Expand a) f) x → IsPricedAnswer m (Expand a) f price x
answer_kept m a f x price pairs l allowed kept is least =
    let law = kept_plain m a f x pairs l allowed kept least in
    record {
      taken = λ worth. law.0 (elim worth [ inl none ↦ inl (sym is ∙ none) | inr low ↦ inr (omega (arith, is, low)) ]);
      left = λ unworth. law.1 (λ worth. unworth (elim worth [ inl none ↦ inl (is ∙ none) | inr low ↦ inr (omega (arith, is, low)) ]));
    }

pub built_kept : (m : Instance) (a : ℕ) (f : List ℕ) (made : MoveEnergy) (r : Result Left BuildError) (price : ℕ) → IsInstance m → a < m.labels
    → (IsAllowed m (Expand a) (labelling f) → AreLabelsKept m a (labelling f)) → price ≡ own_price m a (labelling f) → IsBuiltPlain m (Expand a) f made r
    → IsBuiltMove m (Expand a) f made (priced_of r price)
built_kept m a f made (Ok left) price pairs l kept is built =
    (built.0, (λ bits least. answer_kept m a (labelling f) (value_of made.variables.choices.items bits.items) price pairs l built.0 (kept built.0) is (built.1 bits least)))
built_kept m a f made (Err e) price pairs l kept is built = built

-- ---- once the choices are assigned

assigned_same : (m : Instance) (move : Move) (f : ℕ → ℕ) (x y : ℕ → Bool) → IsInstance m → ((p : ℕ) → p < m.sites → x p ≡ y p)
    → plain_energy m (labelling_made move f x) ≡ plain_energy m (labelling_made move f y)
assigned_same m move f x y pairs same = plain-same m (labelling_made move f x) (labelling_made move f y) pairs (λ p l. ap (label_after move (f p)) (same p l))

worth_along : (m : Instance) (move : Move) (f : ℕ → ℕ) (price : ℕ) (x y : ℕ → Bool) → IsInstance m → ((p : ℕ) → p < m.sites → x p ≡ y p) → IsWorthPrice m move f price x → IsWorthPrice m move f price y
worth_along m move f price x y pairs same worth = elim worth [
  | inl none ↦ inl none
  | inr low ↦ inr (let e = assigned_same m move f x y pairs same in omega (arith, e, low))
]

pub answer_along : (m : Instance) (move : Move) (f : ℕ → ℕ) (price : ℕ) (x y : ℕ → Bool) → IsInstance m → ((p : ℕ) → p < m.sites → y p ≡ x p) → IsPricedAnswer m move f price x → IsPricedAnswer m move f price y
answer_along m move f price x y pairs same answer = record {
  taken = λ worth.
      smallest_along m.sites (made_value m move f) x y (made_over m move f pairs y x same) same
      (answer.taken (worth_along m move f price y x pairs same worth));
  left = λ unworth. answer.left (λ worth. unworth (worth_along m move f price x y pairs (λ p l. sym (same p l)) worth));
}

-- the values that the assigned choices tell
pub assigned_answer : (m : Instance) (move : Move) (f : ℕ → ℕ) (price : ℕ) (old new : List Choice) (bits : List Bool) → IsInstance m → length old ≡ m.sites → AreAssigned old bits new
    → IsPricedAnswer m move f price (value_of old bits) → IsPricedAnswer m move f price (site_values new)
assigned_answer m move f price old new bits pairs size assigned answer =
    answer_along m move f price (value_of old bits) (site_values new) pairs
    (λ p l. ap (λ (c : Choice). bit_of c false) (assigned.each p (omega (arith, l, size))) ∙ bit_of_choice (value_of old bits p)) answer

-- ---- a price that is not paid

-- where each site has the value 0, an expansion moves none
nothing_moves : (move : Move) (f : ℕ → ℕ) (choices : List Choice) (p : ℕ) → ¬ IsSwap move → choice_at choices p ≡ Zero → moves_site move f choices p ≡ false
nothing_moves (Expand a) f choices p expands is =
    ap (λ (c : Choice). not (cond (bit_of c false) a (f p) == f p)) is ∙ ap not (equal_is (f p) (f p) refl)
nothing_moves (Swap a b) f choices p expands is = absurd (expands tt)

pub still_listed : (move : Move) (f : List ℕ) (old new : List Choice) (sites : List ℕ) → ¬ IsSwap move → ((p : ℕ) → p < length f → choice_at new p ≡ Zero) → HasChanges move f old sites → HasChanges move f new sites
still_listed move f old new sites expands zeros changes = record {
  chosen = changes.chosen;
  listed = changes.listed;
  each = λ p l moves. (let none = nothing_moves move (labelling f) new p expands (zeros p l) in absurd (cc (none, moves)));
}

pub answer_left : (m : Instance) (move : Move) (f : ℕ → ℕ) (price : ℕ) (x : ℕ → Bool) (new : List Choice) → IsInstance m → ((p : ℕ) → p < m.sites → choice_at new p ≡ Zero)
    → IsPricedAnswer m move f price x → ¬ IsWorthPrice m move f price x → IsSmallestLeast m.sites (made_value m move f) (site_values new)
answer_left m move f price x new pairs zeros answer unworth =
    let same : (p : ℕ) → p < m.sites → site_values new p ≡ false = λ p l. ap (λ (c : Choice). bit_of c false) (zeros p l) in
    smallest_along m.sites (made_value m move f) (λ p. false) (site_values new) (made_over m move f pairs (site_values new) (λ p. false) same) same (answer.left unworth)

-- ---- as the machine counts it

whole : (r : ℤ) → unsigned_abs r ≤ 300000000000000 → to_z w64 (of_z w64 r) ≡ r
whole r small = to_z-of_z w64 r (within_fits 300000000000000 r small (lit< tt))

price_fits : (r : ℤ) (price : ℕ) → unsigned_abs r ≤ 300000000000000 → price < 4294967296 → FitsSigned w64 (r +ℤ pos price)
price_fits r price small few = within_fits 400000000000000 (r +ℤ pos price) (omega (arith, ints, abs-add r (pos price), small, few)) (lit< tt)

price_whole : (q : ℤ) (price : ℕ) → price < 4294967296 → q ≡ pos price → to_z w64 (of_z w64 q) ≡ pos price
price_whole q price few is = ap (λ z. to_z w64 (of_z w64 z)) is ∙ whole (pos price) (omega (arith, ints, few))

pub summed : (r q : ℤ) (price : ℕ) → unsigned_abs r ≤ 300000000000000 → price < 4294967296 → q ≡ pos price
    → to_z w64 (of_z w64 (to_z w64 (of_z w64 r) +ℤ to_z w64 (of_z w64 q))) ≡ r +ℤ pos price
summed r q price small few is =
    ap (λ z. to_z w64 (of_z w64 (to_z w64 (of_z w64 r) +ℤ z))) (price_whole q price few is)
    ∙ ap (λ z. to_z w64 (of_z w64 (z +ℤ pos price))) (whole r small) ∙ to_z-of_z w64 (r +ℤ pos price) (price_fits r price small few)

below_old : (x r : ℤ) (price new old : ℕ) → x ≡ r +ℤ pos price → r ≡ pos new -ℤ pos old → x <ℤ pos 0 → new + price < old
below_old x r price new old sum is low = omega (arith, ints, sum, is, low)

old_above : (x r : ℤ) (price new old : ℕ) → x ≡ r +ℤ pos price → r ≡ pos new -ℤ pos old → new + price < old → x <ℤ pos 0
old_above x r price new old sum is low = omega (arith, ints, sum, is, low)

pub saves_by : (b : Bool) (x r : ℤ) (price new old : ℕ) → x ≡ r +ℤ pos price → r ≡ pos new -ℤ pos old → (IsTrue b → x <ℤ pos 0) × (x <ℤ pos 0 → IsTrue b)
    → (IsTrue b → new + price < old) × (new + price < old → IsTrue b)
saves_by b x r price new old sum is told = ((λ so. below_old x r price new old sum is (told.0 so)), (λ low. told.1 (old_above x r price new old sum is low)))
