-- A kept label that an expansion gives up, and puts back.
use Rattle.std.proofs.Common.{◌≡◌, ◌≢◌, ◌==◌, ℕ, ◌<◌, Bool, true, false, not, ◌&&◌, ◌||◌, refl, ap, ◌∙◌, inl, inr, arith, ℤ, pos, ◌+ℤ◌, ◌-ℤ◌, ◌≤ℤ◌}
use Rattle.std.proofs.lemmas.Int.{ints}
use Rattle.std.proofs.lemmas.Bool.{cases_eq}
use Rattle.std.proofs.lemmas.Bool.Decides.{nat_tests}
use Rattle.label_energies.specs.declared.change.Move.TheVariants.{Expand}
use Rattle.label_energies.specs.Energies.{Instance, IsInstance}
use Rattle.label_energies.specs.Moves.{IsAllowed}
use Rattle.move_energy.specs.MoveValues.{move_value}
use Rattle.move_energy.proofs.Rising.{move_over, move_falls}
use Rattle.persistency.proofs.Lattice.{both, either, both_and_either}
use Rattle.kept_labels.specs.Kept.{IsKeptLabel}

pub equal_false : (a b : ℕ) → a ≢ b → (a == b) ≡ false
equal_false a b h = grind (arith, nat_tests, h)

pub or_true : (a : Bool) → (a || true) ≡ true
or_true true = refl
or_true false = refl

-- all sites but those of the label take a, or the others do: so all do
all_but : (f : ℕ → ℕ) (label : ℕ) (y : ℕ → Bool) (p : ℕ) → (f p ≡ label → y p ≡ true) → either y (λ q. not (f q == label)) p ≡ true
all_but f label y p holds = elim (cases_eq (f p) label) [
  | inl is ↦ ap (λ b. b || not (f p == label)) (holds is)
  | inr off ↦ ap (λ b. y p || not b) (equal_false (f p) label off) ∙ or_true (y p)
]

gives : (all but y less cost up down : ℤ) → (up +ℤ down) ≤ℤ (y +ℤ but) → up ≡ all → down ≡ less → cost ≤ℤ (all -ℤ but) → (less +ℤ cost) ≤ℤ y
gives all but y less cost up down falls one two kept = omega (arith, ints, falls, one, two, kept)

pub kept_back : (m : Instance) (a label : ℕ) (f : ℕ → ℕ) (y : ℕ → Bool) → IsInstance m → IsAllowed m (Expand a) f → IsKeptLabel m a f label
    → ((p : ℕ) → p < m.sites → f p ≡ label → y p ≡ true)
    → (move_value m (Expand a) f (λ p. y p && not (f p == label)) +ℤ pos (m.label_cost label)) ≤ℤ move_value m (Expand a) f y
kept_back m a label f y pairs allowed kept holds =
    let E = move_value m (Expand a) f in
    let rest : ℕ → Bool = λ p. not (f p == label) in
    gives (E (λ p. true)) (E rest) (E y) (E (λ p. y p && not (f p == label))) (pos (m.label_cost label)) (E (either y rest)) (E (both y rest))
    (both_and_either m.sites E y rest (move_falls m (Expand a) f pairs allowed) (move_over m (Expand a) f pairs))
    (move_over m (Expand a) f pairs (either y rest) (λ p. true) (λ p l. all_but f label y p (holds p l)))
    refl kept
