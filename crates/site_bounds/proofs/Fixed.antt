-- Sites whose labels a move cannot change.
use Rattle.std.proofs.Common.{◌≡◌, ◌≢◌, ℕ, zero, suc, ◌<◌, ◌≤◌, Bool, true, false, List, [], ◌∷◌, length, ℤ, pos, ◌-ℤ◌, ◌≤ℤ◌, refl, sym, ap, ◌∙◌, inl, inr, subst, arith}
use Rattle.std.proofs.lemmas.Int.{ints}
use Rattle.std.proofs.lemmas.Bool.{cases_eq}
use Rattle.label_field.specs.declared.pair.Pair.{Pair}
use Rattle.label_energies.specs.declared.change.Move.{Move}
use Rattle.label_energies.specs.Energies.{Instance, plain_energy, labelling}
use Rattle.label_energies.specs.Moves.{label_after, labelling_made, pair_entry, IsRegularPair}
use Rattle.move_energy.specs.declared.choice.Choice.{Choice}
use Rattle.move_energy.specs.declared.choice.Choice.TheVariants.{Open, Zero, One}
use Rattle.move_energy.specs.Choices.{bit_of, choice_at, AreAllOpen}
use Rattle.move_energy.specs.Assignments.{set_bit}
use Rattle.site_bounds.specs.Decisions.{Decision, with_decisions, Passes, HavePassed}
use Rattle.move_energy.specs.MoveValues.{move_value}
use Rattle.move_energy.proofs.Assignments.{set_at, set_other}

-- both values of the site's variable make one label
abbrev pub IsFixed : Move → ℕ → Type 0
IsFixed move old = label_after move old true ≡ label_after move old false

pub fixed_site : (move : Move) (f : List ℕ) (choices : List Choice) (p : ℕ) → AreAllOpen move f choices → p < length f → choice_at choices p ≢ Open → IsFixed move (labelling f p)
fixed_site move f choices p opened l closed = elim (cases_eq (label_after move (labelling f p) true) (label_after move (labelling f p) false)) [
  | inl same ↦ same
  | inr other ↦ absurd (closed ((opened.opened p l).1 other))
]

label_any : (move : Move) (old : ℕ) (a b : Bool) → IsFixed move old → label_after move old a ≡ label_after move old b
label_any move old true true fixed = refl
label_any move old true false fixed = fixed
label_any move old false true fixed = sym fixed
label_any move old false false fixed = refl

-- ---- pairs of such sites

entry_any : (m : Instance) (move : Move) (f : ℕ → ℕ) (pair : Pair) (a b c d : Bool) → IsFixed move (f pair.first) → IsFixed move (f pair.second)
    → pair_entry m move f pair a b ≡ pair_entry m move f pair c d
entry_any m move f pair a b c d first second =
    (λ j. m.smooth_cost pair.weight (label_any move (f pair.first) a c first j) (label_any move (f pair.second) b d second j))

pub fixed_regular : (m : Instance) (move : Move) (f : ℕ → ℕ) (pair : Pair) → IsFixed move (f pair.first) → IsFixed move (f pair.second) → IsRegularPair m move f pair
fixed_regular m move f pair first second =
    let one = entry_any m move f pair true true false true first second in
    let none = entry_any m move f pair false false true false first second in
    omega (arith, one, none)

-- ---- decided before anything is summed

-- the decisions that the choices of the first n sites show
abbrev pub with_choice : ℕ → Choice → List Decision → List Decision
with_choice n Open ds = ds
with_choice n Zero ds = record { variable = n; value = false } ∷ ds
with_choice n One ds = record { variable = n; value = true } ∷ ds

abbrev pub shown_by : List Choice → ℕ → List Decision
shown_by choices zero = []
shown_by choices (suc n) = with_choice n (choice_at choices n) (shown_by choices n)

with_own : (n : ℕ) (c : Choice) (ds : List Decision) (x : ℕ → Bool) → with_decisions ds x n ≡ x n → with_decisions (with_choice n c ds) x n ≡ bit_of c (x n)
with_own n Open ds x is = is
with_own n Zero ds x is = set_at (with_decisions ds x) n n false refl
with_own n One ds x is = set_at (with_decisions ds x) n n true refl

with_other : (n p : ℕ) (c : Choice) (ds : List Decision) (x : ℕ → Bool) → p ≢ n → with_decisions (with_choice n c ds) x p ≡ with_decisions ds x p
with_other n p Open ds x off = refl
with_other n p Zero ds x off = set_other (with_decisions ds x) n p false off
with_other n p One ds x off = set_other (with_decisions ds x) n p true off

past_shown : (choices : List Choice) (n : ℕ) (x : ℕ → Bool) (p : ℕ) → n ≤ p → with_decisions (shown_by choices n) x p ≡ x p
past_shown choices zero x p l = refl
past_shown choices (suc n) x p l =
    with_other n p (choice_at choices n) (shown_by choices n) x (λ same. absurd (omega (arith, same, l))) ∙ past_shown choices n x p (omega (arith, l))

pub shown_put : (choices : List Choice) (n : ℕ) (x : ℕ → Bool) (p : ℕ) → p < n → with_decisions (shown_by choices n) x p ≡ bit_of (choice_at choices p) (x p)
shown_put choices zero x p l = absurd (omega (arith, l))
shown_put choices (suc n) x p l = elim (cases_eq p n) [
  | inl same ↦
      ap (with_decisions (shown_by choices (suc n)) x) same ∙ with_own n (choice_at choices n) (shown_by choices n) x (past_shown choices n x n (omega arith))
      ∙ sym (ap (λ q. bit_of (choice_at choices q) (x q)) same)
  | inr other ↦ with_other n p (choice_at choices n) (shown_by choices n) x other ∙ shown_put choices n x p (omega (arith, l, other))
]

-- the value of a fixed site makes no difference
label_set : (move : Move) (f : ℕ → ℕ) (u : ℕ) (x : ℕ → Bool) → IsFixed move (f u) → (p : ℕ) → labelling_made move f (set_bit x u true) p ≡ labelling_made move f (set_bit x u false) p
label_set move f u x fixed p = elim (cases_eq p u) [
  | inl same ↦
      let F : ℕ → Type 0 = λ q. IsFixed move (f q) in
      label_any move (f p) (set_bit x u true p) (set_bit x u false p) (subst F (sym same) fixed)
  | inr other ↦ ap (label_after move (f p)) (set_other x u p true other ∙ sym (set_other x u p false other))
]

level_rise : (a b : ℤ) → a ≡ b → pos 0 ≤ℤ (a -ℤ b)
level_rise a b same = omega (arith, ints, same)

fixed_passes : (m : Instance) (move : Move) (f : ℕ → ℕ) (ds : List Decision) (u : ℕ) → IsFixed move (f u) → Passes (move_value m move f) ds u false
fixed_passes m move f ds u fixed =
    level_rise _ _ (ap (λ (g : ℕ → ℕ). pos (plain_energy m g)) (λ j p. label_set move f u (with_decisions ds (λ k. true)) fixed p j))

with_passed : (m : Instance) (move : Move) (f : ℕ → ℕ) (n : ℕ) (c : Choice) (ds : List Decision) → (c ≢ Open → IsFixed move (f n)) → c ≢ One
    → HavePassed (move_value m move f) ds → HavePassed (move_value m move f) (with_choice n c ds)
with_passed m move f n Open ds fixed never passed = passed
with_passed m move f n Zero ds fixed never passed = (passed, fixed_passes m move f ds n (fixed (λ same. cc (same))))
with_passed m move f n One ds fixed never passed = absurd (never refl)

pub shown_passed : (m : Instance) (move : Move) (f : ℕ → ℕ) (choices : List Choice) (n : ℕ) → ((p : ℕ) → p < n → choice_at choices p ≢ Open → IsFixed move (f p))
    → ((p : ℕ) → p < n → choice_at choices p ≢ One) → HavePassed (move_value m move f) (shown_by choices n)
shown_passed m move f choices zero fixed never = tt
shown_passed m move f choices (suc n) fixed never =
    with_passed m move f n (choice_at choices n) (shown_by choices n) (fixed n (omega arith)) (never n (omega arith))
    (shown_passed m move f choices n (λ p l. fixed p (omega (arith, l))) (λ p l. never p (omega (arith, l))))
