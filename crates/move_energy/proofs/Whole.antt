-- A move of which nothing is decided.
use Rattle.std.proofs.Common.{◌≡◌, ◌≢◌, ℕ, ◌+◌, ◌<◌, true, false, Result, Ok, Err, List, [], ◌∷◌, ◌++◌, length, sym, ap, ◌∙◌, subst, inl, inr, arith}
use Rattle.std.specs.Prelude.{◌↔◌}
use Rattle.std.proofs.lemmas.Bool.{cases_lt}
use Rattle.std.proofs.lemmas.List.{get_or_push, get_or_append_left, length-append}
use Rattle.std.proofs.lemmas.List.Elements.{All-take}
use Rattle.label_field.specs.declared.pair.Pair.{Pair}
use Rattle.label_field.specs.PairLists.{IsPair}
use Rattle.label_energies.specs.declared.change.Move.{Move}
use Rattle.label_energies.specs.Energies.{Instance, IsInstance, labelling}
use Rattle.label_energies.specs.Moves.{label_after, IsRegularPair}
use Rattle.label_energies.proofs.Reaching.{cases_label_in}
use Rattle.move_energy.specs.declared.building.MoveEnergy.{MoveEnergy}
use Rattle.move_energy.specs.declared.choice.Choice.{Choice}
use Rattle.move_energy.specs.declared.choice.Choice.TheVariants.{Open, One}
use Rattle.move_energy.specs.declared.error.BuildError.{BuildError}
use Rattle.move_energy.specs.declared.error.BuildError.TheVariants.{PairNotRegular, OutOfMemory}
use Rattle.move_energy.specs.Choices.{choice_at, Changes, AreAllOpen}
use Rattle.move_energy.specs.Problems.{IsFitPair, IsBuildOf, IsPrepared}

-- as AreAllOpen, of the sites below n
pub record AreOpenBelow (move : Move) (f : List ℕ) (choices : List Choice) (n : ℕ) : Type 0 where
  pub count : length choices ≡ n
  pub opened : (p : ℕ) → p < n → choice_at choices p ≡ Open ↔ Changes move (labelling f p)
  pub none : (p : ℕ) → p < n → choice_at choices p ≢ One

pub open_none : (move : Move) (f : List ℕ) (choices : List Choice) → length choices ≡ 0 → AreOpenBelow move f choices 0
open_none move f choices none = record { count = none; opened = λ p l. absurd (omega (arith, l)); none = λ p l. absurd (omega (arith, l)) }

pub open_more : (move : Move) (f : List ℕ) (old new : List Choice) (n : ℕ) (c : Choice) → new ≡ old ++ c ∷ []
    → c ≡ Open ↔ Changes move (labelling f n) → c ≢ One → AreOpenBelow move f old n → AreOpenBelow move f new (n + 1)
open_more move f old new n c is own never below = record {
  count = ap (λ (xs : List Choice). length xs) is ∙ omega (arith, length-append old (c ∷ []), below.count);
  opened = λ p l.
      let here = ap (λ (xs : List Choice). choice_at xs p) is in
      elim (cases_lt p n) [
        | inl before ↦
            let same = here ∙ get_or_append_left old (c ∷ []) _ p (omega (arith, before, below.count)) in
            let was = below.opened p before in
            ((λ opened. was.0 (sym same ∙ opened)), λ changes. same ∙ was.1 changes)
        | inr at ↦
            let equal : n ≡ p = omega (arith, at, l) in
            let same = here ∙ get_or_push old c _ p (omega (arith, equal, below.count)) in
            let P : ℕ → Type 0 = λ q. Changes move (labelling f q) in
            ((λ opened. subst P equal (own.0 (sym same ∙ opened))), λ changes. same ∙ own.1 (subst P (sym equal) changes))
      ];
  none = λ p l one.
      let here = ap (λ (xs : List Choice). choice_at xs p) is in
      elim (cases_lt p n) [
        | inl before ↦ below.none p before (sym (here ∙ get_or_append_left old (c ∷ []) _ p (omega (arith, before, below.count))) ∙ one)
        | inr at ↦ never (sym (here ∙ get_or_push old c _ p (omega (arith, at, l, below.count))) ∙ one)
      ];
}

pub open_all : (move : Move) (f : List ℕ) (choices : List Choice) (n : ℕ) → n ≡ length f → AreOpenBelow move f choices n → AreAllOpen move f choices
open_all move f choices n all below = record {
  count = below.count ∙ all;
  opened = λ p l. below.opened p (omega (arith, all, l));
  none = λ p l. below.none p (omega (arith, all, l));
}

-- a pair of which the move cannot change one end makes a regular term
fixed_first : (m : Instance) (move : Move) (f : ℕ → ℕ) (pair : Pair) → label_after move (f pair.first) true ≡ label_after move (f pair.first) false → IsRegularPair m move f pair
fixed_first m move f pair fixed =
    let p = ap (λ l. m.smooth_cost pair.weight l (label_after move (f pair.second) true)) fixed in
    let q = ap (λ l. m.smooth_cost pair.weight l (label_after move (f pair.second) false)) fixed in
    omega (arith, p, q)

fixed_second : (m : Instance) (move : Move) (f : ℕ → ℕ) (pair : Pair) → label_after move (f pair.second) true ≡ label_after move (f pair.second) false → IsRegularPair m move f pair
fixed_second m move f pair fixed =
    let p = ap (λ l. m.smooth_cost pair.weight (label_after move (f pair.first) true) l) fixed in
    let q = ap (λ l. m.smooth_cost pair.weight (label_after move (f pair.first) false) l) fixed in
    omega (arith, p, q)

-- so where the open sites are those that it can change, the pairs with two open ends are all that
-- matter
pub fit_regular : (m : Instance) (move : Move) (f : List ℕ) (choices : List Choice) (pair : Pair) → length f ≡ m.sites → AreAllOpen move f choices
    → IsPair m.sites pair → IsFitPair m move (labelling f) (choice_at choices) pair → IsRegularPair m move (labelling f) pair
fit_regular m move f choices pair size whole within fit = elim (cases_label_in move (labelling f pair.first)) [
  | inl fixed ↦ fixed_first m move (labelling f) pair fixed
  | inr first ↦ elim (cases_label_in move (labelling f pair.second)) [
    | inl fixed ↦ fixed_second m move (labelling f) pair fixed
    | inr second ↦ fit ((whole.opened pair.first (omega (arith, size, within.first))).1 first) ((whole.opened pair.second (omega (arith, size, within.second))).1 second)
  ]
]

-- what the building of the energy says of a whole move
pub prepared_of : (m : Instance) (move : Move) (f : List ℕ) (made : MoveEnergy) (r : Result Unit BuildError) → IsInstance m → length f ≡ m.sites
    → AreAllOpen move f made.variables.choices.items → IsBuildOf m move f made r → IsPrepared m move f made r
prepared_of m move f made (Ok done) pairs size whole built = (
  (λ k d l. fit_regular m move f made.variables.choices.items _ size whole (pairs k d l) (built.0 k d l)),
  built.1,
)
prepared_of m move f made (Err (PairNotRegular place)) pairs size whole built = record {
  failing = built.failing;
  here = built.here;
  fails = λ regular. built.fails (λ one two. regular);
  before = λ k d l. fit_regular m move f made.variables.choices.items _ size whole (All-take (IsPair m.sites) place m.pairs pairs k d l) (built.before k d l);
}
prepared_of m move f made (Err OutOfMemory) pairs size whole built = tt
