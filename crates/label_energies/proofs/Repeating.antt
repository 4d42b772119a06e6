-- A move made once more, with no change since, changes nothing and is not refused.
use Rattle.std.proofs.Common.{◌≡◌, ℕ, ◌⊎◌, Bool, true, false, cond, List, refl, sym, ap, ◌∙◌, inl, inr, subst, arith}
use Rattle.label_field.specs.declared.pair.Pair.{Pair}
use Rattle.label_field.specs.PairLists.{IsPair}
use Rattle.label_energies.specs.declared.change.Move.{Move}
use Rattle.label_energies.specs.declared.change.Move.TheVariants.{Expand, Swap}
use Rattle.label_energies.specs.Energies.{Instance, IsInstance, labelling}
use Rattle.label_energies.specs.Moves.{IsOneOf, MayBecome, IsBest, label_after, pair_entry, IsRegularPair, IsAllowed}
use Rattle.label_energies.proofs.Reaching.{cases_one, neither, swap_one}
use Rattle.label_energies.proofs.Best.{stays-reached}

-- what a label becomes by a move it may also become by the move made twice, and nothing else
becomes_twice : (move : Move) (old new last : ℕ) → MayBecome move old new → MayBecome move new last → MayBecome move old last
becomes_twice (Expand a) old new last (inl stays) (inl still) = inl (still ∙ stays)
becomes_twice (Expand a) old new last (inr turns) (inl still) = inr (still ∙ turns)
becomes_twice (Expand a) old new last first (inr turns) = inr turns
becomes_twice (Swap a b) old new last first second = (
  (λ one. second.0 (first.0 one)),
  (λ none. let same = first.1 none in let P : ℕ → Type 0 = λ label. ¬ IsOneOf a b label in second.1 (subst P (sym same) none) ∙ same),
)

-- the best labelling of a move is its own best by that move
pub best_again : (m : Instance) (move : Move) (f g : List ℕ) → IsBest m move f g → IsBest m move g g
best_again m move f g best = record {
  sites = refl;
  reached = stays-reached move m.sites (labelling g);
  lowest = λ h reached. best.lowest h (λ p l. becomes_twice move (labelling f p) (labelling g p) (h p) (best.reached p l) (reached p l));
  kept = λ still. refl;
  smallest = λ lower. absurd (omega (arith, lower));
}

-- a label that a move made: the move has the same two labels for it as before, or one at both
-- values
made_again : (move : Move) (old new : ℕ) → MayBecome move old new
    → ((bit : Bool) → label_after move new bit ≡ label_after move old bit) ⊎ (label_after move new true ≡ label_after move new false)
made_again (Expand a) old new (inl stays) = inl (λ bit. ap (λ (label : ℕ). cond bit a label) stays)
made_again (Expand a) old new (inr turns) = inr (sym turns)
made_again (Swap a b) old new may = elim (cases_one a b old) [
  | inl one ↦ inl (λ bit. swap_one a b new bit (may.0 one) ∙ sym (swap_one a b old bit one))
  | inr other ↦ inl (λ bit. ap (λ (label : ℕ). label_after (Swap a b) label bit) (may.1 (neither a b old other.0 other.1)))
]

-- so the term of a pair stays regular
regular_again : (m : Instance) (move : Move) (f g : ℕ → ℕ) (pair : Pair) → MayBecome move (f pair.first) (g pair.first)
    → MayBecome move (f pair.second) (g pair.second) → IsRegularPair m move f pair → IsRegularPair m move g pair
regular_again m move f g pair first second regular = elim (made_again move (f pair.first) (g pair.first) first) [
  | inr fixed ↦
      let off = ap (λ l. m.smooth_cost pair.weight l (label_after move (g pair.second) false)) fixed in
      let on = ap (λ l. m.smooth_cost pair.weight l (label_after move (g pair.second) true)) fixed in omega (arith, off, on)
  | inl same ↦ elim (made_again move (f pair.second) (g pair.second) second) [
    | inr fixed ↦
        let off = ap (λ l. m.smooth_cost pair.weight (label_after move (g pair.first) false) l) fixed in
        let on = ap (λ l. m.smooth_cost pair.weight (label_after move (g pair.first) true) l) fixed in omega (arith, off, on)
    | inl alike ↦
        let at : (x y : Bool) → pair_entry m move g pair x y ≡ pair_entry m move f pair x y = λ x y i. m.smooth_cost pair.weight (same x i) (alike y i) in
        omega (arith, at false false, at true true, at false true, at true false, regular)
  ]
]

-- a move that was allowed is allowed once more
pub allowed_again : (m : Instance) (move : Move) (f g : List ℕ) → IsInstance m → IsAllowed m move (labelling f) → IsBest m move f g → IsAllowed m move (labelling g)
allowed_again m move f g pairs allowed best = λ i default l.
    let within : IsPair m.sites _ = pairs i default l in
    regular_again m move (labelling f) (labelling g) _ (best.reached _ within.first) (best.reached _ within.second) (allowed i default l)
