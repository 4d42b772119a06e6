-- The blocks that a block's directions lead to, each once.
use Rattle.std.proofs.Common.{◌≡◌, ℕ, ◌+◌, ◌<◌, inl, inr, eqb, List, [], ◌∷◌, ◌++◌, Contains, sym, ◌∙◌, ap, subst, arith}
use Rattle.std.specs.List.Sorted.{IsPermutation}
use Rattle.std.specs.List.Retain.{IsFiltered, DiffersFromLast}
use Rattle.std.proofs.lemmas.Bool.{cases_lt}
use Rattle.std.proofs.lemmas.List.Elements.{Contains-append_left, Contains-append_right}
use Rattle.std.proofs.lemmas.List.Filters.{dedup_is}
use Rattle.std.proofs.lemmas.List.Kept.{Contains-dedup_nat}
use Rattle.std.proofs.lemmas.List.Sorted.{Contains-permutation}
use Rattle.block_net.specs.Views.{CellsView, border_in}
use Rattle.block_discharge.specs.Turns.{IsKnown}

-- one more direction
pub known_more : (b : CellsView) (all all' : List ℕ) (j to : ℕ) → ((k : ℕ) → k < j → Contains all (border_in b k).to) → to ≡ (border_in b j).to → all' ≡ all ++ to ∷ []
    → (k : ℕ) → k < j + 1 → Contains all' (border_in b k).to
known_more b all all' j to known here more k l = elim (cases_lt k j) [
  | inl before ↦ rw more (Contains-append_left all (to ∷ []) (border_in b k).to (known k before))
  | inr last ↦
      let same : k ≡ j = omega (arith, l, last) in
      let is : to ≡ (border_in b k).to = here ∙ ap (λ i. (border_in b i).to) (sym same) in
      rw more (Contains-append_right all (to ∷ []) (border_in b k).to (0, omega arith, is))
]

-- a list keeps its elements where it is sorted and each is left once
pub known_once : (b : CellsView) (all sorted once : List ℕ) → IsKnown b all → IsPermutation all sorted → IsFiltered (DiffersFromLast eqb) [] sorted once → IsKnown b once
known_once b all sorted once known moved left j l =
    let to = (border_in b j).to in
    subst (λ (xs : List ℕ). Contains xs to) (sym (dedup_is eqb sorted once left)) (Contains-dedup_nat sorted to (Contains-permutation all sorted to moved (known j l)))
