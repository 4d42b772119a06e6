-- Worked cases, by computation.
use Rattle.std.proofs.Common.{◌≡◌, ℕ, ◌+◌, ◌*◌, true, false, List, [], ◌∷◌, refl, arith}
use Rattle.std.specs.Prelude.{slice_index}
use Rattle.label_field.specs.declared.pair.Pair.{Pair}
use Rattle.label_energies.specs.declared.change.Move.TheVariants.{Expand, Swap}
use Rattle.label_energies.specs.Energies.{Instance, energy, labelling, times_weight}
use Rattle.label_energies.specs.Moves.{pair_entry, IsRegularPair}
use Rattle.label_energies.specs.Chains.{expansions, swaps}

abbrev pair_of : ℕ → ℕ → ℕ → Pair
pair_of p q w = record { first = p; second = q; weight = w }

-- an instance whose costs stand in tables
abbrev tabled : ℕ → ℕ → List ℕ → List ℕ → List Pair → Instance
tabled n k costs smooth pairs = record {
  sites = n;
  labels = k;
  data_cost = λ p l. slice_index costs (p * k + l);
  smooth_cost = times_weight (λ a b. slice_index smooth (a * k + b));
  pairs = pairs;
  label_cost = λ l. 0;
}

-- the same, with label costs
abbrev with_costs : Instance → List ℕ → Instance
with_costs m costs = record m { label_cost = λ l. slice_index costs l }

abbrev squares : List ℕ
squares = 0 ∷ 1 ∷ 4 ∷ 1 ∷ 0 ∷ 1 ∷ 4 ∷ 1 ∷ 0 ∷ []

abbrev first_row : Instance
first_row = tabled 2 3 (0 ∷ 9 ∷ 9 ∷ 9 ∷ 9 ∷ 0 ∷ []) squares (pair_of 0 1 1 ∷ [])

starts_at_four : energy first_row (labelling (0 ∷ 2 ∷ [])) ≡ 4
starts_at_four = refl

-- expanding 1 makes the term 4, 1, 1, 0
table_00 : pair_entry first_row (Expand 1) (labelling (0 ∷ 2 ∷ [])) (pair_of 0 1 1) false false ≡ 4
table_00 = refl

table_01 : pair_entry first_row (Expand 1) (labelling (0 ∷ 2 ∷ [])) (pair_of 0 1 1) false true ≡ 1
table_01 = refl

table_10 : pair_entry first_row (Expand 1) (labelling (0 ∷ 2 ∷ [])) (pair_of 0 1 1) true false ≡ 1
table_10 = refl

table_11 : pair_entry first_row (Expand 1) (labelling (0 ∷ 2 ∷ [])) (pair_of 0 1 1) true true ≡ 0
table_11 = refl

not_regular : ¬ IsRegularPair first_row (Expand 1) (labelling (0 ∷ 2 ∷ [])) (pair_of 0 1 1)
not_regular h = omega (arith, h)

-- expanding 0 there is regular: 4, 0, 4, 0
regular_zero : IsRegularPair first_row (Expand 0) (labelling (0 ∷ 2 ∷ [])) (pair_of 0 1 1)
regular_zero = omega arith

-- swapping 0 and 2 reaches 3 by 0 0 and by 2 2
abbrev second_row : Instance
second_row = tabled 2 3 (0 ∷ 9 ∷ 3 ∷ 3 ∷ 9 ∷ 0 ∷ []) squares (pair_of 0 1 1 ∷ [])

zeros : energy second_row (labelling (0 ∷ 0 ∷ [])) ≡ 3
zeros = refl

twos : energy second_row (labelling (2 ∷ 2 ∷ [])) ≡ 3
twos = refl

-- the pair twice: 2; three times: 3
abbrev third_row : List Pair → Instance
third_row pairs = tabled 2 2 (0 ∷ 3 ∷ 3 ∷ 0 ∷ []) (0 ∷ 1 ∷ 1 ∷ 0 ∷ []) pairs

two_pairs : energy (third_row (pair_of 0 1 1 ∷ pair_of 0 1 1 ∷ [])) (labelling (0 ∷ 1 ∷ [])) ≡ 2
two_pairs = refl

three_pairs : energy (third_row (pair_of 0 1 1 ∷ pair_of 0 1 1 ∷ pair_of 0 1 1 ∷ [])) (labelling (0 ∷ 0 ∷ [])) ≡ 3
three_pairs = refl

-- three sites: 0 2 1, then 0 2 0 with energy 4, then 1 is not regular
abbrev library_row : Instance
library_row = tabled 3 3 (0 ∷ 9 ∷ 9 ∷ 9 ∷ 9 ∷ 0 ∷ 0 ∷ 5 ∷ 9 ∷ []) squares (pair_of 0 1 1 ∷ [])

library_start : energy library_row (labelling (0 ∷ 2 ∷ 1 ∷ [])) ≡ 9
library_start = refl

library_end : energy library_row (labelling (0 ∷ 2 ∷ 0 ∷ [])) ≡ 4
library_end = refl

rising : expansions 3 ≡ Expand 0 ∷ Expand 1 ∷ Expand 2 ∷ []
rising = refl

dictionary : swaps 4 ≡ Swap 0 1 ∷ Swap 0 2 ∷ Swap 0 3 ∷ Swap 1 2 ∷ Swap 1 3 ∷ Swap 2 3 ∷ []
dictionary = refl

no_swap : swaps 1 ≡ []
no_swap = refl

-- label costs: 2 sites and 3 labels. From 14, expanding 1 reaches 11 by 1 1
abbrev cost_row : List ℕ → Instance
cost_row costs = with_costs (tabled 2 3 (0 ∷ 3 ∷ 9 ∷ 9 ∷ 3 ∷ 0 ∷ []) squares []) costs

cost_start : energy (cost_row (5 ∷ 5 ∷ 5 ∷ [])) (labelling (0 ∷ 0 ∷ [])) ≡ 14
cost_start = refl

cost_end : energy (cost_row (5 ∷ 5 ∷ 5 ∷ [])) (labelling (1 ∷ 1 ∷ [])) ≡ 11
cost_end = refl

cost_two : energy (cost_row (2 ∷ 2 ∷ 2 ∷ [])) (labelling (0 ∷ 2 ∷ [])) ≡ 4
cost_two = refl

-- two labels: 0 1 and 1 1 both give 9
abbrev tie_row : Instance
tie_row = with_costs (tabled 2 2 (0 ∷ 3 ∷ 9 ∷ 3 ∷ []) (0 ∷ 1 ∷ 1 ∷ 0 ∷ []) []) (3 ∷ 3 ∷ [])

tie_first : energy tie_row (labelling (0 ∷ 1 ∷ [])) ≡ 9
tie_first = refl

tie_second : energy tie_row (labelling (1 ∷ 1 ∷ [])) ≡ 9
tie_second = refl
