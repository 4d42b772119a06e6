-- What the arrays of a call mean each of whose pairs has costs of its own, by tables.
use Rattle.std.specs.Prelude.{◌≡◌, ◌⊎◌, ℕ, ◌+◌, ◌*◌, ◌<◌, ◌≤◌, List, [], ◌∷◌, length, map, All, ℤ}
use Rattle.std.specs.Prelude.{pos}
use Rattle.std.specs.Prelude.{slice_index}
use Rattle.label_field.specs.Limits.{label_limit}
use Rattle.label_field.specs.PairLists.{IsPairList, number_pairs}
use Rattle.cost_store.specs.Limits.{data_limit, label_cost_limit, pair_cost_limit}
use Rattle.cost_store.specs.Promises.{IsCost, cost_in}
use Rattle.cost_store.specs.LabelCosts.{AreLabelCosts, costs_of}
use Rattle.label_energies.specs.Energies.{Instance}
use Rattle.gco_arrays.specs.Calls.{AreCounted, CallArrays, arrays_with, instance_given, list_given}
use Rattle.gco_arrays.specs.Calls.{pair_from_c}
use Rattle.gco_arrays.specs.declared.pairs.GcoPair.{GcoPair}
use Rattle.gco_arrays.specs.declared.tables.PairArrays.{PairArrays}
use Rattle.gco_arrays.specs.declared.ready.Ready.{Ready}

-- the arrays of a call, whose smooth costs are so many tables, one after another, each with a row
-- for each label of a pair's first site; and the number of each pair's table, or no numbers: then
-- pair n has table n
pub record PairCall : Type 0 where
  pub arrays : CallArrays
  pub table_count : ℕ
  pub table_of : List ℕ

abbrev pub pair_call : CallArrays → ℕ → List ℕ → PairCall
pair_call arrays table_count table_of = record {
  arrays = arrays;
  table_count = table_count;
  table_of = table_of;
}

-- those that a call was handed over, in numbers of either width, and its labels
abbrev pub pair_call_with : {N : Type 0} → (N → ℤ) → PairArrays N → List ℕ → PairCall
pair_call_with value given start =
    pair_call (arrays_with value given.arrays start) given.table_count given.table_of.now

-- the number of a pair's table
abbrev pub table_number : List ℕ → ℕ → ℕ
table_number [] n = n
table_number (number ∷ numbers) n = slice_index (number ∷ numbers) n

-- the weight of a pair
abbrev pub weight_in : List GcoPair → ℕ → ℕ
weight_in pairs n = slice_index (map (λ (pair : GcoPair). pair.weight) pairs) n

-- what two labels cost a pair: its weight times the entry of its table
abbrev pub own_cost : ℕ → List ℤ → List GcoPair → List ℕ → ℕ → ℕ → ℕ → ℕ
own_cost labels tables pairs table_of n a b =
    weight_in pairs n * cost_in labels tables (table_number table_of n * labels + a) b

-- the problem that the arrays of a call are: that of `instance_given`, but each pair has costs of
-- its own, by its place in the list
abbrev pub instance_of_call : PairCall → Instance
instance_of_call a = record (instance_given a.arrays) {
  smooth_cost = own_cost a.arrays.label_count a.arrays.smooth_costs a.arrays.pairs a.table_of;
  pairs = number_pairs 0 (map pair_from_c a.arrays.pairs);
}

-- so many tables of so many labels are as long as they must be, and so is the list of their numbers
pub record AreTablesCounted (labels tables entries pairs numbers : ℕ) : Type 0 where
  pub tables_are : entries ≡ (tables * labels) * labels
  pub numbers_are : (numbers ≡ 0) ⊎ (numbers ≡ pairs)

-- the other tables of a call are as long as they must be
abbrev pub IsRestCounted : CallArrays → Type 0
IsRestCounted a = AreCounted (length a.start) a.label_count (length a.data_costs)
    (a.label_count * a.label_count) (length a.label_costs)

-- the table of a pair is there, and no two labels cost the pair more than the limit
pub record HasPrice (labels table_count : ℕ) (tables : List ℤ) (pairs : List GcoPair)
    (table_of : List ℕ) (n : ℕ) : Type 0 where
  pub there : table_number table_of n < table_count
  pub within : (a b : ℕ) → a < labels → b < labels
      → own_cost labels tables pairs table_of n a b ≤ pair_cost_limit

-- a pair's cost at two labels is there, and within the limit
pub record IsPriceIn (labels : ℕ) (tables : List ℤ) (pairs : List GcoPair) (table_of : List ℕ)
    (n a b : ℕ) : Type 0 where
  pub few : labels ≤ label_limit
  pub pair : n < length pairs
  pub numbers : (length table_of ≡ 0) ⊎ (length table_of ≡ length pairs)
  pub inside : (table_number table_of n * labels + a) * labels + b < length tables
  pub within : own_cost labels tables pairs table_of n a b ≤ pair_cost_limit

-- all that a call was given is in order
pub record IsPairCallGiven (a : PairCall) : Type 0 where
  pub rest : IsRestCounted a.arrays
  pub counted : AreTablesCounted a.arrays.label_count a.table_count (length a.arrays.smooth_costs)
      (length a.arrays.pairs) (length a.table_of)
  pub data_range : All (IsCost data_limit) a.arrays.data_costs
  pub table_range : All (IsCost data_limit) a.arrays.smooth_costs
  pub label_range : All (IsCost (pos label_cost_limit)) a.arrays.label_costs
  pub pairs : IsPairList (list_given (length a.arrays.start) a.arrays.pairs)
  pub priced : (n : ℕ) → n < length a.arrays.pairs
      → HasPrice a.arrays.label_count a.table_count a.arrays.smooth_costs
      a.arrays.pairs a.table_of n
  pub start : All (λ label. label < a.arrays.label_count) a.arrays.start

-- the parts of a problem that are made of it
pub record ArePartsOfCall (a : PairCall) (ready : Ready) : Type 0 where
  pub given : IsPairCallGiven a
  pub pairs_are : ready.pairs ≡ list_given (length a.arrays.start) a.arrays.pairs
  pub start_is : ready.start ≡ record { labels = a.arrays.label_count; at = a.arrays.start }
  pub costs_are : costs_of ready.label_costs ≡ a.arrays.label_costs
  pub costs_kept : AreLabelCosts a.arrays.label_count ready.label_costs
