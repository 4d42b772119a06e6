-- Why what a call was given whose pairs have costs of their own is refused. Each cause is told
-- where what comes before it is in order.
use Rattle.std.specs.Prelude.{◌≡◌, ◌≢◌, ◌⊎◌, ℕ, ◌+◌, ◌*◌, ◌<◌, ◌≤◌, List, [], length, All, ℤ}
use Rattle.label_field.specs.PairLists.{IsPairList}
use Rattle.cost_store.specs.Limits.{data_limit, pair_cost_limit}
use Rattle.cost_store.specs.Promises.{IsCost, IsFirstOutside, cost_in}
use Rattle.cost_store.specs.declared.error.CostError.TheVariants.{CostRange}
use Rattle.gco_arrays.specs.Calls.{AreCostsInRange, list_given}
use Rattle.gco_arrays.specs.PairCalls.{AreTablesCounted, HasPrice, IsRestCounted, PairCall}
use Rattle.gco_arrays.specs.PairCalls.{table_number, weight_in}
use Rattle.gco_arrays.specs.Refusals.{IsCountRefusal, IsListRefusal, IsRangeRefusal}
use Rattle.gco_arrays.specs.Refusals.{IsStartRefusal}
use Rattle.gco_arrays.specs.declared.pairs.GcoPair.{GcoPair}
use Rattle.gco_arrays.specs.declared.refusal.Refusal.{Refusal}
use Rattle.gco_arrays.specs.declared.refusal.Refusal.TheVariants as why

-- there are not so many entries as the tables want, or else not so many numbers of tables as pairs
abbrev pub IsTableCountRefusal : ℕ → ℕ → ℕ → ℕ → ℕ → Refusal → Type 0
IsTableCountRefusal labels tables entries pairs numbers why.SmoothCount =
    entries ≢ (tables * labels) * labels
IsTableCountRefusal labels tables entries pairs numbers why.TableOfCount =
    (entries ≡ (tables * labels) * labels) × (numbers ≢ 0) × (numbers ≢ pairs)
IsTableCountRefusal labels tables entries pairs numbers _ = ⊥

-- the first entry of a table out of range
abbrev pub IsEntryRefusal : List ℤ → Refusal → Type 0
IsEntryRefusal tables (why.SmoothRange place) = IsFirstOutside data_limit tables (CostRange place)
IsEntryRefusal tables _ = ⊥

-- an entry of a row times a weight is above the greatest cost of a pair
abbrev pub IsRowTooDear : ℕ → List ℤ → ℕ → ℕ → Type 0
IsRowTooDear labels tables row weight =
    (b : ℕ) × (b < labels) × (pair_cost_limit < weight * cost_in labels tables row b)

-- so is one of a table
abbrev pub IsTableTooDear : ℕ → List ℤ → ℕ → ℕ → Type 0
IsTableTooDear labels tables number weight =
    (a : ℕ) × (a < labels) × IsRowTooDear labels tables (number * labels + a) weight

-- the pair at a place: its table is not there, or two labels cost it too much
abbrev pub IsPriceRefusal : ℕ → ℕ → List ℤ → List GcoPair → List ℕ → ℕ → Refusal → Type 0
IsPriceRefusal labels table_count tables pairs table_of n (why.NoSuchTable place) =
    (place ≡ n) × (table_count ≤ table_number table_of n)
IsPriceRefusal labels table_count tables pairs table_of n (why.PairCostRange place) =
    (place ≡ n) × (table_number table_of n < table_count)
    × IsTableTooDear labels tables (table_number table_of n) (weight_in pairs n)
IsPriceRefusal labels table_count tables pairs table_of n _ = ⊥

-- the first pair that is refused for its table
pub record IsFirstUnpriced (labels table_count : ℕ) (tables : List ℤ) (pairs : List GcoPair)
    (table_of : List ℕ) (refusal : Refusal) : Type 0 where
  pub place : ℕ
  pub inside : place < length pairs
  pub before : (n : ℕ) → n < place → HasPrice labels table_count tables pairs table_of n
  pub here : IsPriceRefusal labels table_count tables pairs table_of place refusal

-- the tables of a call are as long as they must be
abbrev pub IsPairCallLong : PairCall → Type 0
IsPairCallLong a = IsRestCounted a.arrays
    × AreTablesCounted a.arrays.label_count a.table_count (length a.arrays.smooth_costs)
    (length a.arrays.pairs) (length a.table_of)

-- and each cost of a site and of a label is in its range
abbrev pub IsRestInRange : PairCall → Type 0
IsRestInRange a =
    IsPairCallLong a × AreCostsInRange a.arrays.data_costs [] a.arrays.label_costs

-- and each entry of a table
abbrev pub ArePairTables : PairCall → Type 0
ArePairTables a = IsRestInRange a × All (IsCost data_limit) a.arrays.smooth_costs

-- and the pairs are a list of pairs
abbrev pub ArePairsListed : PairCall → Type 0
ArePairsListed a =
    ArePairTables a × IsPairList (list_given (length a.arrays.start) a.arrays.pairs)

-- and each has a table
abbrev pub ArePairsPriced : PairCall → Type 0
ArePairsPriced a = ArePairsListed a
    × ((n : ℕ) → n < length a.arrays.pairs
    → HasPrice a.arrays.label_count a.table_count a.arrays.smooth_costs a.arrays.pairs a.table_of n)

-- what a call was given is not in order
abbrev pub IsPairCallRefusal : PairCall → Refusal → Type 0
IsPairCallRefusal a refusal =
    IsCountRefusal (length a.arrays.start) a.arrays.label_count (length a.arrays.data_costs)
    (a.arrays.label_count * a.arrays.label_count) (length a.arrays.label_costs) refusal
    ⊎ (IsRestCounted a.arrays × IsTableCountRefusal a.arrays.label_count a.table_count
    (length a.arrays.smooth_costs) (length a.arrays.pairs) (length a.table_of) refusal)
    ⊎ (IsPairCallLong a
    × IsRangeRefusal a.arrays.data_costs [] a.arrays.label_costs refusal)
    ⊎ (IsRestInRange a × IsEntryRefusal a.arrays.smooth_costs refusal)
    ⊎ (ArePairTables a × IsListRefusal (length a.arrays.start) a.arrays.pairs refusal)
    ⊎ (ArePairsListed a × IsFirstUnpriced a.arrays.label_count a.table_count a.arrays.smooth_costs
    a.arrays.pairs a.table_of refusal)
    ⊎ (ArePairsPriced a × IsStartRefusal a.arrays.label_count a.arrays.start refusal)
