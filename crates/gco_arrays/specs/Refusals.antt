-- Why what a call was given is refused. Each cause is told where what comes before it is in order:
-- so it is told exactly where it holds and none before it does, or memory is wanting.
use Rattle.std.specs.Prelude.{◌≡◌, ◌≢◌, ◌⊎◌, ℕ, ◌*◌, ◌<◌, ◌≤◌, List, length, take, All, ℤ, pos}
use Rattle.std.specs.Prelude.{Some, slice_get}
use Rattle.label_field.specs.LabelFields.{AreSizes}
use Rattle.label_field.specs.Limits.{site_limit, label_limit}
use Rattle.label_field.specs.PairLists.{PairList, IsPairList}
use Rattle.label_field.specs.PairLists.{IsPairRefusal}
use Rattle.label_field.specs.declared.error.LabelFieldError.{LabelFieldError}
use Rattle.label_field.specs.declared.error.LabelFieldError.TheVariants as pair_why
use Rattle.cost_store.specs.Limits.{data_limit, smooth_limit, label_cost_limit}
use Rattle.cost_store.specs.Promises.{IsCost, IsFirstOutside}
use Rattle.cost_store.specs.declared.error.CostError.TheVariants.{CostRange}
use Rattle.gco_arrays.specs.Calls.{CallArrays, AreLong, AreTables, list_given}
use Rattle.gco_arrays.specs.declared.pairs.GcoPair.{GcoPair}
use Rattle.gco_arrays.specs.declared.refusal.Refusal.{Refusal}
use Rattle.gco_arrays.specs.declared.refusal.Refusal.TheVariants as why

-- the first number that is wrong: of sites, of labels, of data costs, of smooth costs, of label
-- costs
abbrev pub IsCountRefusal : ℕ → ℕ → ℕ → ℕ → ℕ → Refusal → Type 0
IsCountRefusal sites labels data_count smooth_count cost_count why.TooManySites = site_limit < sites
IsCountRefusal sites labels data_count smooth_count cost_count why.LabelCount =
    (sites ≤ site_limit) × ¬ ((1 ≤ labels) × (labels ≤ label_limit))
IsCountRefusal sites labels data_count smooth_count cost_count why.DataCount =
    AreSizes sites labels × (data_count ≢ sites * labels)
IsCountRefusal sites labels data_count smooth_count cost_count why.SmoothCount =
    AreSizes sites labels × (data_count ≡ sites * labels) × (smooth_count ≢ labels * labels)
IsCountRefusal sites labels data_count smooth_count cost_count why.LabelCostCount =
    AreSizes sites labels × (data_count ≡ sites * labels) × (smooth_count ≡ labels * labels)
    × (cost_count ≢ 0) × (cost_count ≢ labels)
IsCountRefusal sites labels data_count smooth_count cost_count _ = ⊥

-- the first cost out of range, of the first table that has one
abbrev pub IsRangeRefusal : List ℤ → List ℤ → List ℤ → Refusal → Type 0
IsRangeRefusal data_costs smooth_costs label_costs (why.DataRange place) =
    IsFirstOutside data_limit data_costs (CostRange place)
IsRangeRefusal data_costs smooth_costs label_costs (why.SmoothRange place) =
    All (IsCost data_limit) data_costs × IsFirstOutside smooth_limit smooth_costs (CostRange place)
IsRangeRefusal data_costs smooth_costs label_costs (why.LabelCostRange place) =
    All (IsCost data_limit) data_costs × All (IsCost smooth_limit) smooth_costs
    × IsFirstOutside (pos label_cost_limit) label_costs (CostRange place)
IsRangeRefusal data_costs smooth_costs label_costs _ = ⊥

-- the refusal of a call whose pair at a place was refused
abbrev pub pair_refusal : ℕ → LabelFieldError → Refusal
pair_refusal place pair_why.NoSuchSite = why.NoSuchSite place
pair_refusal place pair_why.SamePair = why.SameSite place
pair_refusal place pair_why.TooManyPairs = why.TooManyPairs
pair_refusal place pair_why.WeightRange = why.WeightRange place
pair_refusal place pair_why.NoSuchLabel = why.OutOfMemory
pair_refusal place (pair_why.OutOfMemory _) = why.OutOfMemory

-- a pair is refused beside those before it
abbrev pub IsPairTold : PairList → GcoPair → ℕ → Refusal → Type 0
IsPairTold before pair place refusal =
    (error : LabelFieldError) × IsPairRefusal before pair.first pair.second (pos pair.weight) error
    × (refusal ≡ pair_refusal place error)

-- the first pair of the list that is refused
abbrev pub IsListRefusal : ℕ → List GcoPair → Refusal → Type 0
IsListRefusal sites given refusal =
    (place : ℕ) × (pair : GcoPair) × (slice_get given place ≡ Some pair)
    × IsPairList (list_given sites (take place given))
    × IsPairTold (list_given sites (take place given)) pair place refusal

-- the first label of the start that is not there, or memory
abbrev pub IsStartRefusal : ℕ → List ℕ → Refusal → Type 0
IsStartRefusal labels start (why.NoSuchLabel site) =
    (label : ℕ) × (slice_get start site ≡ Some label) × (labels ≤ label)
    × All (λ other. other < labels) (take site start)
IsStartRefusal labels start why.OutOfMemory = Unit {0}
IsStartRefusal labels start _ = ⊥

-- what a call was given is not in order
abbrev pub IsGivenRefusal : CallArrays → Refusal → Type 0
IsGivenRefusal a refusal =
    IsCountRefusal (length a.start) a.label_count (length a.data_costs) (length a.smooth_costs)
    (length a.label_costs) refusal
    ⊎ (AreLong a × IsRangeRefusal a.data_costs a.smooth_costs a.label_costs refusal)
    ⊎ (AreTables a × IsListRefusal (length a.start) a.pairs refusal)
    ⊎ (AreTables a × IsPairList (list_given (length a.start) a.pairs)
    × IsStartRefusal a.label_count a.start refusal)
