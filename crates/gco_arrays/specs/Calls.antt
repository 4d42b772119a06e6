-- What the arrays of a call mean.
use Rattle.std.specs.Prelude.{◌≡◌, ◌⊎◌, ℕ, ◌*◌, ◌<◌, false, List, length, map, All, ℤ, pos}
use Rattle.label_field.specs.LabelFields.{AreSizes}
use Rattle.label_field.specs.PairLists.{PairList, IsPairList}
use Rattle.label_field.specs.declared.pair.Pair.{Pair}
use Rattle.cost_store.specs.Limits.{data_limit, smooth_limit, label_cost_limit}
use Rattle.cost_store.specs.Promises.{IsCost, cost_in}
use Rattle.cost_store.specs.LabelCosts.{AreLabelCosts, cost_at, costs_of}
use Rattle.label_energies.specs.Energies.{Instance, times_weight}
use Rattle.gco_arrays.specs.declared.pairs.GcoPair.{GcoPair}
use Rattle.gco_arrays.specs.declared.ready.Arrays.{Arrays}
use Rattle.gco_arrays.specs.declared.ready.Ready.{Ready}

-- the arrays of a call
pub record CallArrays : Type 0 where
  pub label_count : ℕ
  pub data_costs : List ℤ
  pub smooth_costs : List ℤ
  pub label_costs : List ℤ
  pub pairs : List GcoPair
  pub start : List ℕ

abbrev pub call_arrays : ℕ → List ℤ → List ℤ → List ℤ → List GcoPair → List ℕ → CallArrays
call_arrays labels data_costs smooth_costs label_costs pairs start = record {
  label_count = labels;
  data_costs = data_costs;
  smooth_costs = smooth_costs;
  label_costs = label_costs;
  pairs = pairs;
  start = start;
}

-- those that a call was handed over, in numbers of either width, and its labels
abbrev pub arrays_with : {N : Type 0} → (N → ℤ) → Arrays N → List ℕ → CallArrays
arrays_with value given start =
    call_arrays given.label_count (map value given.«data».now) (map value given.smooth.now)
    (map value given.label_costs.now) given.pairs.now start

-- the pair of sites that C hands over
abbrev pub pair_from_c : GcoPair → Pair
pair_from_c given = record { first = given.first; second = given.second; weight = given.weight }

-- the list of the pairs, in their order
abbrev pub list_given : ℕ → List GcoPair → PairList
list_given sites pairs = record {
  sites = sites;
  list = map pair_from_c pairs;
  numbered = false;
}

-- the problem that the arrays of a call are: site by site the cost of each label, label by label
-- the cost of each beside it, the pairs in their order, and label by label what it costs by itself,
-- 0 where there are no such costs
abbrev pub instance_given : CallArrays → Instance
instance_given a = record {
  sites = length a.start;
  labels = a.label_count;
  data_cost = cost_in a.label_count a.data_costs;
  smooth_cost = times_weight (cost_in a.label_count a.smooth_costs);
  pairs = map pair_from_c a.pairs;
  label_cost = cost_at a.label_costs;
}

-- the tables of so many sites and labels are as long as they must be
pub record AreCounted (sites labels data_count smooth_count cost_count : ℕ) : Type 0 where
  pub sizes : AreSizes sites labels
  pub data_is : data_count ≡ sites * labels
  pub smooth_is : smooth_count ≡ labels * labels
  pub costs_are : (cost_count ≡ 0) ⊎ (cost_count ≡ labels)

-- so are those of a call
abbrev pub AreLong : CallArrays → Type 0
AreLong a = AreCounted (length a.start) a.label_count (length a.data_costs) (length a.smooth_costs)
    (length a.label_costs)

-- each cost is in its range
pub record AreCostsInRange (data_costs smooth_costs label_costs : List ℤ) : Type 0 where
  pub data_range : All (IsCost data_limit) data_costs
  pub smooth_range : All (IsCost smooth_limit) smooth_costs
  pub label_range : All (IsCost (pos label_cost_limit)) label_costs

-- the tables of a call are as long as they must be, and each cost is in its range
pub record AreTables (a : CallArrays) : Type 0 where
  pub long : AreLong a
  pub ranges : AreCostsInRange a.data_costs a.smooth_costs a.label_costs

-- all that a call was given is in order
pub record IsGiven (a : CallArrays) : Type 0 where
  pub tables : AreTables a
  pub pairs : IsPairList (list_given (length a.start) a.pairs)
  pub start : All (λ label. label < a.label_count) a.start

-- the parts of a problem that are made of it
pub record ArePartsOf (a : CallArrays) (ready : Ready) : Type 0 where
  pub given : IsGiven a
  pub pairs_are : ready.pairs ≡ list_given (length a.start) a.pairs
  pub start_is : ready.start ≡ record { labels = a.label_count; at = a.start }
  pub costs_are : costs_of ready.label_costs ≡ a.label_costs
  pub costs_kept : AreLabelCosts a.label_count ready.label_costs
