-- The instances of data costs and a table of smooth costs.
use Rattle.std.specs.Prelude.{◌≡◌, ℕ, ℤ, List, ◌+◌, ◌*◌, slice_index}
use Rattle.label_field.specs.PairLists.{PairList}
use Rattle.cost_store.specs.Promises.{AnswersTable, IsTable, cost_in}
use Rattle.label_energies.specs.Energies.{Instance, IsWeighted, times_weight}
use Rattle.cost_store.specs.LabelCosts.{cost_at}

-- the instance has these pairs and their sites, and so many labels; the closure answers its data
-- costs, and two labels cost a pair its weight times the list's entry, a row for each label of a
-- pair's first site
pub record IsInstanceOf (data_post : ℕ → ℕ → ℤ → Type 0) (pairs : PairList) (labels : ℕ)
    (smooth : List ℤ)
    (m : Instance) : Type 0 where
  pub sites_are : m.sites ≡ pairs.sites
  pub labels_are : m.labels ≡ labels
  pub pairs_are : m.pairs ≡ pairs.list
  pub data_are : AnswersTable data_post m.data_cost pairs.sites labels
  pub table : ℕ → ℕ → ℕ
  pub weighted : IsWeighted table m
  pub smooth_are : IsTable labels labels table smooth

-- the one whose smooth costs are the entries of the table, and whose label costs those of the list
abbrev pub instance_of : PairList → ℕ → (ℕ → ℕ → ℕ) → List ℤ → List ℤ → Instance
instance_of pairs labels data_cost smooth costs = record {
  sites = pairs.sites;
  labels = labels;
  data_cost = data_cost;
  smooth_cost = times_weight (cost_in labels smooth);
  pairs = pairs.list;
  label_cost = cost_at costs;
}

-- the entry of a table whose rows stand one after another
abbrev pub data_entry : ℕ → List ℕ → ℕ → ℕ → ℕ
data_entry columns table a b = slice_index table (a * columns + b)
