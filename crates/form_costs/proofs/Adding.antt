-- The pairs of a form, one after another.
use Rattle.std.proofs.Common.{◌≡◌, ℕ, ◌<◌, ◌≤◌, false, map, take, vec_len}
use Rattle.label_field.specs.PairLists.{PairList}
use Rattle.compile_cut.specs.declared.quadratic.Quadratic.{Quadratic}
use Rattle.form_costs.specs.FormCosts.{capacity_in, pair_of_arc}

-- those of the first k arcs
pub record AreFirstPairs (q : Quadratic) (k : ℕ) (pairs : PairList) : Type 0 where
  pub sites : pairs.sites ≡ vec_len q.weights
  pub weighted : pairs.numbered ≡ false
  pub list : pairs.list ≡ map pair_of_arc (take k q.arcs.items)
  pub capacities : (j : ℕ) → j < k → capacity_in q.arcs.items j ≤ 10000000
