-- The instance of a table of smooth costs, and what the problem over one means.
use Rattle.std.proofs.Common.{◌≡◌, ◌*◌, ◌<◌, ◌∙◌, ℕ, ℤ, false, List, All, length, refl, sym, arith}
use Rattle.label_field.specs.PairLists.{PairList}
use Rattle.label_energies.specs.Energies.{HasMetric, Instance}
use Rattle.cost_store.specs.LabelCosts.{HasCosts}
use Rattle.cost_store.specs.Limits.{smooth_limit}
use Rattle.cost_store.specs.Posed.{Closure, gives, IsMeant}
use Rattle.cost_store.specs.Promises.{AnswersTable, IsCost, IsMetricTable, cost_in, entry_at}
use Rattle.cost_store.specs.declared.problem.Problem.{Problem}
use Rattle.moves.specs.Instances.{IsInstanceOf, instance_of}
use Rattle.moves.proofs.Entries.{below_along, smooth_along, table_metric, table_of_costs}

-- the instance of a table in range is one of the table
pub table_instance : (post : ℕ → ℕ → ℤ → Type 0) (pairs : PairList) (labels : ℕ) (data_cost : ℕ → ℕ → ℕ) (smooth costs : List ℤ)
    → length smooth ≡ labels * labels → All (IsCost smooth_limit) smooth → AnswersTable post data_cost pairs.sites labels
    → IsInstanceOf post pairs labels smooth (instance_of pairs labels data_cost smooth costs)
table_instance post pairs labels data_cost smooth costs size range answers = record {
  sites_are = refl;
  labels_are = refl;
  pairs_are = refl;
  data_are = answers;
  table = cost_in labels smooth;
  weighted = λ weight a b. refl;
  smooth_are = table_of_costs smooth_limit smooth labels size range;
}

-- a problem whose closure answers the entries of a table means each instance of the table
pub instance_meant : {F V : Type 0} (f : Closure F) (v : Closure V) (p : Problem F V) (k labels : ℕ) (smooth : List ℤ) (m : Instance)
    → p.pairs.numbered ≡ false → p.data_cost.labels ≡ labels → k ≡ labels
    → ((a b : ℕ) (z : ℤ) → gives v p.smooth_cost.v a b z → z ≡ entry_at k smooth a b)
    → IsInstanceOf (gives f p.data_cost.f) p.pairs labels smooth m → HasCosts m p.label_costs → IsMeant f v p m
instance_meant f v p k labels smooth m weighted same count answers is has = record {
  sites_are = is.sites_are;
  labels_are = is.labels_are ∙ sym same;
  pairs_are = is.pairs_are;
  data_are = λ a b z la lb ans. is.data_are a b z la (below_along b _ _ lb same) ans;
  smooth_are = λ weights. record {
    table = is.table;
    answers = λ a b z la lb ans. smooth_along smooth a b z k labels count (answers a b z ans)
        ∙ is.smooth_are.each a b (below_along a _ _ la same) (below_along b _ _ lb same);
    weighted = is.weighted;
  };
  by_pair = λ numbered. absurd (cc (numbered, weighted));
  costs_are = has;
}

-- and where what it means has a metric, the table is one
pub metric_of_meant : {F V : Type 0} (f : Closure F) (v : Closure V) (p : Problem F V) (k labels : ℕ) (smooth : List ℤ) (m : Instance)
    → p.pairs.numbered ≡ false → p.data_cost.labels ≡ labels → k ≡ labels → 0 < k → length smooth ≡ labels * labels
    → ((a b : ℕ) (z : ℤ) → z ≡ entry_at k smooth a b → gives v p.smooth_cost.v a b z)
    → IsMeant f v p m → HasMetric m → IsMetricTable labels smooth
metric_of_meant f v p k labels smooth m weighted same count some size given meant metric =
    let prices = meant.smooth_are weighted in
    table_metric m labels p.data_cost.labels smooth (omega (arith, some, count)) size meant.labels_are same prices.table prices.weighted
    (λ a b z la lb is. prices.answers a b z la lb (given a b z (smooth_along smooth a b z labels k (sym count) is))) metric
