-- What the parts of a posed problem answer, at their sizes.
use Rattle.std.proofs.Common.{◌≡◌, ℕ, ◌∙◌, Bool, true, false, IsTrue, List, All, inl, inr, sym, subst}
use Rattle.std.proofs.lemmas.Bool.{cases_Bool}
use Rattle.label_field.specs.declared.pair.Pair.{Pair}
use Rattle.label_field.specs.LabelFields.{LabelField}
use Rattle.label_field.specs.PairLists.{IsPair}
use Rattle.label_energies.specs.Energies.{Instance, IsInstance, IsMetric, HasMetric}
use Rattle.cost_store.specs.Promises.{AnswersTable}
use Rattle.cost_store.specs.Posed.{Closure, gives, IsPosed, IsMeant, MeansWeighted, FitsProblem, AreOfOneSize}
use Rattle.cost_store.specs.declared.problem.Problem.{Problem}

pub data_meant : {F V : Type 0} (f : Closure F) (v : Closure V) (p : Problem F V) (m : Instance) → IsPosed f v p → IsMeant f v p m
    → AnswersTable (gives f p.data_cost.f) m.data_cost p.data_cost.sites p.data_cost.labels
data_meant f v p m posed meant =
    let A : ℕ → Type 0 = λ n. AnswersTable (gives f p.data_cost.f) m.data_cost n p.data_cost.labels in subst A (sym posed.data_sites) meant.data_are

pub smooth_meant : {F V : Type 0} (f : Closure F) (v : Closure V) (p : Problem F V) (m : Instance) → IsPosed f v p → IsMeant f v p m
    → p.pairs.numbered ≡ false → MeansWeighted v p.smooth_cost.v p.smooth_cost.labels m
smooth_meant f v p m posed meant weighted =
    let A : ℕ → Type 0 = λ k. MeansWeighted v p.smooth_cost.v k m in subst A (sym posed.smooth_labels) (meant.smooth_are weighted)

-- pairs whose costs were stored as a metric are not numbered
pub metric_weighted : {F V : Type 0} (f : Closure F) (v : Closure V) (p : Problem F V) → IsPosed f v p → IsTrue p.smooth_cost.by_metric → p.pairs.numbered ≡ false
metric_weighted f v p posed stored = elim (cases_Bool p.pairs.numbered) [
  | inl is ↦ absurd (let plain = (posed.by_pair is).plain in cc (plain, stored))
  | inr is ↦ is
]

-- the instance's pairs are pairs of its sites
pub pairs_meant : {F V : Type 0} (f : Closure F) (v : Closure V) (p : Problem F V) (m : Instance) → IsPosed f v p → IsMeant f v p m → IsInstance m
pairs_meant f v p m posed meant =
    let A : ℕ → List Pair → Type 0 = λ n list. All (IsPair n) list in
    let B : ℕ → Type 0 = λ n. A n m.pairs in
    let C : List Pair → Type 0 = λ list. A p.pairs.sites list in
    subst B (sym meant.sites_are) (subst C (sym meant.pairs_are) posed.pairs.each)

-- the costs that were stored as a metric are one
pub metric_meant : {F V : Type 0} (f : Closure F) (v : Closure V) (p : Problem F V) (m : Instance) → IsPosed f v p → IsMeant f v p m
    → IsTrue p.smooth_cost.by_metric → HasMetric m
metric_meant f v p m posed meant stored =
    let weighted = metric_weighted f v p posed stored in
    let prices = smooth_meant f v p m posed meant weighted in
    let M : ℕ → Type 0 = λ k. IsMetric k prices.table in
    record {
      table = prices.table;
      weighted = prices.weighted;
      metric = subst M (posed.smooth_labels ∙ sym meant.labels_are) ((posed.smooth weighted).metric stored prices.table prices.answers);
    }

-- a labelling of one size fits still
pub fits_still : {F V : Type 0} (p : Problem F V) (old new : LabelField) → FitsProblem p old → AreOfOneSize old new → FitsProblem p new
fits_still p old new fits same = record { sites = same.sites ∙ fits.sites; labels = same.labels ∙ fits.labels }
