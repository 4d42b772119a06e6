-- What is asked of a problem of closures, and what it means.
use Rattle.std.specs.Prelude.{◌≡◌, ℕ, ◌+◌, ◌*◌, ◌<◌, ◌≤◌, Bool, true, false, List, length, ℤ, pos}
use Rattle.std.specs.Fn.{Shared}
use Rattle.std.specs.List.{All}
use Rattle.label_field.specs.LabelFields.{LabelField}
use Rattle.label_field.specs.Limits.{label_limit}
use Rattle.label_field.specs.PairLists.{PairList, IsPairList, number_pairs}
use Rattle.label_energies.specs.declared.change.Move.{Move}
use Rattle.label_energies.specs.Energies.{Instance, labelling, IsWeighted, times_weight}
use Rattle.label_energies.specs.Moves.{IsMoveOf}
use Rattle.cost_store.specs.Limits.{data_limit, pair_cost_limit}
use Rattle.cost_store.specs.Promises.{AnswersTable, Keeps, KeepsSmooth, IsCost, IsTable, IsColumn}
use Rattle.cost_store.specs.LabelCosts.{AreLabelCosts, HasCosts}
use Rattle.cost_store.specs.declared.data.DataCost.{DataCost}
use Rattle.cost_store.specs.declared.problem.Problem.{Problem}
use Rattle.cost_store.specs.declared.smooth.SmoothCost.{SmoothCost}

-- a closure of two numbers
abbrev pub Closure : Type 0 → Type 1
Closure F = Shared F (ℕ × (ℕ × Unit {0})) ℤ

-- it may be called at these two
abbrev pub takes : {F : Type 0} → Closure F → F → ℕ → ℕ → Type 0
takes {F} g f a b = g.pre f (a, (b, tt))

-- this is an answer of it there
abbrev pub gives : {F : Type 0} → Closure F → F → ℕ → ℕ → ℤ → Type 0
gives {F} g f a b z = g.post f (a, (b, tt)) z

-- the closure of data costs keeps its promise
abbrev pub KeepsCosts : {F : Type 0} → Closure F → DataCost F → Type 0
KeepsCosts {F} f d = Keeps (takes f d.f) (gives f d.f) d.sites d.labels data_limit

-- the closure of smooth costs keeps its promise
abbrev pub KeepsSmoothCosts : {V : Type 0} → Closure V → SmoothCost V → Type 0
KeepsSmoothCosts {V} v s = KeepsSmooth (takes v s.v) (gives v s.v) s.labels s.by_metric

-- the closure of the costs of so many pairs keeps its promise: it answers a row for each label of
-- each pair, those of a pair one after another
pub record KeepsPairCosts {V : Type 0} (v : Closure V) (pairs : ℕ) (s : SmoothCost V)
    : Type 0 where
  pub few : s.labels ≤ label_limit
  pub entries : Keeps (takes v s.v) (gives v s.v) (pairs * s.labels) s.labels (pos pair_cost_limit)
  pub plain : s.by_metric ≡ false

-- the list is the table that the closure of data costs answers
abbrev pub IsTableFor : {F : Type 0} → Closure F → DataCost F → List ℤ → Type 0
IsTableFor {F} f d table = (cost : ℕ → ℕ → ℕ) → AnswersTable (gives f d.f) cost d.sites d.labels
    → IsTable d.sites d.labels cost table

-- the list is the column of a label in that table
abbrev pub IsColumnFor : {F : Type 0} → Closure F → DataCost F → ℕ → List ℤ → Type 0
IsColumnFor {F} f d label column = (cost : ℕ → ℕ → ℕ)
    → AnswersTable (gives f d.f) cost d.sites d.labels → IsColumn d.sites label cost column

-- the problem is posed: both closures keep their promises, that of smooth costs for labels, or for
-- labels of each pair where the pairs are numbered; the pairs are a list of pairs, and its parts
-- have the same sites and labels
pub record IsPosed {F V : Type 0} (f : Closure F) (v : Closure V) (p : Problem F V) : Type 0 where
  pub costs : KeepsCosts f p.data_cost
  pub smooth : p.pairs.numbered ≡ false → KeepsSmoothCosts v p.smooth_cost
  pub by_pair : p.pairs.numbered ≡ true → KeepsPairCosts v (length p.pairs.list) p.smooth_cost
  pub pairs : IsPairList p.pairs
  pub data_sites : p.data_cost.sites ≡ p.pairs.sites
  pub smooth_labels : p.smooth_cost.labels ≡ p.data_cost.labels
  pub label_costs : AreLabelCosts p.data_cost.labels p.label_costs

-- two labels cost each pair of the instance its weight times what the closure answers
pub record MeansWeighted {V : Type 0} (v : Closure V) (closure : V) (labels : ℕ) (m : Instance)
    : Type 0 where
  pub table : ℕ → ℕ → ℕ
  pub answers : AnswersTable (gives v closure) table labels labels
  pub weighted : IsWeighted table m

-- two labels cost each pair of the instance what the closure answers of its number
abbrev pub MeansByPair : {V : Type 0} → Closure V → V → ℕ → ℕ → Instance → Type 0
MeansByPair {V} v closure pairs labels m =
    (number a b : ℕ) (z : ℤ) → number < pairs → a < labels → b < labels
    → gives v closure (number * labels + a) b z → z ≡ pos (m.smooth_cost number a b)

-- the instance is what the problem says: its pairs, what the closures answer, and what was set of
-- the labels
pub record IsMeant {F V : Type 0} (f : Closure F) (v : Closure V) (p : Problem F V)
    (m : Instance) : Type 0 where
  pub sites_are : m.sites ≡ p.pairs.sites
  pub labels_are : m.labels ≡ p.data_cost.labels
  pub pairs_are : m.pairs ≡ p.pairs.list
  pub data_are : AnswersTable (gives f p.data_cost.f) m.data_cost p.pairs.sites p.data_cost.labels
  pub smooth_are : p.pairs.numbered ≡ false → MeansWeighted v p.smooth_cost.v p.data_cost.labels m
  pub by_pair : p.pairs.numbered ≡ true
      → MeansByPair v p.smooth_cost.v (length p.pairs.list) p.data_cost.labels m
  pub costs_are : HasCosts m p.label_costs

-- the instance of these pairs and tables, in which no label costs anything by itself
abbrev pub instance_of_costs : PairList → ℕ → (ℕ → ℕ → ℕ) → (ℕ → ℕ → ℕ) → Instance
instance_of_costs pairs labels at_sites between = record {
  sites = pairs.sites;
  labels = labels;
  data_cost = at_sites;
  smooth_cost = times_weight between;
  pairs = pairs.list;
  label_cost = λ label. 0;
}

-- the instance of these pairs, each with costs of its own by its number
abbrev pub instance_by_pair : PairList → ℕ → (ℕ → ℕ → ℕ) → (ℕ → ℕ → ℕ → ℕ) → Instance
instance_by_pair pairs labels at_sites between = record {
  sites = pairs.sites;
  labels = labels;
  data_cost = at_sites;
  smooth_cost = between;
  pairs = number_pairs 0 pairs.list;
  label_cost = λ label. 0;
}

-- this holds of each instance that the problem means
abbrev pub WhereMeant : {F V : Type 0} → Closure F → Closure V → Problem F V
    → (Instance → Type 0) → Type 0
WhereMeant {F} {V} f v p P = (m : Instance) → IsMeant f v p m → P m

-- a labelling of the problem's sites by its labels
pub record FitsProblem {F V : Type 0} (p : Problem F V) (field : LabelField) : Type 0 where
  pub sites : length field.at ≡ p.pairs.sites
  pub labels : field.labels ≡ p.data_cost.labels

-- the problem is posed, and this is a labelling of it
pub record HasEnergy {F V : Type 0} (f : Closure F) (v : Closure V) (p : Problem F V)
    (field : LabelField) : Type 0 where
  pub posed : IsPosed f v p
  pub fits : FitsProblem p field

-- the number is a part of the energy of a labelling, from 0 to the most that this part comes to
pub record IsOfEnergy {F V : Type 0} (f : Closure F) (v : Closure V) (p : Problem F V)
    (part : Instance → (ℕ → ℕ) → ℕ) (field : LabelField) (most : ℕ) (z : ℤ) : Type 0 where
  pub energy : WhereMeant f v p (λ m. z ≡ pos (part m (labelling field.at)))
  pub range : IsCost (pos most) z

-- labels of the problem at its sites, and a move between its labels
pub record IsAsked {F V : Type 0} (p : Problem F V) (at : List ℕ) (move : Move) : Type 0 where
  pub sites : length at ≡ p.pairs.sites
  pub labels : All (λ label. label < p.data_cost.labels) at
  pub move_of : IsMoveOf p.data_cost.labels move

-- the one labelling has as many sites and labels as the other
pub record AreOfOneSize (old new : LabelField) : Type 0 where
  pub labels : new.labels ≡ old.labels
  pub sites : length new.at ≡ length old.at
