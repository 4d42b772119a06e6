-- What labels cost by themselves in an expansion of which nothing is decided.
use Rattle.std.specs.Prelude.{◌≡◌, ◌++◌, ℕ, zero, suc, ◌+◌, ◌<◌, ◌≤◌, Bool, cond, List, [], ◌∷◌}
use Rattle.std.specs.Prelude.{length, ℤ, pos, ◌+ℤ◌, ◌≤ℤ◌, vec_len}
use Rattle.sums.specs.Sums.{sum_below, count_if}
use Rattle.label_energies.specs.declared.change.Move.TheVariants.{Expand}
use Rattle.label_energies.specs.Energies.{Instance, labelling, is_used}
use Rattle.cost_store.specs.LabelCosts.{cost_at}
use Rattle.compile_cut.specs.declared.quadratic.Quadratic.{Quadratic}
use Rattle.compile_cut.specs.Shown.{Shows}
use Rattle.compile_cut.specs.Quadratics.{quadratic_value, IsQuadraticBounded}
use Rattle.move_energy.specs.declared.choice.Choice.{Choice}
use Rattle.move_energy.specs.Choices.{choice_at, open_rank, made_by}

-- the costs are the problem's, one for each label
pub record AreCostsOf (m : Instance) (costs : List ℤ) : Type 0 where
  pub count : length costs ≡ m.labels
  pub each : (label : ℕ) → label < m.labels → m.label_cost label ≡ cost_at costs label

-- the nodes of the chosen ones of the first n sites
abbrev pub nodes_of : (ℕ → Bool) → List Choice → ℕ → List ℕ
nodes_of chosen choices zero = []
nodes_of chosen choices (suc n) =
    nodes_of chosen choices n ++ cond (chosen n) (open_rank choices n ∷ []) []

-- does some site have the label, once the open sites have these values?
abbrev pub uses : ℕ → List ℕ → List Choice → ℕ → (ℕ → Bool) → Bool
uses alpha f choices label x =
    is_used (length f) (made_by (Expand alpha) (labelling f) (choice_at choices)
    (open_rank choices) x) label

-- what the first n labels cost by themselves then
abbrev pub costs_below : ℕ → ℕ → List ℕ → List Choice → List ℤ → (ℕ → Bool) → ℕ
costs_below n alpha f choices costs x =
    sum_below n (λ label. count_if (uses alpha f choices label x) (cost_at costs label))

-- of the sets that are the same on the old nodes, the least new value is, but for a fixed number,
-- the old one and a cost
pub record AddsHidden (old new : Quadratic) (cost : (ℕ → Bool) → ℕ) : Type 0 where
  pub rest : ℤ
  pub nodes : vec_len old.weights ≤ vec_len new.weights
  pub lower : (x : ℕ → Bool)
      → (quadratic_value old x +ℤ pos (cost x)) ≤ℤ (quadratic_value new x +ℤ rest)
  pub reached : (x : ℕ → Bool)
      → (y : ℕ → Bool) × Shows (vec_len old.weights) x y
      × (quadratic_value new y +ℤ rest ≡ quadratic_value old x +ℤ pos (cost x))

-- at most so many nodes and terms more
pub record GrowsBy (more terms : ℕ) (old new : Quadratic) : Type 0 where
  pub nodes : vec_len new.weights ≤ vec_len old.weights + more
  pub bounded : (k : ℕ) → IsQuadraticBounded k old → IsQuadraticBounded (k + terms) new
