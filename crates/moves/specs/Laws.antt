-- What is true of every move and every run over a metric, and of every refusal of one thread.
use Rattle.std.specs.Prelude.{◌≡◌, ◌*◌, ℕ, List, pos, ◌≤ℤ◌, IsTrue, Ok, Err}
use Rattle.label_energies.specs.declared.change.Move.{Move}
use Rattle.label_energies.specs.Energies.{Instance, IsInstance, HasMetric, IsLabelled}
use Rattle.label_energies.specs.Energies.{labelling, energy, AreLabelsFree, IsWeighted}
use Rattle.label_energies.specs.Chains.{expansions}
use Rattle.label_energies.specs.Laws.{IsWithinTwice}
use Rattle.label_field.specs.LabelFields.{LabelField}
use Rattle.cost_store.specs.Metrics.{potts}
use Rattle.cut_ways.specs.declared.solve_error.SolveError.TheVariants.{OutOfMemory as NoMemory}
use Rattle.moves.specs.declared.bound.Bound.{Bound}
use Rattle.one_move.specs.declared.error.MoveError.{MoveError}
use Rattle.one_move.specs.declared.error.MoveError.TheVariants.{OutOfMemory}
use Rattle.run_steps.specs.declared.course.Ended.{Ended}
use Rattle.moves.specs.Bounds.{IsBoundOf, IsWithinBound}
use Rattle.run_steps.specs.Problems.{IsRunOfCycles, IsLabelledBy, TellsPairNotRegular}
use Rattle.one_move.specs.Moved.{IsMoved}
use Rattle.moves.specs.Refusals.{IsMemoryOrCut}

-- a run of expansions that ended settled is within twice its bound of every labelling (Boykov,
-- Veksler, Zabih, PAMI 2001, theorem 6.1)
abbrev pub SettledRunIsNear : Type 0
SettledRunIsNear =
    (m : Instance) (allowed : ℕ) (f g : List ℕ) (ended : Ended) (bound : Bound) → IsInstance m
    → IsBoundOf m bound
    → IsRunOfCycles m (expansions m.labels) allowed f g (Ok ended) → IsTrue ended.settled
    → IsLabelled m (labelling g) → IsWithinTwice m bound.vmin bound.vmax g

-- over Potts costs, where no label costs anything by itself, labels within the bound have at most
-- twice the energy of any labelling
abbrev pub PottsRunIsNear : Type 0
PottsRunIsNear =
    (m : Instance) (g : List ℕ) (h : ℕ → ℕ) → IsWeighted potts m → AreLabelsFree m
    → IsWithinBound m g
    → IsLabelled m h → pos (energy m (labelling g)) ≤ℤ pos (2 * energy m h)

-- where a cut is refused for memory alone, memory is all that is refused of a metric
abbrev pub AloneRefusesMemory : Type 0
AloneRefusesMemory = (e : MoveError) → IsMemoryOrCut (λ failed. failed ≡ NoMemory) e
    → e ≡ OutOfMemory

-- no move over a metric is refused for a pair whose term is not regular
abbrev pub MetricMoveHasRegularPairs : Type 0
MetricMoveHasRegularPairs =
    (m : Instance) (move : Move) (f : LabelField) (g : List ℕ) (e : MoveError) → IsInstance m
    → HasMetric m → IsLabelledBy m f → IsMoved m move f.at g (Err e)
    → ¬ TellsPairNotRegular e

-- nor is a run
abbrev pub MetricRunHasRegularPairs : Type 0
MetricRunHasRegularPairs =
    (m : Instance) (moves : List Move) (allowed : ℕ) (f : List ℕ) (g : LabelField)
    (e : MoveError) → IsInstance m
    → HasMetric m → IsLabelledBy m g
    → IsRunOfCycles m moves allowed f g.at (Err e)
    → ¬ TellsPairNotRegular e
