-- What is true of every chain of best moves, and of every move over a metric.
use Rattle.std.specs.Prelude.{◌≡◌, ℕ, ◌*◌, ◌≤◌, Bool, true, List}
use Rattle.label_energies.specs.declared.change.Move.{Move}
use Rattle.label_energies.specs.Energies.{Instance, IsInstance, IsMetric, IsRatio, IsLabelled}
use Rattle.label_energies.specs.Energies.{AreLabelsFree, energy, labelling, IsWeighted, HasMetric}
use Rattle.label_energies.specs.Moves.{IsAllowed, IsFirstIrregular, IsMoveOf}
use Rattle.label_energies.specs.Chains.{IsChain, expansions}

-- no chain ends at a higher energy than it began with
abbrev pub ChainNeverRises : Type 0
ChainNeverRises =
    (m : Instance) (moves : List Move) (allowed : ℕ) (f g : List ℕ) (done : ℕ) (settled : Bool)
    → IsChain m moves allowed f g done settled → energy m (labelling g) ≤ energy m (labelling f)

-- least times the energy of the one labelling is at most twice greatest times that of each other
abbrev pub IsWithinTwice : Instance → ℕ → ℕ → List ℕ → Type 0
IsWithinTwice m least greatest g =
    (h : ℕ → ℕ) → IsLabelled m h → least * energy m (labelling g) ≤ (2 * greatest) * energy m h

-- a settled run of expansions over a metric, where no label costs anything by itself, is within
-- twice the ratio of every labelling (Boykov, Veksler, Zabih, PAMI 2001, theorem 6.1)
abbrev pub SettledIsNear : Type 0
SettledIsNear =
    (m : Instance) (table : ℕ → ℕ → ℕ) (allowed : ℕ) (f g : List ℕ) (done least greatest : ℕ)
    → IsInstance m → IsWeighted table m
    → IsMetric m.labels table → IsRatio m.labels table least greatest
    → AreLabelsFree m
    → IsChain m (expansions m.labels) allowed f g done true → IsLabelled m (labelling g)
    → IsWithinTwice m least greatest g

-- in a move over a metric each pair's term is regular
abbrev pub MetricIsAllowed : Type 0
MetricIsAllowed =
    (m : Instance) (move : Move) (f : ℕ → ℕ) (place : ℕ) → IsInstance m
    → HasMetric m
    → IsMoveOf m.labels move → IsLabelled m f
    → IsAllowed m move f × (¬ IsFirstIrregular m move f place)
