-- What may be refused over a metric.
use Rattle.std.specs.Prelude.{◌≡◌, ◌⊎◌}
use Rattle.label_energies.specs.Energies.{Instance, HasMetric}
use Rattle.cut_ways.specs.declared.solve_error.SolveError.{SolveError}
use Rattle.one_move.specs.Refusals.{cut_told}
use Rattle.one_move.specs.declared.error.MoveError.{MoveError}
use Rattle.one_move.specs.declared.error.MoveError.TheVariants.{OutOfMemory}

-- memory; or what was refused of a cut, as a move tells it
abbrev pub IsMemoryOrCut : (SolveError → Type 0) → MoveError → Type 0
IsMemoryOrCut refuses e =
    (e ≡ OutOfMemory) ⊎ ((failed : SolveError) × refuses failed × (e ≡ cut_told failed))

-- what may be refused of a problem: where its smooth costs are a metric, memory or a cut alone
abbrev pub IsRefusalOver : Instance → (SolveError → Type 0) → MoveError → Type 0
IsRefusalOver m refuses e = HasMetric m → IsMemoryOrCut refuses e
