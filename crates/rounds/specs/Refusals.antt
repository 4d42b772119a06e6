-- Why no cut was found.
use Rattle.std.specs.Prelude.{◌<◌, ◌≤◌, length}
use Rattle.flow_network.specs.Cut.{Network}
use Rattle.block_net.specs.Limits.{arc_limit}
use Rattle.block_workers.specs.declared.crew.RoundError.{RoundError}
use Rattle.block_workers.specs.declared.crew.RoundError.TheVariants as round
use Rattle.worker_options.specs.declared.options.Options.{Options}
use Rattle.worker_options.specs.Ranges.{AreInRange}
use Rattle.rounds.specs.declared.parallel_error.ParallelError.{ParallelError}
use Rattle.rounds.specs.declared.parallel_error.ParallelError.TheVariants.{BadOptions, OutOfMemory}
use Rattle.rounds.specs.declared.parallel_error.ParallelError.TheVariants.{Workers}

-- why no round came about, as the solver tells it
abbrev pub of_round : RoundError → ParallelError
of_round round.OutOfMemory = OutOfMemory
of_round round.Workers = Workers

-- what may be refused: the options exactly where a number is out of its range, and else memory; a
-- worker only where a round is allowed by more than one thread, and the net is not too large for
-- blocks
abbrev pub IsParallelRefusal : Network → Options → ParallelError → Type 0
IsParallelRefusal net options BadOptions = ¬ AreInRange options
IsParallelRefusal net options OutOfMemory = AreInRange options
IsParallelRefusal net options Workers =
    AreInRange options × (1 ≤ options.rounds) × (1 < options.threads)
    × (length net.arcs ≤ arc_limit)
