-- What workers may refuse.
use Rattle.std.specs.Prelude.{◌<◌, ◌≤◌}
use Rattle.cut_ways.specs.declared.solve_error.SolveError.{SolveError}
use Rattle.cut_ways.specs.declared.solve_error.SolveError.TheVariants.{OutOfMemory, Workers}
use Rattle.cut_ways.specs.declared.solve_error.SolveError.TheVariants.{BadOptions}
use Rattle.worker_options.specs.declared.options.Options.{Options}
use Rattle.worker_options.specs.Ranges.{AreInRange}
use Rattle.rounds.specs.declared.parallel_error.ParallelError.{ParallelError}
use Rattle.rounds.specs.declared.parallel_error.ParallelError.TheVariants as parallel

-- the refusal of a cut by workers, as a way to cut nets has it
abbrev pub of_parallel : ParallelError → SolveError
of_parallel parallel.OutOfMemory = OutOfMemory
of_parallel parallel.Workers = Workers
of_parallel parallel.BadOptions = BadOptions

-- the options exactly where a number is out of its range, and else memory; a worker only where a
-- round is allowed by more than one thread
abbrev pub MayFailToSolve : Options → SolveError → Type 0
MayFailToSolve options OutOfMemory = AreInRange options
MayFailToSolve options Workers = AreInRange options × (1 ≤ options.rounds) × (1 < options.threads)
MayFailToSolve options BadOptions = ¬ AreInRange options
