-- The faults of what is asked for.
use Rattle.std.specs.Prelude.{◌≡◌, Option, Some, None}
use Rattle.byte_streams.specs.Streams.{Stream}
use Rattle.command_line.specs.declared.task.Request.{Request}
use Rattle.cut_ways.specs.declared.solve_error.SolveError.{SolveError}
use Rattle.cut_ways.specs.declared.solve_error.SolveError.TheVariants.{OutOfMemory}
use Rattle.worker_options.specs.declared.options.Options.{Options}
use Rattle.rounds.specs.SolveErrors.{MayFailToSolve}
use Rattle.program_texts.specs.declared.fault.Fault.{Fault}
use Rattle.program_tasks.specs.Commands.{IsFaultFor}

-- what the cuts may refuse: one thread memory alone, workers also that the system starts none
abbrev pub cuts_refuse : Option Options → SolveError → Type 0
cuts_refuse None e = e ≡ OutOfMemory
cuts_refuse (Some options) e = MayFailToSolve options e

-- the fault is one of some input, for what is asked for
abbrev pub StandsForAsked : Request → Stream → Fault → Type 0
StandsForAsked request source fault =
    IsFaultFor (cuts_refuse request.workers) request.task source fault
