-- What a move tells of a refused cut.
use Rattle.cut_ways.specs.declared.solve_error.SolveError.{SolveError}
use Rattle.cut_ways.specs.declared.solve_error.SolveError.TheVariants.{OutOfMemory as NoMemory}
use Rattle.cut_ways.specs.declared.solve_error.SolveError.TheVariants.{Workers as NoWorkers}
use Rattle.cut_ways.specs.declared.solve_error.SolveError.TheVariants.{BadOptions as NoOptions}
use Rattle.one_move.specs.declared.error.MoveError.{MoveError}
use Rattle.one_move.specs.declared.error.MoveError.TheVariants.{OutOfMemory, Workers}
use Rattle.one_move.specs.declared.error.MoveError.TheVariants.{BadOptions}

-- the refusal of a move whose cut was refused so
abbrev pub cut_told : SolveError → MoveError
cut_told NoMemory = OutOfMemory
cut_told NoWorkers = Workers
cut_told NoOptions = BadOptions
