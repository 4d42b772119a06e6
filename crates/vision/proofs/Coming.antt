-- What one way to cut may refuse some way may.
use Rattle.moves.specs.Problems.{IsRunRefusal}
use Rattle.one_move.specs.declared.error.MoveError.{MoveError}
use Rattle.one_move.specs.declared.error.MoveError.TheVariants as move
use Rattle.cut_ways.specs.declared.solve_error.SolveError.{SolveError}
use Rattle.vision.specs.Faults.{any_cut}

pub any_run : (refuses : SolveError → Type 0) (e : MoveError) → IsRunRefusal refuses e → IsRunRefusal any_cut e
any_run refuses move.OutOfMemory h = tt
any_run refuses move.LabelCostInSwap h = tt
any_run refuses (move.PairNotRegular pair alpha beta) h = tt
any_run refuses move.Workers h = tt
any_run refuses move.BadOptions h = tt
any_run refuses move.NoSuchLabel h = h
any_run refuses move.NoBound h = h
