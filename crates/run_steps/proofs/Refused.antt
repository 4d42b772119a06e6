-- What a run may refuse.
use Rattle.std.proofs.Common.{◌≡◌, ℕ, subst}
use Rattle.label_energies.specs.declared.change.Move.{Move}
use Rattle.label_energies.specs.Moves.{IsMoveOf, IsSwap}
use Rattle.cut_ways.specs.declared.solve_error.SolveError.{SolveError}
use Rattle.one_move.specs.declared.error.MoveError.{MoveError}
use Rattle.one_move.specs.declared.error.MoveError.TheVariants.{NoSuchLabel, LabelCostInSwap, PairNotRegular, Workers, BadOptions, NoBound, OutOfMemory}
use Rattle.one_move.specs.Moved.{IsMoveRefusal}
use Rattle.run_steps.specs.Problems.{IsRunRefusal}

-- what a move between labels refuses, a run may refuse
pub run_may_come : (refuses : SolveError → Type 0) (labels : ℕ) (move : Move) (e : MoveError) → IsMoveOf labels move → IsMoveRefusal refuses labels move e → IsRunRefusal refuses e
run_may_come refuses labels move NoSuchLabel below refused = absurd (refused below)
run_may_come refuses labels move LabelCostInSwap below refused = tt
run_may_come refuses labels move NoBound below refused = absurd refused
run_may_come refuses labels move (PairNotRegular place alpha beta) below refused = tt
run_may_come refuses labels move Workers below refused = refused
run_may_come refuses labels move BadOptions below refused = refused
run_may_come refuses labels move OutOfMemory below refused = tt

-- what a move refuses for label costs is a swap
pub costs_swap : (refuses : SolveError → Type 0) (labels : ℕ) (move : Move) (e : MoveError) → e ≡ LabelCostInSwap → IsMoveRefusal refuses labels move e → IsSwap move
costs_swap refuses labels move e is refused = (let P : MoveError → Type 0 = λ told. IsMoveRefusal refuses labels move told in subst P is refused)
