use Rattle.std.proofs.Common.{◌<◌, All, length}
use Rattle.dual_bound.proofs.squares.list_corners.Given as goal

abbrev pub invariant-loop-later : goal.invariant-loop-later
invariant-loop-later l = record {
  corners : All (λ corner. corner < length l.heights) l.corners;
  top : l.top < l.later;
}
