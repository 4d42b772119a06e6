use Rattle.std.proofs.Common.{◌≡◌, length}
use Rattle.block_split.proofs.side_by_side.no_blocks.Given as goal

abbrev pub invariant-loop : goal.invariant-loop
invariant-loop l = length l.made.items ≡ l.counter
