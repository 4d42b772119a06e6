use Rattle.std.proofs.Common.{◌≡◌, [], map, replicate}
use Rattle.block_rings.proofs.join.empty_lists.Given as goal

abbrev pub invariant-loop-block : goal.invariant-loop-block
invariant-loop-block l = map (λ list. list.items) l.lists.items ≡ replicate l._block []
