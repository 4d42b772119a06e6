use Rattle.std.proofs.Common.{map, take}
use Rattle.std.specs.VecDeque.{deque_capacity}
use Rattle.block_state.proofs.Nested.{IsOpenedTo}
use Rattle.block_state.proofs.all_ways.empty_ways.Given as goal

abbrev pub invariant-loop-room : goal.invariant-loop-room
invariant-loop-room l = IsOpenedTo (map (λ way. way.items) l.ways.items) (map (λ way. deque_capacity way) l.ways.items) (take l.room-index l.rooms)
