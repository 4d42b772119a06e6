use Rattle.std.proofs.Common.{map, take}
use Rattle.std.specs.VecDeque.{deque_capacity}
use Rattle.block_state.proofs.Nested.{AreOpenedTo}
use Rattle.block_state.proofs.all_ways.AllWays.open.Given as goal

abbrev pub invariant-rows : goal.invariant-rows
invariant-rows l = AreOpenedTo (map (λ row. map (λ way. way.items) row.items) l.rows.items) (map (λ row. map (λ way. deque_capacity way) row.items) l.rows.items) (take l.from l.rooms)
