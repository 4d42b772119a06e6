use Rattle.std.proofs.Common.{◌≡◌, map, replicate}
use Rattle.block_state.proofs.rooms.Rooms.new.Given as goal

abbrev pub invariant-rows : goal.invariant-rows
invariant-rows l = map (λ row. row.items) l.rows.items ≡ replicate l._row (replicate l.blocks 0)
