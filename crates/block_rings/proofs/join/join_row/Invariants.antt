use Rattle.std.proofs.Common.{length, map}
use Rattle.block_rings.specs.Joining.{AreBegun}
use Rattle.block_rings.proofs.join.join_row.Given as goal

abbrev pub invariant-loop-b : goal.invariant-loop-b
invariant-loop-b l = AreBegun l.ring (length l.rows.items) l.b l.c (map (λ row. row.items) l.rows.items) (map (λ list. list.items) l.lists.items)
