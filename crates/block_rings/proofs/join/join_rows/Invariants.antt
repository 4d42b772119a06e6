use Rattle.std.proofs.Common.{length, map}
use Rattle.block_rings.specs.Joining.{AreBegun}
use Rattle.block_rings.proofs.join.join_rows.Given as goal

abbrev pub invariant-loop-c : goal.invariant-loop-c
invariant-loop-c l = AreBegun l.ring (length l.rows.items) 0 l.c (map (λ row. row.items) l.rows.items) (map (λ list. list.items) l.lists.items)
