use Rattle.std.proofs.Common.{◌≡◌, length, take}
use Rattle.pseudo_bool.proofs.row.widen.Given as goal

abbrev pub invariant-loop-place : goal.invariant-loop-place
invariant-loop-place g l = (length l.read ≡ length l.table) × (take l.place l.read ≡ take l.place l.table)
