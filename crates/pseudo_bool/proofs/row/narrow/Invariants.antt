use Rattle.std.proofs.Common.{◌≡◌, length, take}
use Rattle.pseudo_bool.proofs.row.narrow.Given as goal

abbrev pub invariant-loop-place : goal.invariant-loop-place
invariant-loop-place g l = (length l.kept ≡ length l.table) × (take l.place l.kept ≡ take l.place l.table)
