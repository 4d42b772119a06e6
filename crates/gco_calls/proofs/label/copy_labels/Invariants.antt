use Rattle.std.proofs.Common.{◌≡◌, length, take}
use Rattle.gco_calls.proofs.label.copy_labels.Given as goal

abbrev pub invariant-loop-place : goal.invariant-loop-place
invariant-loop-place l = (length l.to ≡ length l.initial.to) × (take l.place l.to ≡ take l.place l.fn.from)
