use Rattle.std.proofs.Common.{◌≡◌, length, map, take}
use Rattle.gco_calls.specs.Minima.{digit_of}
use Rattle.gco_calls.proofs.minimise.copy_bits.Given as goal

abbrev pub invariant-loop-place : goal.invariant-loop-place
invariant-loop-place l =
    (length l.to ≡ length l.initial.to) × (take l.place l.to ≡ map digit_of (take l.place l.fn.from))
