use Rattle.std.proofs.Common.{◌≡◌, length, take}
use Rattle.gco_arrays.proofs.start.fill.Given as goal

abbrev pub invariant-loop-site : goal.invariant-loop-site
invariant-loop-site l =
    (l.start ≡ record l.initial.start { at = l.start.at }) × (length l.start.at ≡ length l.initial.start.at)
    × (take l.site l.start.at ≡ take l.site l.fn.given)
