use Rattle.std.proofs.Common.{◌≡◌, take}
use Rattle.gco_arrays.specs.Calls.{list_given}
use Rattle.gco_arrays.proofs.pairs.pairs_of.Given as goal

abbrev pub invariant-loop-place : goal.invariant-loop-place
invariant-loop-place l = l.pairs ≡ list_given l.fn.sites (take l.place l.fn.given)
