use Rattle.std.proofs.Common.{All, take}
use Rattle.gco_pictures.specs.Options.{IsOptionInRange}
use Rattle.gco_pictures.proofs.options.first_wrong.Given as goal

abbrev pub invariant-loop-place : goal.invariant-loop-place
invariant-loop-place l = All IsOptionInRange (take l.place l.numbers)
