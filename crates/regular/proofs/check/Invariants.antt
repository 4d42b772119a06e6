use Rattle.std.proofs.Common.{All, take}
use Rattle.regular.specs.Regularity.{IsRegularTerm}
use Rattle.regular.proofs.check.Given as goal

abbrev pub invariant-loop-index : goal.invariant-loop-index
invariant-loop-index l = All IsRegularTerm (take l.index l.energy.terms)
