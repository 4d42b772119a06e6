use Rattle.std.proofs.Common.{◌≡◌}
use Rattle.later_expansions.proofs.Stages.{AreGiven}
use Rattle.later_expansions.proofs.later_expansion.take.Given as goal

abbrev pub invariant-loop-index : goal.invariant-loop-index
invariant-loop-index l = record {
  labels : l.labelling.labels ≡ l.fn.labelling.labels;
  given : AreGiven l.alpha l.fn.labelling.at l.labelling.at l.sites l.index l.changed;
}
