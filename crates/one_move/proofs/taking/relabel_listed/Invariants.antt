use Rattle.std.proofs.Common.{◌≡◌}
use Rattle.one_move.proofs.Changes.{AreWrittenAt, label_at}
use Rattle.one_move.proofs.taking.relabel_listed.Given as goal

abbrev pub invariant-loop-index : goal.invariant-loop-index
invariant-loop-index l = record {
  labels : l.labelling.labels ≡ l.fn.labelling.labels;
  written : AreWrittenAt l.fn.labelling.at l.labelling.at (label_at l.change l.fn.labelling.at l.choices) l.sites l.index l.changed;
}
