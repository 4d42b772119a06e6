use Rattle.std.proofs.Common.{◌≡◌}
use Rattle.std.specs.Prelude.{slice_index}
use Rattle.label_energies.specs.Moves.{label_after}
use Rattle.one_move.specs.Building.{site_values}
use Rattle.one_move.proofs.Relabelled.{AreWritten}
use Rattle.one_move.proofs.taking.relabel_all.Given as goal

abbrev pub invariant-loop-site : goal.invariant-loop-site
invariant-loop-site l = record {
  labels : l.labelling.labels ≡ l.fn.labelling.labels;
  written : AreWritten l.fn.labelling.at l.labelling.at
      (λ p. label_after l.change (slice_index l.fn.labelling.at p) (site_values l.choices p))
      l.site l.changed;
}
