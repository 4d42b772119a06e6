use Rattle.std.proofs.Common.{length}
use Rattle.label_energies.specs.Energies.{labelling}
use Rattle.near_changes.proofs.Scanning.{AreScanned}
use Rattle.near_changes.proofs.stage.Stage.mark_fresh.Given as goal

abbrev pub invariant-loop-site : goal.invariant-loop-site
invariant-loop-site l = AreScanned l.pairs l.ends l.alpha (labelling l.at) l.stamps l.since (length l.at) l.site l.self
