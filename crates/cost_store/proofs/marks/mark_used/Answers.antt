use Rattle.std.proofs.Common.{refl}
use Rattle.label_energies.specs.Energies.{labelling}
use Rattle.cost_store.proofs.Marking.{none_marked, one_marked}
use Rattle.cost_store.proofs.marks.mark_used.Goals as goal

pub loop-site-init : goal.loop-site-init
loop-site-init c = none_marked (labelling c.args.at.now)

pub loop-site-preserved : goal.loop-site-preserved
loop-site-preserved c = one_marked c.loop-site.site (labelling c.args.at.now) (labelling c.args.at.now c.loop-site.site) c.loop-site.marks c.loop-site.invariant refl
