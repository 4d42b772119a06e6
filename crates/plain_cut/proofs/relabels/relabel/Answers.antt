use Rattle.std.proofs.Common.{refl, arith}
use Rattle.plain_cut.proofs.Steps.{relabel_step}
use Rattle.plain_cut.proofs.relabels.relabel.Goals as goal

pub returns : goal.returns
returns c =
    relabel_step c.args.net.now c.args.work.now _ c.args.v c.highest_label.result c.highest_label.ensures.limits c.requires.work c.requires.node
    c.requires.some c.highest_label.ensures.rises c.highest_label.ensures.lowest refl refl refl refl refl (omega (arith, c.saturating_add-work.ensures))
