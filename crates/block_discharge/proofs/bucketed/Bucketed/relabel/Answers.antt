use Rattle.std.proofs.Common.{◌≡◌, ◌∙◌, ap, get_or-set_other}
use Rattle.block_net.specs.Views.{CellsView, count, excess_in, label_in, cells_after_relabel}
use Rattle.block_discharge.proofs.Placing.{risen_stands}
use Rattle.block_discharge.proofs.bucketed.Bucketed.relabel.Goals as goal

pub invariant_of-self : goal.invariant_of-self
invariant_of-self c =
    let b = c.self.inside.cells in
    let is : c.relabel.new.self ≡ cells_after_relabel b c.args.v c.args.label = c.relabel.ensures.labelled in
    risen_stands b c.relabel.new.self _ _ c.args.v c.self.invariant (ap count is) (ap (λ (x : CellsView). x.top) is)
    (λ u off. ap (λ (x : CellsView). label_in x u) is ∙ get_or-set_other b.labels c.args.v u _ 0 off) (λ u. ap (λ (x : CellsView). excess_in x u) is) c.move_up.ensures
