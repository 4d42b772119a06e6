use Rattle.std.proofs.Common.{◌≡◌, ◌∙◌, sym, ap, get_or-set_other}
use Rattle.std.proofs.lemmas.List.{length-set}
use Rattle.block_net.specs.declared.lanes.Border.{Border}
use Rattle.block_net.specs.Views.{CellsView, count, excess_in, label_in, border_in, cells_after_accept}
use Rattle.block_discharge.proofs.Placing.{one_stands}
use Rattle.block_discharge.proofs.bucketed.Bucketed.accept.Goals as goal

pub invariant_of-self : goal.invariant_of-self
invariant_of-self c =
    let b = c.self.inside.cells in
    let near : c.border-near.result.near ≡ (border_in b c.args.j).near = ap (λ (x : Border). x.near) c.border-near.ensures.value in
    let is : c.accept-accepted.new.self ≡ cells_after_accept b c.args.j c.args.amount c.args.label = c.accept-accepted.ensures.accepted in
    one_stands b c.accept-accepted.new.self _ _ c.border-near.result.near c.self.invariant (ap count is ∙ length-set b.excess (border_in b c.args.j).near _) (ap (λ (x : CellsView). x.top) is)
    (λ u. ap (λ (x : CellsView). label_in x u) is)
    (λ u off. ap (λ (x : CellsView). excess_in x u) is ∙ get_or-set_other b.excess (border_in b c.args.j).near u _ 0 (λ e. off (e ∙ sym near))) c.renew.ensures
