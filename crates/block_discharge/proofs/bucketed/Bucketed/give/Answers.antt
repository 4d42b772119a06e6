use Rattle.std.proofs.Common.{◌≡◌, min, ◌∙◌, ap, get_or-set_other}
use Rattle.std.proofs.lemmas.List.{length-set}
use Rattle.block_net.specs.Views.{CellsView, count, excess_in, label_in, room_in, cells_after_sink_push}
use Rattle.block_discharge.proofs.Placing.{one_stands}
use Rattle.block_discharge.proofs.bucketed.Bucketed.give.Goals as goal

pub invariant_of-self : goal.invariant_of-self
invariant_of-self c =
    let b = c.self.inside.cells in
    let is : c.give.new.self ≡ cells_after_sink_push b c.args.v (min (excess_in b c.args.v) (room_in b c.args.v)) = c.give.ensures.given in
    one_stands b c.give.new.self _ _ c.args.v c.self.invariant (ap count is ∙ length-set b.excess c.args.v _) (ap (λ (x : CellsView). x.top) is)
    (λ u. ap (λ (x : CellsView). label_in x u) is) (λ u off. ap (λ (x : CellsView). excess_in x u) is ∙ get_or-set_other b.excess c.args.v u _ 0 off) c.renew.ensures
