use Rattle.std.proofs.Common.{◌≡◌, ap}
use Rattle.block_net.specs.Views.{CellsView, count, excess_in, label_in, cells_after_delivery}
use Rattle.block_discharge.proofs.Placing.{same_stands}
use Rattle.block_discharge.proofs.bucketed.Bucketed.deliver_parcel.Goals as goal

pub invariant_of-self : goal.invariant_of-self
invariant_of-self c =
    let b = c.self.inside.cells in
    let is : c.deliver_parcel.new.self ≡ cells_after_delivery b c.args.j = c.deliver_parcel.ensures in
    same_stands b c.deliver_parcel.new.self _ c.self.invariant (ap count is) (ap (λ (x : CellsView). x.top) is)
    (λ u. ap (λ (x : CellsView). label_in x u) is) (λ u. ap (λ (x : CellsView). excess_in x u) is)
