use Rattle.std.proofs.Common.{◌≡◌, min, slice_index, sym, ◌∙◌, ap, subst}
use Rattle.block_net.specs.Views.{CellsView, excess_in, room_in}
use Rattle.block_net.specs.Whole.{Whole, put_block}
use Rattle.block_split.specs.Split.{whole_of}
use Rattle.block_events.specs.Effects.{blocks_after_sink_push}
use Rattle.net_in_blocks.specs.Views.{blocks_in, IsLaid}
use Rattle.net_in_blocks.proofs.Steps.{at_read, given_amount, gave_at}
use Rattle.net_in_blocks.proofs.blocks.Blocks.give.Goals as goal

pub invariant_of-self : goal.invariant_of-self
invariant_of-self c =
    let i = c.self.inside in
    let w : Whole = whole_of i.net i.parts in
    let b = c.spot-block.result.0 in
    let p = c.spot-block.result.1 in
    let B = c.index_mut.result.now in
    let at = at_read w c.args.self.now b B c.self.invariant c.self.view_is c.spot-block.ensures.block c.index_mut.ensures.value in
    let a = min (excess_in B p) (room_in B p) in
    subst (λ (q : CellsView). IsLaid (put_block w b q)) (sym c.give.ensures.given) (gave_at w _ b B c.args.v p a at c.spot-block.ensures c.give.ensures.place).laid

pub returns-clause-given : goal.returns-clause-given
returns-clause-given c =
    let i = c.self.inside in
    let w : Whole = whole_of i.net i.parts in
    let b = c.spot-block.result.0 in
    let p = c.spot-block.result.1 in
    let B = c.index_mut.result.now in
    let at = at_read w c.args.self.now b B c.self.invariant c.self.view_is c.spot-block.ensures.block c.index_mut.ensures.value in
    let v = c.args.self.now in
    let a = min (excess_in B p) (room_in B p) in
    let amount = given_amount w v b B c.args.v p at c.spot-block.ensures in
    subst (λ (q : CellsView). blocks_in (put_block w b q) ≡ blocks_after_sink_push v c.args.v (min (slice_index v.excess c.args.v) (slice_index v.rooms c.args.v))) (sym c.give.ensures.given)
    ((gave_at w _ b B c.args.v p a at c.spot-block.ensures c.give.ensures.place).view ∙ ap (blocks_after_sink_push v c.args.v) amount)

pub returns-clause-amount : goal.returns-clause-amount
returns-clause-amount c =
    let i = c.self.inside in
    let w : Whole = whole_of i.net i.parts in
    let b = c.spot-block.result.0 in
    let p = c.spot-block.result.1 in
    let B = c.index_mut.result.now in
    let at = at_read w c.args.self.now b B c.self.invariant c.self.view_is c.spot-block.ensures.block c.index_mut.ensures.value in
    c.give.ensures.amount ∙ given_amount w _ b B c.args.v p at c.spot-block.ensures
