use Rattle.std.proofs.lemmas.Grind.{common_steps}
use Rattle.std.proofs.Common.{◌≡◌, true, sym, ◌∙◌, ap, subst, arith}
use Rattle.block_events.specs.declared.lane.Lane.{Lane}
use Rattle.block_events.specs.declared.direction.Direction.{Direction}
use Rattle.block_events.specs.declared.message.Message.TheVariants.{Accepted}
use Rattle.block_events.specs.Directions.{opposite}
use Rattle.block_events.specs.Soundness.{amount_out}
use Rattle.block_events.proofs.Lanes.{border_opposite}
use Rattle.block_net.specs.Views.{CellsView, border_in}
use Rattle.block_net.specs.Whole.{Whole, put_block, is_outer}
use Rattle.block_split.specs.Split.{whole_of}
use Rattle.block_events.specs.Effects.{blocks_after_accept}
use Rattle.net_in_blocks.specs.Views.{blocks_in, IsLaid, IsRow}
use Rattle.net_in_blocks.proofs.Steps.{at_read, border_read, border_capacity, row_as, back_spot, back_names, out_same, accepted_at}
use Rattle.net_in_blocks.proofs.blocks.Blocks.accept.Goals as goal

pub accept-requires-clause-fits : goal.accept-requires-clause-fits
accept-requires-clause-fits c =
    let i = c.self.inside in
    let w : Whole = whole_of i.net i.parts in
    let b = c.row-block.result.0 in
    let p = c.row-block.result.1 in
    let B = c.index_mut.result.now in
    let at = at_read w c.args.self.now b B c.self.invariant c.self.view_is c.row-block.ensures.block c.index_mut.ensures.value in
    let x = c.args.direction in
    let found = subst (λ (q : Direction). IsRow w q (is_outer w q) b p) c.opposite_of.ensures c.row-block.ensures in
    let row = row_as w _ b B (opposite x) true p at found (border_opposite c.args.self.now.net c.args.self.now.blocks x ∙ c.requires.border.border) in
    let lane = border_read w _ b B (opposite x) p at row in
    omega (arith, out_same (border_in B p).flight, ap (λ (q : Lane). amount_out q.flight) lane, ap (λ (q : Lane). q.residual) lane, border_capacity w _ b B (opposite x) p at row, c.requires.fits)

pub invariant_of-self : goal.invariant_of-self
invariant_of-self c =
    let i = c.self.inside in
    let w : Whole = whole_of i.net i.parts in
    let b = c.row-block.result.0 in
    let p = c.row-block.result.1 in
    let B = c.index_mut.result.now in
    let at = at_read w c.args.self.now b B c.self.invariant c.self.view_is c.row-block.ensures.block c.index_mut.ensures.value in
    let x = c.args.direction in
    let found = subst (λ (q : Direction). IsRow w q (is_outer w q) b p) c.opposite_of.ensures c.row-block.ensures in
    let row = row_as w _ b B (opposite x) true p at found (border_opposite c.args.self.now.net c.args.self.now.blocks x ∙ c.requires.border.border) in
    subst (λ (q : CellsView). IsLaid (put_block w b q)) (sym c.accept.ensures.accepted) (accepted_at w _ b B x p c.args.amount c.args.label at row (back_spot w _ b B x p at row)).laid

pub returns-clause-accepted : goal.returns-clause-accepted
returns-clause-accepted c =
    let i = c.self.inside in
    let w : Whole = whole_of i.net i.parts in
    let b = c.row-block.result.0 in
    let p = c.row-block.result.1 in
    let B = c.index_mut.result.now in
    let at = at_read w c.args.self.now b B c.self.invariant c.self.view_is c.row-block.ensures.block c.index_mut.ensures.value in
    let x = c.args.direction in
    let found = subst (λ (q : Direction). IsRow w q (is_outer w q) b p) c.opposite_of.ensures c.row-block.ensures in
    let row = row_as w _ b B (opposite x) true p at found (border_opposite c.args.self.now.net c.args.self.now.blocks x ∙ c.requires.border.border) in
    subst (λ (q : CellsView). blocks_in (put_block w b q) ≡ blocks_after_accept c.args.self.now x c.args.amount c.args.label) (sym c.accept.ensures.accepted) (accepted_at w _ b B x p c.args.amount c.args.label at row (back_spot w _ b B x p at row)).view

pub accept-requires-clause-label : goal.accept-requires-clause-label
accept-requires-clause-label c = grind (arith, common_steps)

pub accept-requires-clause-place : goal.accept-requires-clause-place
accept-requires-clause-place c = grind (arith, common_steps)

pub returns-clause-answer : goal.returns-clause-answer
returns-clause-answer c =
    let i = c.self.inside in
    let w : Whole = whole_of i.net i.parts in
    let b = c.row-block.result.0 in
    let p = c.row-block.result.1 in
    let B = c.index_mut.result.now in
    let at = at_read w c.args.self.now b B c.self.invariant c.self.view_is c.row-block.ensures.block c.index_mut.ensures.value in
    let x = c.args.direction in
    let found = subst (λ (q : Direction). IsRow w q (is_outer w q) b p) c.opposite_of.ensures c.row-block.ensures in
    let row = row_as w _ b B (opposite x) true p at found (border_opposite c.args.self.now.net c.args.self.now.blocks x ∙ c.requires.border.border) in
    c.accept.ensures.answer ∙ ap (λ (q : Direction). Accepted q c.args.amount) (back_names w _ b B x p at row)
