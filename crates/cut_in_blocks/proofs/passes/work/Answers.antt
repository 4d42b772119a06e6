use Rattle.std.proofs.Common.{List, length, sym, ◌∙◌, ap, subst}
use Rattle.sums.specs.Sums.{count_if}
use Rattle.block_net.specs.Views.{CellsView}
use Rattle.block_state.specs.declared.pieces.Pieces.{Pieces}
use Rattle.block_state.specs.Pieces.{state_in}
use Rattle.cut_in_blocks.specs.Passes.{IsGoing, IsQuietAndHeld, IsStill}
use Rattle.cut_in_blocks.proofs.Going.{ready_from, still_from, still_finished}
use Rattle.cut_in_blocks.proofs.Passing.{work_done}
use Rattle.cut_in_blocks.proofs.passes.work.Goals as goal

pub passes-ways-requires-clause-ready : goal.passes-ways-requires-clause-ready
passes-ways-requires-clause-ready c =
    let first = c.into_pieces-pieces.result in
    subst IsQuietAndHeld (sym c.of-old.ensures) (ready_from first c.args.state (sym c.into_pieces-pieces.ensures.state) c.requires.quiet c.into_pieces-pieces.ensures.held)

pub state_of-requires-clause-ready : goal.state_of-requires-clause-ready
state_of-requires-clause-ready c =
    let first = c.into_pieces-pieces.result in
    subst IsQuietAndHeld (sym c.of-old.ensures) (ready_from first c.args.state (sym c.into_pieces-pieces.ensures.state) c.requires.quiet c.into_pieces-pieces.ensures.held)

pub returns-clause-less : goal.returns-clause-less
returns-clause-less c =
    let p = c.of-old.result.value in
    let first = c.into_pieces-pieces.result in
    let ways = c.passes-ways.result.0 in
    let blocks = c.in_ok-blocks-2.blocks.items in
    let cells = c.in_ok-blocks-2.ensures in
    let ready = subst IsQuietAndHeld (sym c.of-old.ensures) (ready_from first c.args.state (sym c.into_pieces-pieces.ensures.state) c.requires.quiet c.into_pieces-pieces.ensures.held) in
    let going = subst (λ (bs : List CellsView). IsGoing p bs ways (count_if c.passes-ways.result.2 1)) (sym cells) c.passes-ways.ensures.going in
    work_done p blocks ways c.args.state c.state_of.result c.passes-ways.result.2 (sym c.into_pieces-pieces.ensures.state ∙ ap state_in (sym c.of-old.ensures))
    going c.state_of.ensures.lower
    (λ off. still_finished p blocks ways ready going.size (subst (λ (bs : List CellsView). IsStill p bs ways (length bs)) (sym cells) (c.passes-ways.ensures.still off
    (subst (λ (bs : List CellsView). IsStill p bs first.ways 0) (sym c.in_ok-blocks.ensures) (subst (λ (q : Pieces). IsStill p q.parts.blocks.items q.ways 0) c.of-old.ensures (still_from p))))))
    c.requires.unfinished
