use Rattle.std.proofs.Common.{◌≡◌, length, ap, sym, subst, arith}
use Rattle.std.proofs.lemmas.List.{with_items_is}
use Rattle.cut_in_blocks.specs.Opening.{AllBlocksGave}
use Rattle.cut_in_blocks.proofs.Opened.{opening_from}
use Rattle.cut_in_blocks.proofs.opening.open_by_threads.Goals as goal

pub open_side_by_side-requires-clause-opening : goal.open_side_by_side-requires-clause-opening
open_side_by_side-requires-clause-opening g c =
    let ensures = c.into_pieces-pieces.ensures in
    rw (c.of-old.ensures) (rw (c.as_mut_slice.ensures.value) (λ κs within. opening_from c.into_pieces-pieces.result c.args.state ensures.state ensures.laid ensures.held c.requires.zero))

pub returns-clause-gave : goal.returns-clause-gave
returns-clause-gave g c =
    let blocks = c.into_pieces-pieces.result.parts.blocks in
    let new = c.open_side_by_side.new.blocks in
    let long : length new ≡ length blocks.items = omega (arith, c.open_side_by_side.auto.blocks, ap length c.as_mut_slice.ensures.value) in
    c.state_of.ensures.gave (subst AllBlocksGave (sym (with_items_is blocks new (omega (arith, long, blocks.ok.0)))) c.open_side_by_side.ensures.gave)
