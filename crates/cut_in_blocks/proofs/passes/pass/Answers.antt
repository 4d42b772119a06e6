use Rattle.std.proofs.Common.{◌≡◌, length, ◌∙◌, subst, arith}
use Rattle.block_events.specs.Soundness.{IsSquare}
use Rattle.cut_in_blocks.proofs.Passing.{turn_goes, turn_still}
use Rattle.cut_in_blocks.proofs.passes.pass.Goals as goal

pub turn_of-after-requires-clause-square : goal.turn_of-after-requires-clause-square
turn_of-after-requires-clause-square c =
    let now = c.turns.invariant.0 0 c.requires.going in
    let size : length c.turns.blocks.items ≡ c.len-count.result = omega (arith, c.len-count.ensures, c.requires.going.size, now.size) in
    subst (λ n. IsSquare n c.turns.ways.messages) size now.sound.sized.ways

pub turns-preserved : goal.turns-preserved
turns-preserved c =
    let p = c.args.old.now.value in
    let inv = c.turns.invariant in
    let now = inv.0 0 c.requires.going in
    let size : c.len-count.result ≡ length c.turns.blocks.items = omega (arith, c.len-count.ensures, c.requires.going.size, now.size) in (
      turn_goes p c.args.blocks.now.items c.turns.blocks.items c.args.ways c.turns.ways c.turn_of-after.result.0 c.len-count.result c.turns.b c.turn_of-after.result.2 c.index_mut.result.now c.turn_of-after.new.block c.turns.some
          size c.turns-test.true c.index_mut.ensures.value c.turn_of-after.ensures.run c.turn_of-after.ensures.rooms inv.0,
      turn_still p c.args.blocks.now.items c.turns.blocks.items c.args.ways c.turns.ways c.turn_of-after.result.0 c.len-count.result c.turns.b c.turn_of-after.result.2 c.index_mut.result.now c.turn_of-after.new.block c.turns.some
          size c.turns-test.true c.index_mut.ensures.value c.turn_of-after.ensures.run _ c.requires.ready now c.turns.slots.items c.args.arcs (c.turn_of-after.ensures.some c.requires.some) inv.1,
      c.turn_of-after.ensures.slots ∙ inv.2,
    )
