use Rattle.std.proofs.Common.{◌<◌, inl, inr, arith}
use Rattle.cut_in_blocks.proofs.Taking.{Remembers, ways_step}
use Rattle.cut_in_blocks.proofs.messages.take_row.Goals as goal
use Rattle.cut_in_blocks.proofs.messages.take_row.Goals.{then-take_way, else-take_way}

pub ways-preserved : goal.ways-preserved
ways-preserved c =
    let told : Remembers c.take_way.result c.ways.some c.if-take_way.some = elim c.if-take_way.branch [
      | then-take_way w ↦ inl (w.if-take_way.true, w.some-is)
      | else-take_way w ↦ inr (w.if-take_way.false, w.some-is)
    ] in
    let to : c.ways.to < c.args.state.now.blocks = omega (arith, c.ways-test.true, c.blocks-blocks.ensures.value) in
    ways_step c.args.state.now c.ways.state c.take_way.new.state c.args.from c.ways.to c.ways.some c.take_way.result c.if-take_way.some c.ways.invariant.0 c.ways.invariant.1
    c.take_way.ensures.taken c.take_way.ensures.none c.requires to told
