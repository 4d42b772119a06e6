use Rattle.std.proofs.Common.{refl, ap, arith}
use Rattle.label_field.proofs.Numbers.{with_number, one_more, all_numbered}
use Rattle.label_field.proofs.pairs.number_all.Goals as goal

pub loop-index-init : goal.loop-index-init
loop-index-init c = record { size = refl; done = λ k d l. absurd (omega (arith, l)); left = λ k d l. refl }

pub loop-index-preserved : goal.loop-index-preserved
loop-index-preserved c =
    one_more c.args.list.now.items c.loop-index.list.items c.loop-index.index _ c.index_mut.result.now c.loop-index.invariant (omega (arith, c.loop-index-test.true, c.len-index-end.ensures))
    (ap (with_number c.loop-index.index) c.index_mut.ensures.value)

pub returns : goal.returns
returns c = all_numbered c.args.list.now.items c.loop-index.list.items c.loop-index.index (omega (arith, c.loop-index-test.false, c.len-index-end.ensures)) c.loop-index.invariant
