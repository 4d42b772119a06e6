use Rattle.std.proofs.Common.{refl, arith}
use Rattle.move_energy.proofs.Opened.{opened_count, opened_has, values_more, values_all}
use Rattle.near_changes.proofs.opening.assign.Goals as goal

pub bounds-bits-index : goal.bounds-bits-index
bounds-bits-index c =
    let count = opened_count c.args.choices.now.items c.args.opened.now c.requires.listed in
    omega (arith, count, c.requires.bits, c.loop-index-test.true)

pub index_mut-requires : goal.index_mut-requires
index_mut-requires c =
    let has = opened_has c.args.choices.now.items c.args.opened.now c.loop-index.index c.requires.listed c.loop-index-test.true in
    omega (arith, has.0, c.loop-index.invariant.count, c.loop-index.choices.ok.0)

pub loop-index-preserved : goal.loop-index-preserved
loop-index-preserved c =
    values_more c.args.choices.now.items c.args.bits.now c.args.opened.now c.loop-index.choices.items _ c.loop-index.index _ _ c.choice_of.result
    c.requires.listed c.loop-index-test.true refl refl c.choice_of.ensures refl c.loop-index.invariant

pub returns : goal.returns
returns c =
    values_all c.args.choices.now.items c.args.bits.now c.args.opened.now c.loop-index.choices.items c.loop-index.index c.requires.listed
    (omega (arith, c.loop-index-test.false)) c.loop-index.invariant
