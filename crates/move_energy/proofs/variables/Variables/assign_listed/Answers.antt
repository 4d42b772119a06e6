use Rattle.std.proofs.Common.{refl, arith}
use Rattle.move_energy.proofs.Opened.{opened_has, values_more, values_all}
use Rattle.move_energy.proofs.variables.Variables.assign_listed.Goals as goal

pub index_mut-requires : goal.index_mut-requires
index_mut-requires c =
    let has = opened_has c.args.self.now.choices.items c.args.opened.now c.loop-index.index c.requires c.loop-index-test.true in
    omega (arith, has.0, c.loop-index.invariant.assigned.count, c.loop-index.self.choices.ok.0)

pub loop-index-preserved : goal.loop-index-preserved
loop-index-preserved c = record {
  assigned = values_more c.args.self.now.choices.items c.args.bits.now c.args.opened.now c.loop-index.self.choices.items _ c.loop-index.index _ c.bit_at.result
      c.choice_of.result c.requires c.loop-index-test.true refl refl c.choice_of.ensures c.bit_at.ensures c.loop-index.invariant.assigned;
}

pub returns : goal.returns
returns c =
    values_all c.args.self.now.choices.items c.args.bits.now c.args.opened.now c.loop-index.self.choices.items c.loop-index.index c.requires
    (omega (arith, c.loop-index-test.false)) c.loop-index.invariant.assigned
