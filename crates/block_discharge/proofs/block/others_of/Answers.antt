use Rattle.std.proofs.Common.{ap, arith}
use Rattle.block_net.specs.declared.lanes.Border.{Border}
use Rattle.block_discharge.proofs.Others.{known_more, known_once}
use Rattle.block_discharge.proofs.block.others_of.Goals as goal

pub borders-preserved : goal.borders-preserved
borders-preserved c = record {
  known = known_more c.args.cells.now c.borders.all.items c.push_reserved.new.self.items c.borders.j c.border.result.to c.borders.invariant.known
      (ap (λ (x : Border). x.to) c.border.ensures.value) c.push_reserved.ensures.items;
  len = omega arith;
  room = omega (arith, c.push_reserved.ensures.capacity, c.borders.invariant.room);
}

pub returns : goal.returns
returns c =
    known_once c.args.cells.now c.borders.all.items c.sort_unstable.new.self.items c.dedup.new.self.items
    (λ k l. c.borders.invariant.known k (omega (arith, l))) c.sort_unstable.ensures.permutation c.dedup.ensures.filtered
