use Rattle.std.proofs.Common.{arith}
use Rattle.std.proofs.lemmas.Grind.{common_steps}
use Rattle.block_discharge.proofs.Runs.{look_same, look_more}
use Rattle.block_workers.specs.Seeing.{ways_of_ports}
use Rattle.block_workers.proofs.Looking.{same_ports, same_more, looked, kept}
use Rattle.block_workers.proofs.ends.has_letter.Goals as goal

pub loop-k-init : goal.loop-k-init
loop-k-init c = record { look = look_same (ways_of_ports c.args.ports.now.items); same = same_ports c.args.ports.now.items }

pub returns-then-is_some-clause-look : goal.returns-then-is_some-clause-look
returns-then-is_some-clause-look c =
    look_more _ _ _ c.loop-k.invariant.look (looked c.loop-k.ports.items c.loop-k.k c.index_mut.result.now c.front.new.self (grind (arith, common_steps)) c.index_mut.ensures.value c.front.ensures.look)

pub returns-then-is_some-clause-same : goal.returns-then-is_some-clause-same
returns-then-is_some-clause-same c =
    same_more _ _ _ c.loop-k.invariant.same (kept c.loop-k.ports.items c.loop-k.k c.index_mut.result.now c.front.new.self (grind (arith, common_steps)) c.index_mut.ensures.value c.front.ensures.look.same)

pub loop-k-preserved : goal.loop-k-preserved
loop-k-preserved c = record {
  look = look_more _ _ _ c.loop-k.invariant.look (looked c.loop-k.ports.items c.loop-k.k c.index_mut.result.now c.front.new.self (grind (arith, common_steps)) c.index_mut.ensures.value c.front.ensures.look);
  same = same_more _ _ _ c.loop-k.invariant.same (kept c.loop-k.ports.items c.loop-k.k c.index_mut.result.now c.front.new.self (grind (arith, common_steps)) c.index_mut.ensures.value c.front.ensures.look.same);
}
