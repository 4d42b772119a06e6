use Rattle.std.proofs.Common.{arith}
use Rattle.near_changes.proofs.Opens.{opens_then}
use Rattle.near_changes.proofs.opening.open_ring.Goals as goal

pub loop-index-preserved : goal.loop-index-preserved
loop-index-preserved c =
    let a = c.args in
    let invariant = c.loop-index.invariant in
    let done = c.in_ok-open_beside.ensures in
    record {
      opened = opens_then a.window a.choices.now.items c.loop-index.choices.items c.open_beside.new.choices.items invariant.opened done.opened;
      inside = done.inside;
      more = omega (arith, invariant.more, done.more);
    }
