use Rattle.std.proofs.Common.{refl, arith}
use Rattle.plain_cut.proofs.Queue.{pop_queued, pop_work, done_queued}
use Rattle.plain_cut.proofs.discharges.discharge_all.Goals as goal

pub discharge-requires-clause-work : goal.discharge-requires-clause-work
discharge-requires-clause-work c =
    (pop_work c.args.net.now c.discharges.work _ c.in-Some.v c.pop_front.new.self.items c.in-Some.ensures.items refl refl refl refl refl c.discharges.invariant.work).1

pub discharges-preserved : goal.discharges-preserved
discharges-preserved c =
    let net = c.args.net.now in
    let limit = c.args.limit in
    let steps = c.in_ok-discharge.ensures.steps in
    let popped = pop_queued net limit c.discharges.work
    (record { rows = c.discharges.work.rows; rooms = c.discharges.work.rooms; excess = c.discharges.work.excess; labels = c.discharges.work.labels; queue = c.pop_front.new.self; relabels = c.discharges.work.relabels })
    c.in-Some.v c.pop_front.new.self.items c.in-Some.ensures.items refl refl refl c.discharges.invariant.queued in
    record {
      work = steps.work;
      queued = done_queued net limit c.discharge.new.work c.in-Some.v c.in_ok-discharge.ensures.done (steps.queued limit popped);
      counted = omega (arith, steps.counted, c.discharges.invariant.counted);
    }
