use Rattle.std.proofs.lemmas.Grind.{common_steps}
use Rattle.std.proofs.lemmas.Result.{on_ok_weaker}
use Rattle.std.proofs.Common.{arith, refl, ◌<◌}
use Rattle.flow_network.specs.Preflow.{sink_flows}
use Rattle.sink_distances.specs.Rows.{head_at, residual_at}
use Rattle.sink_distances.proofs.Showing.{directed, place_residual}
use Rattle.flow_network.specs.Cut.{nodes}
use Rattle.plain_cut.proofs.Passes.{label_read}
use Rattle.plain_cut.proofs.Steps.{steps_one}
use Rattle.plain_cut.proofs.pushes.try_push.Goals as goal
use Rattle.plain_cut.proofs.pushes.try_push.Goals.{then-left-eq0-via-then-left-eq0, then-left-eq0-via-else-left-eq0+then-cell-eq0, then-left-eq0-via-else-left-eq0+else-cell-eq0+then-index}

pub index-requires-else-cell-eq0 : goal.index-requires-else-cell-eq0
index-requires-else-cell-eq0 c =
    let d = directed c.args.net.now c.args.work.now.rows c.args.v c.args.p c.nodes-nodes.ensures.limits c.requires.work.shown c.requires.node c.requires.place in
    omega (arith, d.head, c.cell-cell.ensures.head, c.requires.work.sound.labelling.len, c.args.work.now.labels.ok.0)

pub push_along-requires-clause-residual : goal.push_along-requires-clause-residual
push_along-requires-clause-residual c = grind (arith, common_steps)

pub push_along-requires-clause-down : goal.push_along-requires-clause-down
push_along-requires-clause-down c =
    let net = c.args.net.now in
    let old = c.args.work.now in
    let v = c.args.v in
    let p = c.args.p in
    let some : 0 < residual_at old.rows p = omega (arith, c.cell-cell.ensures.residual, c.if-cell-eq0.false) in
    let fall = c.requires.work.sound.labelling.arcs v (head_at old.rows p)
    (place_residual net old.rows (sink_flows net old.rooms.items) v p c.requires.work.shown c.requires.node c.requires.place some) in
    grind (arith, common_steps, fall)

pub push_along-requires-clause-some : goal.push_along-requires-clause-some
push_along-requires-clause-some c = grind (arith, common_steps)

pub returns-clause-steps : goal.returns-clause-steps
returns-clause-steps c =
    on_ok_weaker c.push_along.result (steps_one c.args.net.now c.args.v c.args.work.now c.push_along.new.work) c.push_along.ensures.step

pub returns-then-left-eq0-clause-steps : goal.returns-then-left-eq0-clause-steps
returns-then-left-eq0-clause-steps c = record { work = c.requires.work; fall = omega arith; lower = omega arith; counted = omega arith; queued = λ limit q. q }

pub returns-then-left-eq0-clause-push : goal.returns-then-left-eq0-clause-push
returns-then-left-eq0-clause-push c = record { labels = refl; sinks = refl; starts = refl; ends = refl; heads = λ q. refl; excess = omega arith }

pub returns-then-left-eq0-clause-others : goal.returns-then-left-eq0-clause-others
returns-then-left-eq0-clause-others c = λ q off place. refl

pub push_along-requires-clause-work : goal.push_along-requires-clause-work
push_along-requires-clause-work c = c.requires.work

pub returns-clause-push : goal.returns-clause-push
returns-clause-push c = c.push_along.ensures.push

pub returns-clause-others : goal.returns-clause-others
returns-clause-others c = c.push_along.ensures.others

pub returns-clause-spent : goal.returns-clause-spent
returns-clause-spent c = c.push_along.ensures.spent

pub returns-then-left-eq0-clause-spent : goal.returns-then-left-eq0-clause-spent
returns-then-left-eq0-clause-spent c = λ some room.
    let net = c.args.net.now in
    let old = c.args.work.now in
    let d = directed net old.rows c.args.v c.args.p c.nodes-nodes.ensures.limits c.requires.work.shown c.requires.node c.requires.place in
    let s = c.requires.work.sound in
    let kept = c.requires.left in
    elim c.then-left-eq0.branch [
      | then-left-eq0-via-then-left-eq0 w ↦ absurd (omega (arith, some, kept, w.if-left-eq0.true))
      | then-left-eq0-via-else-left-eq0+then-cell-eq0 w ↦ absurd (omega (arith, room, c.cell-cell.ensures.residual, w.if-cell-eq0.true))
      | then-left-eq0-via-else-left-eq0+else-cell-eq0+then-index w ↦
          let l1 = label_read old.labels.items c.args.v c.args.v w.index.result.now (nodes net) refl c.requires.node s.labelling.len w.index.ensures in
          let l2 = label_read old.labels.items c.cell-cell.result.head (head_at old.rows c.args.p) w.index-else-cell-eq0.result.now (nodes net) c.cell-cell.ensures.head d.head s.labelling.len w.index-else-cell-eq0.ensures in
          omega (arith, l1, l2, w.if-index.true)
    ]

pub returns-clause-left : goal.returns-clause-left
returns-clause-left c = c.push_along.ensures.left
