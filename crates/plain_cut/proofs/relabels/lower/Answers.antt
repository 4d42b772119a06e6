use Rattle.std.proofs.Common.{arith, inr}
use Rattle.flow_network.specs.Cut.{nodes}
use Rattle.sink_distances.specs.Rows.{head_at}
use Rattle.plain_cut.proofs.Passes.{label_read}
use Rattle.sink_distances.proofs.Showing.{directed}
use Rattle.plain_cut.proofs.relabels.lower.Goals as goal
use Rattle.plain_cut.proofs.relabels.lower.Goals.{else-cell-gt0-via-else-cell-gt0, else-cell-gt0-via-then-cell-gt0+else-index-least}

pub index-requires : goal.index-requires
index-requires c =
    let d = directed c.args.net.now c.args.work.now.rows c.args.v c.args.p c.nodes-nodes.ensures.limits c.requires.work.shown c.requires.node c.requires.place in
    omega (arith, d.head, c.cell-cell.ensures.head, c.requires.work.sound.labelling.len, c.args.work.now.labels.ok.0)

pub index-requires-then-index-least : goal.index-requires-then-index-least
index-requires-then-index-least c =
    let d = directed c.args.net.now c.args.work.now.rows c.args.v c.args.p c.nodes-nodes.ensures.limits c.requires.work.shown c.requires.node c.requires.place in
    omega (arith, d.head, c.cell-cell.ensures.head, c.requires.work.sound.labelling.len, c.args.work.now.labels.ok.0)

pub overflow_add-result : goal.overflow_add-result
overflow_add-result c =
    let old = c.args.work.now in
    let d = directed c.args.net.now old.rows c.args.v c.args.p c.nodes-nodes.ensures.limits c.requires.work.shown c.requires.node c.requires.place in
    let r1 = label_read old.labels.items c.cell-cell.result.head (head_at old.rows c.args.p) c.index.result.now (nodes c.args.net.now) c.cell-cell.ensures.head d.head c.requires.work.sound.labelling.len c.index.ensures in
    let r2 = label_read old.labels.items c.cell-cell.result.head (head_at old.rows c.args.p) c.index-then-index-least.result.now (nodes c.args.net.now) c.cell-cell.ensures.head d.head c.requires.work.sound.labelling.len c.index-then-index-least.ensures in
    omega (arith, r1, r2, c.if-index-least.true)

pub returns-then-index-least-clause-lower : goal.returns-then-index-least-clause-lower
returns-then-index-least-clause-lower c =
    let old = c.args.work.now in
    let d = directed c.args.net.now old.rows c.args.v c.args.p c.nodes-nodes.ensures.limits c.requires.work.shown c.requires.node c.requires.place in
    let r1 = label_read old.labels.items c.cell-cell.result.head (head_at old.rows c.args.p) c.index.result.now (nodes c.args.net.now) c.cell-cell.ensures.head d.head c.requires.work.sound.labelling.len c.index.ensures in
    let r2 = label_read old.labels.items c.cell-cell.result.head (head_at old.rows c.args.p) c.index-then-index-least.result.now (nodes c.args.net.now) c.cell-cell.ensures.head d.head c.requires.work.sound.labelling.len c.index-then-index-least.ensures in
    omega (arith, r1, r2, c.if-index-least.true)

pub returns-then-index-least-clause-lowest : goal.returns-then-index-least-clause-lowest
returns-then-index-least-clause-lowest c = λ room.
    let old = c.args.work.now in
    let d = directed c.args.net.now old.rows c.args.v c.args.p c.nodes-nodes.ensures.limits c.requires.work.shown c.requires.node c.requires.place in
    let r1 = label_read old.labels.items c.cell-cell.result.head (head_at old.rows c.args.p) c.index.result.now (nodes c.args.net.now) c.cell-cell.ensures.head d.head c.requires.work.sound.labelling.len c.index.ensures in
    let r2 = label_read old.labels.items c.cell-cell.result.head (head_at old.rows c.args.p) c.index-then-index-least.result.now (nodes c.args.net.now) c.cell-cell.ensures.head d.head c.requires.work.sound.labelling.len c.index-then-index-least.ensures in
    omega (arith, r2)

pub returns-then-index-least-clause-one : goal.returns-then-index-least-clause-one
returns-then-index-least-clause-one c =
    let old = c.args.work.now in
    let d = directed c.args.net.now old.rows c.args.v c.args.p c.nodes-nodes.ensures.limits c.requires.work.shown c.requires.node c.requires.place in
    let r1 = label_read old.labels.items c.cell-cell.result.head (head_at old.rows c.args.p) c.index.result.now (nodes c.args.net.now) c.cell-cell.ensures.head d.head c.requires.work.sound.labelling.len c.index.ensures in
    let r2 = label_read old.labels.items c.cell-cell.result.head (head_at old.rows c.args.p) c.index-then-index-least.result.now (nodes c.args.net.now) c.cell-cell.ensures.head d.head c.requires.work.sound.labelling.len c.index-then-index-least.ensures in
    inr (omega (arith, c.cell-cell.ensures.residual, c.if-cell-gt0.true), omega (arith, r2))

pub returns-else-cell-gt0-clause-lowest : goal.returns-else-cell-gt0-clause-lowest
returns-else-cell-gt0-clause-lowest c = λ room. elim c.else-cell-gt0.branch [
  | else-cell-gt0-via-else-cell-gt0 w ↦ absurd (omega (arith, room, c.cell-cell.ensures.residual, w.if-cell-gt0.false))
  | else-cell-gt0-via-then-cell-gt0+else-index-least w ↦
      let old = c.args.work.now in
      let d = directed c.args.net.now old.rows c.args.v c.args.p c.nodes-nodes.ensures.limits c.requires.work.shown c.requires.node c.requires.place in
      let r1 = label_read old.labels.items c.cell-cell.result.head (head_at old.rows c.args.p) w.index.result.now (nodes c.args.net.now) c.cell-cell.ensures.head d.head c.requires.work.sound.labelling.len w.index.ensures in
      omega (arith, r1, w.if-index-least.false)
]
