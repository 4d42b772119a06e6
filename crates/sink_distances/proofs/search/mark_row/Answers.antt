use Rattle.std.proofs.Common.{◌≡◌, ◌<◌, ◌≤◌, length, subst, sym, arith}
use Rattle.std.proofs.lemmas.Grind.{common_steps}
use Rattle.flow_network.specs.Progress.{top_label}
use Rattle.sink_distances.specs.Rows.{head_at, opposite_at, residual_at, carried_flow, IsPlace}
use Rattle.sink_distances.specs.Search.{found_of, IsBefore}
use Rattle.sink_distances.proofs.Order.{count-le-length}
use Rattle.sink_distances.proofs.Showing.{directed, place_before}
use Rattle.sink_distances.proofs.Seeing.{grows_for, seen_more}
use Rattle.sink_distances.proofs.search.mark_row.Goals as goal

pub mark_back-tally-requires-clause-opposite : goal.mark_back-tally-requires-clause-opposite
mark_back-tally-requires-clause-opposite c =
    let place : IsPlace c.args.rows.now c.args.w c.row.p = grind (arith, common_steps) in
    rw c.as_slice-cells.ensures.value (directed c.args.net.now c.args.rows.now c.args.w c.row.p c.requires.limits c.requires.rows c.requires.node place).back

pub mark_back-tally-requires-clause-head : goal.mark_back-tally-requires-clause-head
mark_back-tally-requires-clause-head c =
    let place : IsPlace c.args.rows.now c.args.w c.row.p = grind (arith, common_steps) in
    let head = (directed c.args.net.now c.args.rows.now c.args.w c.row.p c.requires.limits c.requires.rows c.requires.node place).head in
    rw c.as_slice-cells.ensures.value (omega (arith, head, c.requires.len, c.row.invariant.grows.len))

pub row-preserved : goal.row-preserved
row-preserved c =
    let net = c.args.net.now in
    let rows = c.args.rows.now in
    let w = c.args.w in
    let p = c.row.p in
    let place : IsPlace rows w p = grind (arith, common_steps) in
    let old = found_of c.args.labels.now c.args.order.now c.args.tally.count in
    let was = found_of c.row.labels c.row.order c.row.tally.count in
    let new = found_of c.mark_back-tally.new.labels c.mark_back-tally.new.order c.mark_back-tally.result.count in
    let fits : c.args.label ≤ top_label (length c.row.labels) =
    omega (arith, c.requires.ready.next, count-le-length old c.requires.ready.order, c.row.invariant.grows.len) in
    let grows = grows_for c.args.label (λ v. (v ≡ head_at rows p) × (0 < residual_at rows (opposite_at rows p))) (IsBefore net (carried_flow rows) w) was new
    (λ v e. subst (IsBefore net (carried_flow rows) w) (sym e.0) (place_before net rows w p c.requires.rows c.requires.node place e.1)) (rw c.as_slice-cells.ensures.value at c.mark_back-tally.ensures.grows) in
    seen_more net rows w c.args.label p old was new c.row.invariant fits grows (rw c.as_slice-cells.ensures.value at c.mark_back-tally.ensures.marked)
