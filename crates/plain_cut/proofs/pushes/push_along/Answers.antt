use Rattle.std.proofs.Common.{arith, refl, ◌≢◌, ◌∙◌, ap, set, length, ◌≡◌, ◌<◌, ◌+◌, ◌-◌, ℕ, slice_index}
use Rattle.std.proofs.lemmas.List.{with_items_is, length-set}
use Rattle.sink_distances.specs.Rows.{head_at}
use Rattle.sink_distances.proofs.Showing.{directed}
use Rattle.plain_cut.specs.State.{work_flow}
use Rattle.flow_network.proofs.Push.{moved}
use Rattle.flow_network.proofs.Moves.{kept-le-total}
use Rattle.plain_cut.proofs.Passes.{along_push, along_others, left_at, pair-le-limit}
use Rattle.plain_cut.proofs.Steps.{along_step}
use Rattle.plain_cut.proofs.pushes.push_along.Goals as goal

pub shift-requires-clause-to : goal.shift-requires-clause-to
shift-requires-clause-to c =
    let d = directed c.args.net.now c.args.work.now.rows c.args.v c.args.p c.nodes-nodes.ensures.limits c.requires.work.shown c.requires.node c.requires.place in
    rw c.as_mut_slice.ensures.value (omega (arith, d.head, c.cell-cell.ensures.head, c.requires.work.sound.kept_len))

pub shift-requires-clause-small : goal.shift-requires-clause-small
shift-requires-clause-small c =
    let net = c.args.net.now in
    let old = c.args.work.now in
    let v = c.args.v in
    let p = c.args.p in
    let z = c.min-amount.result in
    let h = c.nodes-nodes.ensures.limits in
    let d = directed net old.rows v p h c.requires.work.shown c.requires.node c.requires.place in
    let w = head_at old.rows p in
    let s = c.requires.work.sound in
    let in_kept : v < length old.excess.items = omega (arith, s.kept_len, c.requires.node) in
    let kept = c.requires.left in
    let amount = c.min-amount.ensures in
    let head = c.cell-cell.ensures.head in
    let room = c.cell-cell.ensures.residual in
    let b1 = kept-le-total net (work_flow net old) old.excess.items old.labels.items h s v c.requires.node in
    let b2 = kept-le-total net (work_flow net old) old.excess.items old.labels.items h s w d.head in
    rw (c.as_mut_slice.ensures.value, head) (omega (arith, b1, b2, h.total, kept, amount))

pub send-requires-clause-opposite : goal.send-requires-clause-opposite
send-requires-clause-opposite c =
    (directed c.args.net.now c.args.work.now.rows c.args.v c.args.p c.nodes-nodes.ensures.limits c.requires.work.shown c.requires.node c.requires.place).back

pub send-requires-clause-other : goal.send-requires-clause-other
send-requires-clause-other c =
    (directed c.args.net.now c.args.work.now.rows c.args.v c.args.p c.nodes-nodes.ensures.limits c.requires.work.shown c.requires.node c.requires.place).other

pub send-requires-clause-small : goal.send-requires-clause-small
send-requires-clause-small c =
    let pair = pair-le-limit c.args.net.now c.args.work.now.rows c.args.v c.args.p c.nodes-nodes.ensures.limits c.requires.work.shown c.requires.node c.requires.place in
    omega (arith, pair, c.min-amount.ensures, c.cell-cell.ensures.residual)

pub returns : goal.returns
returns c =
    let net = c.args.net.now in
    let old = c.args.work.now in
    let v = c.args.v in
    let p = c.args.p in
    let z = c.min-amount.result in
    let h = c.nodes-nodes.ensures.limits in
    let d = directed net old.rows v p h c.requires.work.shown c.requires.node c.requires.place in
    let w = head_at old.rows p in
    let s = c.requires.work.sound in
    let in_kept : v < length old.excess.items = omega (arith, s.kept_len, c.requires.node) in
    let kept = c.requires.left in
    let amount = c.min-amount.ensures in
    let head = c.cell-cell.ensures.head in
    let room = c.cell-cell.ensures.residual in
    let shifted : c.shift.new.excess ≡ moved old.excess.items v w z = rw (c.as_mut_slice.ensures.value, head) at c.in_ok-shift.ensures.excess in
    let queue = rw (c.as_mut_slice.ensures.value, head) at c.in_ok-shift.ensures.queue in
    let long : length c.shift.new.excess ≡ old.excess.len =
    ap (length {A = ℕ}) shifted ∙ (length-set (set old.excess.items v (slice_index old.excess.items v - z)) w (slice_index old.excess.items w + z) ∙ (length-set old.excess.items v (slice_index old.excess.items v - z) ∙ omega (arith, old.excess.ok.0))) in
    let excess = with_items_is old.excess c.shift.new.excess long ∙ shifted in
    let ne : v ≢ w = λ e. (let same = ap (slice_index old.labels.items) e in omega (arith, same, c.requires.down)) in
    let now = left_at old.excess.items _ v w z ne in_kept excess in
    record {
      step = along_step net old _ v p z h c.requires.work c.requires.node c.requires.place
          (omega (arith, amount, kept)) (omega (arith, amount, kept, room, c.requires.some, c.requires.residual)) (omega (arith, amount, room)) c.requires.down
          c.send.ensures refl excess refl queue refl;
      push = along_push old _ v w p z ne in_kept c.send.ensures refl refl excess;
      others = along_others net old.rows c.send.new.self v p z h c.requires.work.shown c.requires.node c.requires.place ne c.send.ensures;
      left = omega (arith, now, c.requires.left);
      spent = λ some more. absurd (omega (arith, now, c.send.ensures.here, some, more, amount, kept, room));
    }
