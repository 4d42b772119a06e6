use Rattle.std.proofs.Common.{arith, refl, sym, ◌∙◌, ap, set, length, ◌≡◌, ◌<◌, ◌+◌, ◌-◌, ℕ, slice_index}
use Rattle.std.proofs.lemmas.List.{with_items_is, length-set}
use Rattle.sink_distances.specs.Rows.{head_at}
use Rattle.sink_distances.proofs.Showing.{directed}
use Rattle.plain_cut.specs.State.{work_flow}
use Rattle.flow_network.proofs.Push.{moved}
use Rattle.flow_network.proofs.Moves.{kept-le-total}
use Rattle.plain_cut.proofs.Passes.{left_at, pair-le-limit}
use Rattle.plain_cut.proofs.Unlabelled.{along_work}
use Rattle.plain_cut.proofs.opening.send.Goals as goal

pub carry-requires-clause-to : goal.carry-requires-clause-to
carry-requires-clause-to c =
    let d = directed c.args.net.now c.args.work.now.rows c.args.v c.args.p c.nodes-nodes.ensures.limits c.requires.work.work.shown c.requires.node c.requires.place in
    rw c.as_mut_slice.ensures.value (omega (arith, d.head, c.cell-cell.ensures.head, c.requires.work.work.sound.kept_len))

pub carry-requires-clause-small : goal.carry-requires-clause-small
carry-requires-clause-small c =
    let net = c.args.net.now in
    let old = c.args.work.now in
    let v = c.args.v in
    let p = c.args.p in
    let z = c.min-amount.result in
    let h = c.nodes-nodes.ensures.limits in
    let d = directed net old.rows v p h c.requires.work.work.shown c.requires.node c.requires.place in
    let w = head_at old.rows p in
    let s = c.requires.work.work.sound in
    let in_kept : v < length old.excess.items = omega (arith, s.kept_len, c.requires.node) in
    let kept = c.requires.left in
    let amount = c.min-amount.ensures in
    let head = c.cell-cell.ensures.head in
    let room = c.cell-cell.ensures.residual in
    let b1 = kept-le-total net (work_flow net old) old.excess.items old.labels.items h s v c.requires.node in
    let b2 = kept-le-total net (work_flow net old) old.excess.items old.labels.items h s w d.head in
    rw (c.as_mut_slice.ensures.value, head) (omega (arith, b1, b2, h.total, kept, amount))

pub send-requires-clause-opposite : goal.send-requires-clause-opposite
send-requires-clause-opposite c =
    (directed c.args.net.now c.args.work.now.rows c.args.v c.args.p c.nodes-nodes.ensures.limits c.requires.work.work.shown c.requires.node c.requires.place).back

pub send-requires-clause-other : goal.send-requires-clause-other
send-requires-clause-other c =
    (directed c.args.net.now c.args.work.now.rows c.args.v c.args.p c.nodes-nodes.ensures.limits c.requires.work.work.shown c.requires.node c.requires.place).other

pub send-requires-clause-small : goal.send-requires-clause-small
send-requires-clause-small c =
    let pair = pair-le-limit c.args.net.now c.args.work.now.rows c.args.v c.args.p c.nodes-nodes.ensures.limits c.requires.work.work.shown c.requires.node c.requires.place in
    omega (arith, pair, c.min-amount.ensures, c.cell-cell.ensures.residual)

pub returns-clause-work : goal.returns-clause-work
returns-clause-work c =
    let net = c.args.net.now in
    let old = c.args.work.now in
    let v = c.args.v in
    let p = c.args.p in
    let z = c.min-amount.result in
    let h = c.nodes-nodes.ensures.limits in
    let d = directed net old.rows v p h c.requires.work.work.shown c.requires.node c.requires.place in
    let w = head_at old.rows p in
    let s = c.requires.work.work.sound in
    let in_kept : v < length old.excess.items = omega (arith, s.kept_len, c.requires.node) in
    let kept = c.requires.left in
    let amount = c.min-amount.ensures in
    let head = c.cell-cell.ensures.head in
    let room = c.cell-cell.ensures.residual in
    let shifted : c.carry.new.excess ≡ moved old.excess.items v w z = rw (c.as_mut_slice.ensures.value, head) at c.carry.ensures in
    let long : length c.carry.new.excess ≡ old.excess.len =
    ap (length {A = ℕ}) shifted ∙ (length-set (set old.excess.items v (slice_index old.excess.items v - z)) w (slice_index old.excess.items w + z) ∙ (length-set old.excess.items v (slice_index old.excess.items v - z) ∙ omega (arith, old.excess.ok.0))) in
    let excess = with_items_is old.excess c.carry.new.excess long ∙ shifted in
    along_work net old _ v p z h c.requires.work c.requires.node c.requires.place (λ e. c.requires.other (sym e))
    (omega (arith, amount, kept)) (omega (arith, amount, room)) c.requires.residual c.send.ensures refl excess refl refl

pub returns-clause-left : goal.returns-clause-left
returns-clause-left c =
    let old = c.args.work.now in
    let v = c.args.v in
    let w = head_at old.rows c.args.p in
    let z = c.min-amount.result in
    let in_kept : v < length old.excess.items = omega (arith, c.requires.work.work.sound.kept_len, c.requires.node) in
    let shifted : c.carry.new.excess ≡ moved old.excess.items v w z = rw (c.as_mut_slice.ensures.value, c.cell-cell.ensures.head) at c.carry.ensures in
    let long : length c.carry.new.excess ≡ old.excess.len =
    ap (length {A = ℕ}) shifted ∙ (length-set (set old.excess.items v (slice_index old.excess.items v - z)) w (slice_index old.excess.items w + z) ∙ (length-set old.excess.items v (slice_index old.excess.items v - z) ∙ omega (arith, old.excess.ok.0))) in
    let excess = with_items_is old.excess c.carry.new.excess long ∙ shifted in
    omega (arith, left_at old.excess.items _ v w z (λ e. c.requires.other (sym e)) in_kept excess, c.requires.left)
