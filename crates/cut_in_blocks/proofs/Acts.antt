-- A step of a block that takes no message is an event.
use Rattle.std.proofs.Common.{◌≡◌, ℕ, ◌+◌, ◌-◌, ◌<◌, true, min, None, List, length, set, slice_index, refl, sym, ◌∙◌, ap, inl, inr, arith}
use Rattle.std.proofs.lemmas.List.{length-set, get_or_past}
use Rattle.std.proofs.lemmas.Bool.{cases_lt}
use Rattle.block_events.specs.declared.lane.Lane.{Lane}
use Rattle.block_events.specs.declared.direction.Direction.{Direction}
use Rattle.block_events.specs.declared.message.Message.TheVariants.{Parcel}
use Rattle.block_events.specs.declared.event.Event.TheVariants.{PushInner, PushSink, Relabel, Send}
use Rattle.block_events.specs.Directions.{near, far}
use Rattle.block_events.specs.States as core
use Rattle.block_events.specs.Events as events
use Rattle.block_events.proofs.Ends.{far_in}
use Rattle.block_net.specs.declared.lanes.Border.{Border}
use Rattle.block_net.specs.Views as block
use Rattle.block_net.specs.Views.{CellsView, count, excess_in, label_in, room_in, lane_in, border_in, parcel_of, highest}
use Rattle.block_net.specs.Whole.{Whole, block_at, node_block, slot, put_block, border_of}
use Rattle.block_events.specs.Effects.{BlocksView, state_of, blocks_after_sink_push, blocks_after_relabel}
use Rattle.net_in_blocks.specs.Views.{IsRow}
use Rattle.net_in_blocks.proofs.Allowing.{highest_is}
use Rattle.block_state.proofs.Effects.{pushed_is, sent_is}
use Rattle.net_in_blocks.proofs.Steps.{IsAt, excess_read, label_read, room_read, inner_read, border_read, far_spot, back_row, gave_at, labelled_at, pushed_at, sent_at}
use Rattle.block_discharge.specs.Steps as steps
use Rattle.block_discharge.specs.Steps.{TurnView, turn_after}
use Rattle.cut_in_blocks.specs.Seats.{IsSeated, logs_of}
use Rattle.cut_in_blocks.proofs.Logs.{sent_log}
use Rattle.cut_in_blocks.proofs.Seated.{view_with, at_seat, node_seat, Goes, view_after, seat_after, active_is, lane_found, border_found}

-- a place with something in it is one of the list
within : (xs : List ℕ) (i : ℕ) → 0 < slice_index xs i → i < length xs
within xs i some = elim (cases_lt i (length xs)) [
  | inl l ↦ l
  | inr past ↦ absurd (omega (arith, some, get_or_past xs i 0 past))
]

pub give_goes : (w : Whole) (b : ℕ) (h : TurnView) (p got : ℕ) → IsSeated w b h.block → steps.IsStepEnabled h.block (steps.Give p) → Goes w b h (turn_after h (steps.Give p)) got
give_goes w b h p got seat on =
    let B = h.block in
    let w1 = put_block w b B in
    let v = view_with w b B in
    let ways = logs_of (length w.blocks) b h.sent h.taken in
    let s = state_of v ways got in
    let at = at_seat w b B seat in
    let found = node_seat w b B p seat on.0.node in
    let u = found.0 in
    let a = min (excess_in B p) (room_in B p) in
    let new = block.cells_after_sink_push B p a in
    let then' = gave_at w1 v b B u p a at found.1 (within B.rooms p on.1) in
    let excess = excess_read w1 v b B u p at found.1 in
    let room = room_read w1 v b B u p at found.1 in
    let label = label_read w1 v b B u p at found.1 in
    let amount : a ≡ min (core.excess_of s u) (core.room_of s u) = ap (λ n. min n (room_in B p)) excess ∙ ap (min (core.excess_of s u)) room in
    let some : 0 < core.room_of s u = omega (arith, on.1, room) in
    let level : core.label_of s u ≡ 1 = sym label ∙ on.2 in
    record {
      event = PushSink u;
      got' = got + a;
      does = (
        found.1.node_block,
        (active_is w1 v b B at ways got u p found.1 on.0, some, level),
        ap (λ (q : BlocksView). state_of q ways (got + a)) (view_after w b B new (blocks_after_sink_push v u a) then') ∙ ap (events.after_sink_push s u) amount,
      );
      seated = seat_after w b B new (blocks_after_sink_push v u a) seat then' (length-set B.excess p _) refl refl;
    }

pub rise_goes : (w : Whole) (b : ℕ) (h : TurnView) (p got : ℕ) → IsSeated w b h.block → steps.IsStepEnabled h.block (steps.Relabel p) → Goes w b h (turn_after h (steps.Relabel p)) got
rise_goes w b h p got seat on =
    let B = h.block in
    let w1 = put_block w b B in
    let v = view_with w b B in
    let ways = logs_of (length w.blocks) b h.sent h.taken in
    let s = state_of v ways got in
    let at = at_seat w b B seat in
    let found = node_seat w b B p seat on.0.node in
    let u = found.0 in
    let d = highest B p in
    let new = block.cells_after_relabel B p d in
    let then' = labelled_at w1 v b B u p d at found.1 (omega (arith, seat.labels, on.0.node)) in
    let label = label_read w1 v b B u p at found.1 in
    let is : d ≡ events.highest_label s u = highest_is w1 v b B u p at found.1 in
    let higher : core.label_of s u < events.highest_label s u = omega (arith, on.1, label, is) in
    record {
      event = Relabel u;
      got' = got;
      does = (
        found.1.node_block,
        (active_is w1 v b B at ways got u p found.1 on.0, higher),
        ap (λ (q : BlocksView). state_of q ways got) (view_after w b B new (blocks_after_relabel v u d) then') ∙ ap (events.after_relabel s u) is,
      );
      seated = seat_after w b B new (blocks_after_relabel v u d) seat then' refl (length-set B.labels p d) refl;
    }

pub push_goes : (w : Whole) (b : ℕ) (h : TurnView) (p j got : ℕ) → IsSeated w b h.block → steps.IsStepEnabled h.block (steps.Push p j) → Goes w b h (turn_after h (steps.Push p j)) got
push_goes w b h p j got seat on =
    let B = h.block in
    let w1 = put_block w b B in
    let v = view_with w b B in
    let ways = logs_of (length w.blocks) b h.sent h.taken in
    let s = state_of v ways got in
    let at = at_seat w b B seat in
    let node = node_seat w b B p seat on.0.node in
    let found = lane_found w1 v b B at ways got node.0 p j node.1 on.1 in
    let x = found.x in
    let a = min (excess_in B p) (lane_in B j).residual in
    let new = block.cells_after_push B p j a in
    let away = far_spot w1 v b B x j at found.row in
    let then' = pushed_at w1 v b B x j p a at found.row found.spot (back_row w1 v b B x j at found.row) away in
    let lane = inner_read w1 v b B x j at found.row in
    let residual = ap (λ (q : Lane). q.residual) lane in
    let label = label_read w1 v b B (near v.net x) p at found.spot in
    let label' = label_read w1 v b B (far v.net x) (lane_in B j).far at away in
    let some : 0 < core.residual_of s x = omega (arith, on.2.residual, residual) in
    let level : core.label_of s (near s.net x) ≡ core.label_of s (far s.net x) + 1 = omega (arith, on.2.level, label, label') in
    record {
      event = PushInner x;
      got' = got;
      does = (
        found.row.node_block,
        (found.row.direction, found.row.outer, active_is w1 v b B at ways got (near v.net x) p found.spot on.0, some, level),
        pushed_is v _ ways got x (near v.net x) (excess_in B p) a (record { residual = (lane_in B j).residual; known = 0; flight = None }) refl
            (excess_read w1 v b B (near v.net x) p at found.spot) lane refl (view_after w b B new _ then'),
      );
      seated = seat_after w b B new _ seat then' (length-set (set B.excess p (excess_in B p - a)) (lane_in B j).far _ ∙ length-set B.excess p _) refl refl;
    }

-- the row of a direction to another block, as its block holds it
pub border_row : (w : Whole) (v : BlocksView) (b : ℕ) (B : CellsView) (x : Direction) (j : ℕ) → IsAt w v b B → IsRow w x true b j → border_in B j ≡ border_of w x
border_row w v b B x j at row =
    sym (ap (λ (q : CellsView). border_in q (slot w x)) (ap (block_at w) row.node_block ∙ at.is) ∙ ap (border_in B) row.slot)

pub send_goes : (w : Whole) (b : ℕ) (h : TurnView) (p j got : ℕ) → IsSeated w b h.block → steps.IsStepEnabled h.block (steps.Send p j) → Goes w b h (turn_after h (steps.Send p j)) got
send_goes w b h p j got seat on =
    let B = h.block in
    let w1 = put_block w b B in
    let v = view_with w b B in
    let n = length w.blocks in
    let ways = logs_of n b h.sent h.taken in
    let s = state_of v ways got in
    let at = at_seat w b B seat in
    let node = node_seat w b B p seat on.0.node in
    let found = border_found w1 v b B at ways got node.0 p j node.1 on.1 in
    let x = found.x in
    let a = min (excess_in B p) (border_in B j).residual in
    let c = (border_in B j).to in
    let new = block.cells_after_send B p j a in
    let then' = sent_at w1 v b B x j p a at found.row found.spot in
    let lane = border_read w1 v b B x j at found.row in
    let residual = ap (λ (q : Lane). q.residual) lane in
    let known = ap (λ (q : Lane). q.known) lane in
    let flight = ap (λ (q : Lane). q.flight) lane in
    let label = label_read w1 v b B (near v.net x) p at found.spot in
    let held = border_row w1 v b B x j at found.row in
    let placed = seat.laid.placed.borders x found.row.direction found.row.outer in
    let names : (border_in B j).direction ≡ x = ap (λ (q : Border). q.direction) held ∙ placed.direction in
    let leads : c ≡ node_block w1 (far w1.net x) = ap (λ (q : Border). q.to) held ∙ placed.to in
    let lc : c < n = omega (arith, leads, seat.laid.placed.node_blocks (far w1.net x) (far_in w1.net x seat.laid.net found.row.direction), length-set w.blocks b B) in
    let put = sent_log n b c h.sent h.taken (parcel_of B p j) seat.block lc in
    let message = ap (λ (y : Direction). core.put_message ways b c (Parcel y a (label_in B p))) names in
    let some : 0 < core.residual_of s x = omega (arith, on.2.residual, residual) in
    let level : core.label_of s (near s.net x) ≡ core.known_of s x + 1 = omega (arith, on.2.level, label, known) in
    record {
      event = Send x;
      got' = got;
      does = (
        found.row.node_block,
        (found.row.direction, found.row.outer, active_is w1 v b B at ways got (near v.net x) p found.spot on.0, some, level, sym flight ∙ on.2.idle),
        sent_is v _ ways _ got x (near v.net x) (far v.net x) (label_in B p) (excess_in B p) a b c
            (record { residual = (border_in B j).residual; known = (border_in B j).known; flight = (border_in B j).flight }) refl refl label
            (excess_read w1 v b B (near v.net x) p at found.spot) lane refl (sym found.row.node_block) leads (view_after w b B new _ then') (put ∙ message),
      );
      seated = seat_after w b B new _ seat then' (length-set B.excess p _) refl (length-set B.borders j _);
    }
