-- An event that takes no message, where the block may do it, is a step that is sure.
use Rattle.std.proofs.Common.{◌≡◌, ℕ, ◌+◌, ◌<◌, true, false, List, length, refl, ◌∙◌, ap, arith}
use Rattle.std.proofs.lemmas.List.{length-set}
use Rattle.block_events.specs.declared.lane.Lane.{Lane}
use Rattle.block_events.specs.declared.direction.Direction.{Direction}
use Rattle.block_events.specs.declared.message.Message.{Message}
use Rattle.block_events.specs.declared.event.Event.{Event}
use Rattle.block_events.specs.declared.event.Event.TheVariants.{PushInner, PushSink, Relabel, Send, Accept, Refuse, Settle, RaiseAll}
use Rattle.block_events.specs.Directions.{near, far}
use Rattle.block_events.specs.States as core
use Rattle.block_events.specs.Events as events
use Rattle.block_events.specs.Workers.{MayStart}
use Rattle.block_net.specs.Views.{CellsView, label_in, room_in, lane_in, MayPush, MaySend, highest}
use Rattle.block_net.specs.Whole.{Whole, place, slot, put_block}
use Rattle.block_events.specs.Effects.{BlocksView, state_of}
use Rattle.net_in_blocks.specs.Views.{IsSpot, IsRow}
use Rattle.net_in_blocks.proofs.Allowing.{highest_is}
use Rattle.net_in_blocks.proofs.Steps.{IsAt, node_below, excess_read, label_read, room_read, top_read, inner_read, border_read, far_spot}
use Rattle.block_discharge.specs.Seen.{WaysView}
use Rattle.block_discharge.specs.Active as standing
use Rattle.block_discharge.specs.Steps as steps
use Rattle.block_discharge.specs.Steps.{Step, TurnView, IsSure}
use Rattle.cut_in_blocks.specs.TurnEvents.{HasRoom}
use Rattle.cut_in_blocks.specs.Seats.{IsSeated, logs_of, shown_by}
use Rattle.cut_in_blocks.proofs.Seated.{view_with, at_seat, with_is, read_at}

-- the place of a node of the block
node_spot : (w : Whole) (b : ℕ) (B : CellsView) (ways : List (List (List Message))) (got u : ℕ) → IsSeated w b B → core.block_of (view_with w b B).net (view_with w b B).blocks u ≡ b
    → events.IsActive (state_of (view_with w b B) ways got) u → IsSpot (put_block w b B) u b (place (put_block w b B) u)
node_spot w b B ways got u seat here active = record {
  node = active.node;
  node_block = here;
  place = refl;
  block = omega (arith, seat.block, length-set w.blocks b B);
}

-- a node that is active is active in its block
still_active : (w : Whole) (v : BlocksView) (b : ℕ) (B : CellsView) (ways : List (List (List Message))) (got u p : ℕ) → IsAt w v b B → IsSpot w u b p
    → events.IsActive (state_of v ways got) u → standing.IsActiveInBlock B p
still_active w v b B ways got u p at spot active = record {
  node = node_below w v b B u p at spot;
  excess = omega (arith, active.excess, excess_read w v b B u p at spot);
  below = omega (arith, active.below, label_read w v b B u p at spot, top_read w v b B at);
}

start_push : (w : Whole) (b got : ℕ) (h : TurnView) (x : Direction) → IsSeated w b h.block → MayStart b (shown_by w b h got) (PushInner x) → (e : Step) × steps.IsStepEnabled h.block e × ((s : WaysView) → IsSure h.block s e)
start_push w b got h x seat may =
    let B = h.block in
    let w1 = put_block w b B in
    let v = view_with w b B in
    let ways = logs_of (length w.blocks) b h.sent h.taken in
    let at = at_seat w b B seat in
    let on = may.1 in
    let u = near v.net x in
    let p = place w1 u in
    let j = slot w1 x in
    let spot = node_spot w b B ways got u seat may.0 on.2 in
    let row : IsRow w1 x false b j = record { direction = on.0; outer = on.1; node_block = may.0; slot = refl; block = spot.block } in
    let stands = at.laid.placed.inner x on.0 on.1 in
    let residual = ap (λ (q : Lane). q.residual) (inner_read w1 v b B x j at row) in
    let label = label_read w1 v b B u p at spot in
    let label' = label_read w1 v b B (far v.net x) (lane_in B j).far at (far_spot w1 v b B x j at row) in
    let may_push : MayPush B p j = record {
      residual = omega (arith, on.3, residual);
      level = omega (arith, on.4, label, label');
    } in
    let of : steps.IsOfNode B p j = record {
      low = omega (arith, stands.from, read_at w1 v b B at ways got u p (λ (q : CellsView). q.starts) (λ q. q) spot);
      high = omega (arith, stands.below, read_at w1 v b B at ways got u p (λ (q : CellsView). q.starts) (λ q. q + 1) spot);
    } in
    let enabled : steps.IsStepEnabled B (steps.Push p j) = (still_active w1 v b B ways got u p at spot on.2, of, may_push) in
    (steps.Push p j, enabled, (λ s. enabled))

start_give : (w : Whole) (b got : ℕ) (h : TurnView) (u : ℕ) → IsSeated w b h.block → MayStart b (shown_by w b h got) (PushSink u) → (e : Step) × steps.IsStepEnabled h.block e × ((s : WaysView) → IsSure h.block s e)
start_give w b got h u seat may =
    let B = h.block in
    let w1 = put_block w b B in
    let v = view_with w b B in
    let ways = logs_of (length w.blocks) b h.sent h.taken in
    let at = at_seat w b B seat in
    let on = may.1 in
    let p = place w1 u in
    let spot = node_spot w b B ways got u seat may.0 on.0 in
    let room : 0 < room_in B p = omega (arith, on.1, room_read w1 v b B u p at spot) in
    let level : label_in B p ≡ 1 = label_read w1 v b B u p at spot ∙ on.2 in
    let enabled : steps.IsStepEnabled B (steps.Give p) = (still_active w1 v b B ways got u p at spot on.0, room, level) in
    (steps.Give p, enabled, (λ s. enabled))

start_rise : (w : Whole) (b got : ℕ) (h : TurnView) (u : ℕ) → IsSeated w b h.block → MayStart b (shown_by w b h got) (Relabel u) → (e : Step) × steps.IsStepEnabled h.block e × ((s : WaysView) → IsSure h.block s e)
start_rise w b got h u seat may =
    let B = h.block in
    let w1 = put_block w b B in
    let v = view_with w b B in
    let ways = logs_of (length w.blocks) b h.sent h.taken in
    let at = at_seat w b B seat in
    let on = may.1 in
    let p = place w1 u in
    let spot = node_spot w b B ways got u seat may.0 on.0 in
    let is : highest B p ≡ events.highest_label (state_of v ways got) u = highest_is w1 v b B u p at spot in
    let higher : label_in B p < highest B p = omega (arith, on.1, is, label_read w1 v b B u p at spot) in
    let enabled : steps.IsStepEnabled B (steps.Relabel p) = (still_active w1 v b B ways got u p at spot on.0, higher) in
    (steps.Relabel p, enabled, (λ s. enabled))

start_send : (w : Whole) (b got : ℕ) (h : TurnView) (x : Direction) (s : WaysView) → IsSeated w b h.block → HasRoom h.block s → MayStart b (shown_by w b h got) (Send x) → (e : Step) × IsSure h.block s e
start_send w b got h x s seat room may =
    let B = h.block in
    let w1 = put_block w b B in
    let v = view_with w b B in
    let ways = logs_of (length w.blocks) b h.sent h.taken in
    let at = at_seat w b B seat in
    let on = may.1 in
    let u = near v.net x in
    let p = place w1 u in
    let j = slot w1 x in
    let spot = node_spot w b B ways got u seat may.0 on.2 in
    let row : IsRow w1 x true b j = record { direction = on.0; outer = on.1; node_block = may.0; slot = refl; block = spot.block } in
    let stands = at.laid.placed.borders x on.0 on.1 in
    let lane = border_read w1 v b B x j at row in
    let residual = ap (λ (q : Lane). q.residual) lane in
    let known = ap (λ (q : Lane). q.known) lane in
    let flight = ap (λ (q : Lane). q.flight) lane in
    let label = label_read w1 v b B u p at spot in
    let may_send : MaySend B p j = record {
      residual = omega (arith, on.3, residual);
      level = omega (arith, on.4, label, known);
      idle = flight ∙ on.5;
    } in
    let of : steps.IsBorderOfNode B p j = record {
      low = omega (arith, stands.from, read_at w1 v b B at ways got u p (λ (q : CellsView). q.border_starts) (λ q. q) spot);
      high = omega (arith, stands.below, read_at w1 v b B at ways got u p (λ (q : CellsView). q.border_starts) (λ q. q + 1) spot);
    } in
    let within : j < length B.borders = omega (arith, stands.within, ap (λ (q : CellsView). length q.borders) (with_is w1 v b B at ways got u p spot)) in
    let enabled : steps.IsStepEnabled B (steps.Send p j) = (still_active w1 v b B ways got u p at spot on.2, of, may_send) in
    (steps.Send p j, (enabled, room j within))

pub start_is_step : (w : Whole) (b got : ℕ) (h : TurnView) (s : WaysView) (e : Event) → IsSeated w b h.block → HasRoom h.block s → MayStart b (shown_by w b h got) e → (step : Step) × IsSure h.block s step
start_is_step w b got h s (PushInner x) seat room may = let found = start_push w b got h x seat may in (found.0, found.2 s)
start_is_step w b got h s (PushSink u) seat room may = let found = start_give w b got h u seat may in (found.0, found.2 s)
start_is_step w b got h s (Relabel u) seat room may = let found = start_rise w b got h u seat may in (found.0, found.2 s)
start_is_step w b got h s (Send x) seat room may = start_send w b got h x s seat room may
start_is_step w b got h s (Accept c to) seat room may = absurd may
start_is_step w b got h s (Refuse c to) seat room may = absurd may
start_is_step w b got h s (Settle c to) seat room may = absurd may
start_is_step w b got h s RaiseAll seat room may = absurd may.0
