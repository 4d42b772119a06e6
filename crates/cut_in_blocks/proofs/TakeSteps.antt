-- A step of a block that takes a message is an event.
use Rattle.std.proofs.Common.{◌≡◌, ℕ, ◌+◌, ◌<◌, ◌≤◌, true, List, [], length, refl, sym, ◌∙◌, ap, subst, arith}
use Rattle.std.proofs.lemmas.List.{length-set}
use Rattle.flow_network.specs.Preflow.{arc_at}
use Rattle.flow_network.specs.Progress.{top}
use Rattle.block_events.specs.declared.lane.Lane.{Lane}
use Rattle.block_events.specs.declared.direction.Direction.{Direction}
use Rattle.block_events.specs.declared.message.Message.{Message}
use Rattle.block_events.specs.declared.message.Message.TheVariants.{Parcel, Accepted, Refused}
use Rattle.block_events.specs.declared.event.Event.TheVariants.{Accept, Refuse, Settle}
use Rattle.block_events.specs.Directions.{far, opposite}
use Rattle.block_events.specs.States as core
use Rattle.block_events.specs.Soundness.{amount_out}
use Rattle.block_events.proofs.Ends.{far_in}
use Rattle.block_events.proofs.Lanes.{opposite_twice, near_opposite, far_opposite, border_opposite}
use Rattle.block_events.specs.Workers.{IsBetween}
use Rattle.block_net.specs.declared.lanes.Border.{Border}
use Rattle.block_net.specs.Views as block
use Rattle.block_net.specs.Views.{CellsView, label_in, border_in}
use Rattle.block_net.specs.Whole.{Whole, node_block, put_block}
use Rattle.block_events.specs.Effects.{BlocksView, state_of, blocks_after_accept, blocks_after_delivery, blocks_after_return}
use Rattle.net_in_blocks.specs.Views.{IsRow}
use Rattle.block_state.proofs.Effects.{border_apart}
use Rattle.net_in_blocks.proofs.Steps.{label_read, top_read, border_read, border_capacity, border_spot, back_spot, out_same, accepted_at, delivered_at, returned_at}
use Rattle.block_discharge.specs.Seen.{add_to}
use Rattle.block_discharge.specs.Steps as steps
use Rattle.block_discharge.specs.Steps.{TurnView, turn_after_accept, turn_after_refuse, turn_after_settle}
use Rattle.cut_in_blocks.specs.Seats.{IsSeated, logs_of}
use Rattle.cut_in_blocks.proofs.Logs.{sent_log, taken_log}
use Rattle.cut_in_blocks.proofs.Seated.{view_with, at_seat, border_seat, Goes, view_after, seat_after}
use Rattle.cut_in_blocks.proofs.Acts.{border_row}

-- the direction of a block that leads to block c, where a message from there names it
record IsMet (w : Whole) (b c : ℕ) (B : CellsView) (j : ℕ) (y : Direction) : Type 0 where
  pub row : IsRow (put_block w b B) y true b j
  pub between : IsBetween w.net (view_with w b B).blocks y b c
  pub other : c < length w.blocks
  pub apart : c ≡ b → ⊥

met : (w : Whole) (b c : ℕ) (B : CellsView) (j : ℕ) (y : Direction) → IsSeated w b B → steps.IsFrom B c j → (border_in B j).direction ≡ y → IsMet w b c B j y
met w b c B j y seat from is =
    let w1 = put_block w b B in
    let v = view_with w b B in
    let at = at_seat w b B seat in
    let found = border_seat w b B j seat from.place in
    let z = found.0 in
    let held = border_row w1 v b B z j at found.1 in
    let placed = seat.laid.placed.borders z found.1.direction found.1.outer in
    let names : z ≡ y = sym (ap (λ (q : Border). q.direction) held ∙ placed.direction) ∙ is in
    let leads : c ≡ node_block w1 (far w1.net z) = sym from.to ∙ (ap (λ (q : Border). q.to) held ∙ placed.to) in
    let between : IsBetween w.net v.blocks z b c = record { direction = found.1.direction; border = found.1.outer; near = found.1.node_block; far = sym leads } in
    record {
      row = subst (λ q. IsRow w1 q true b j) names found.1;
      between = subst (λ q. IsBetween w.net v.blocks q b c) names between;
      other = omega (arith, leads, seat.laid.placed.node_blocks (far w1.net z) (far_in w1.net z seat.laid.net found.1.direction), length-set w.blocks b B);
      apart = λ e. border_apart (state_of v [] 0) z found.1.outer (found.1.node_block ∙ (sym e ∙ leads));
    }

-- the same, seen from the other block
turned : (w : Whole) (b c n : ℕ) (x : Direction) → IsBetween w.net n (opposite x) b c → IsBetween w.net n x c b
turned w b c n x at = record {
  direction = at.direction;
  border = sym (border_opposite w.net n x) ∙ at.border;
  near = ap (core.block_of w.net n) (sym (far_opposite w.net x)) ∙ at.far;
  far = ap (core.block_of w.net n) (sym (near_opposite w.net x)) ∙ at.near;
}

-- a direction whose opposite is known
is_opposite : (x y : Direction) → opposite y ≡ x → y ≡ opposite x
is_opposite x y e = sym (opposite_twice y) ∙ ap opposite e

-- the logs after a message was taken, and after it was answered
answered_log : (n b c : ℕ) (sent taken : ℕ → List Message) (m reply : Message) → b < n → c < n → (c ≡ b → ⊥)
    → logs_of n b (add_to sent c reply) (add_to taken c m) ≡ core.put_message (core.put_message (logs_of n b sent taken) c b m) b c reply
answered_log n b c sent taken m reply lb lc apart =
    sent_log n b c sent (add_to taken c m) reply lb lc ∙ ap (λ l. core.put_message l b c reply) (taken_log n b c sent taken m lb lc apart)

pub accept_goes : (w : Whole) (b : ℕ) (h : TurnView) (c j got : ℕ) (m : Message) → IsSeated w b h.block → steps.MayAcceptAt h.block c j m → Goes w b h (turn_after_accept h c j m) got
accept_goes w b h c j got (Parcel x a d) seat may =
    let B = h.block in
    let w1 = put_block w b B in
    let v = view_with w b B in
    let n = length w.blocks in
    let ways = logs_of n b h.sent h.taken in
    let s = state_of v ways got in
    let at = at_seat w b B seat in
    let is = met w b c B j (opposite x) seat may.0 (is_opposite x (border_in B j).direction may.1) in
    let spot = back_spot w1 v b B x j at is.row in
    let new = block.cells_after_accept B j a d in
    let then' = accepted_at w1 v b B x j a d at is.row spot in
    let lane = border_read w1 v b B (opposite x) j at is.row in
    let residual = ap (λ (q : Lane). q.residual) lane in
    let flight = out_same (border_in B j).flight ∙ ap (λ (q : Lane). amount_out q.flight) lane in
    let capacity = border_capacity w1 v b B (opposite x) j at is.row in
    let label = label_read w1 v b B (far v.net x) (border_in B j).near at spot in
    let high = top_read w1 v b B at in
    let level : core.label_of s (far s.net x) + 1 ≡ d = omega (arith, may.3, label) in
    let within : d ≤ top s.net = omega (arith, may.4, high) in
    let fits : core.residual_of s (opposite x) + amount_out (core.flight_of s (opposite x)) + a ≤ (arc_at s.net x.arc).capacity = omega (arith, may.5, residual, flight, capacity) in
    let taken = answered_log n b c h.sent h.taken (Parcel x a d) (Accepted x a) seat.block is.other is.apart in
    record {
      event = Accept c b;
      got' = got;
      does = (
        refl,
        Parcel x a d,
        record { addressed = turned w b c v.blocks x is.between; fair = may.2 },
        level,
        (within, fits),
        ap (λ (q : BlocksView). state_of q (logs_of n b (add_to h.sent c (Accepted x a)) (add_to h.taken c (Parcel x a d))) got) (view_after w b B new (blocks_after_accept v x a d) then') ∙ ap (λ l. state_of (blocks_after_accept v x a d) l got) taken,
      );
      seated = seat_after w b B new (blocks_after_accept v x a d) seat then' (length-set B.excess (border_in B j).near _) refl (length-set B.borders j _);
    }
accept_goes w b h c j got (Accepted x a) seat may = absurd may
accept_goes w b h c j got (Refused x a d told) seat may = absurd may

pub refuse_goes : (w : Whole) (b : ℕ) (h : TurnView) (c j got : ℕ) (m : Message) → IsSeated w b h.block → steps.MayRefuseAt h.block c j m → Goes w b h (turn_after_refuse h c j m) got
refuse_goes w b h c j got (Parcel x a d) seat may =
    let B = h.block in
    let w1 = put_block w b B in
    let v = view_with w b B in
    let n = length w.blocks in
    let ways = logs_of n b h.sent h.taken in
    let s = state_of v ways got in
    let at = at_seat w b B seat in
    let is = met w b c B j (opposite x) seat may.0 (is_opposite x (border_in B j).direction may.1) in
    let spot = back_spot w1 v b B x j at is.row in
    let label = label_read w1 v b B (far v.net x) (border_in B j).near at spot in
    let above : d ≤ core.label_of s (far s.net x) = omega (arith, may.3, label) in
    let reply = λ (told : ℕ). Refused x a d told in
    let taken = answered_log n b c h.sent h.taken (Parcel x a d) (reply (label_in B (border_in B j).near)) seat.block is.other is.apart in
    record {
      event = Refuse c b;
      got' = got;
      does = (
        refl,
        Parcel x a d,
        record { addressed = turned w b c v.blocks x is.between; fair = may.2 },
        above,
        ap (λ l. state_of v l got) taken
            ∙ ap (λ (told : ℕ). state_of v (core.put_message (core.put_message ways c b (Parcel x a d)) b c (reply told)) got) label,
      );
      seated = seat;
    }
refuse_goes w b h c j got (Accepted x a) seat may = absurd may
refuse_goes w b h c j got (Refused x a d told) seat may = absurd may

pub settle_goes : (w : Whole) (b : ℕ) (h : TurnView) (c j got : ℕ) (m : Message) → IsSeated w b h.block → steps.MaySettleAt h.block c j m → Goes w b h (turn_after_settle h c j m) got
settle_goes w b h c j got (Parcel x a d) seat may = absurd may
settle_goes w b h c j got (Accepted x a) seat may =
    let B = h.block in
    let w1 = put_block w b B in
    let v = view_with w b B in
    let n = length w.blocks in
    let at = at_seat w b B seat in
    let is = met w b c B j x seat may.0 may.1 in
    let new = block.cells_after_delivery B j in
    let then' = delivered_at w1 v b B x j at is.row in
    let flight = ap (λ (q : Lane). q.flight) (border_read w1 v b B x j at is.row) in
    let taken = taken_log n b c h.sent h.taken (Accepted x a) seat.block is.other is.apart in
    record {
      event = Settle c b;
      got' = got;
      does = (
        refl,
        Accepted x a,
        record { addressed = is.between; fair = may.2 },
        (may.3, sym flight ∙ may.4),
        ap (λ (q : BlocksView). state_of q (logs_of n b h.sent (add_to h.taken c (Accepted x a))) got) (view_after w b B new (blocks_after_delivery v x) then') ∙ ap (λ l. state_of (blocks_after_delivery v x) l got) taken,
      );
      seated = seat_after w b B new (blocks_after_delivery v x) seat then' refl refl (length-set B.borders j _);
    }
settle_goes w b h c j got (Refused x a d told) seat may =
    let B = h.block in
    let w1 = put_block w b B in
    let v = view_with w b B in
    let n = length w.blocks in
    let at = at_seat w b B seat in
    let is = met w b c B j x seat may.0 may.1 in
    let spot = border_spot w1 v b B x j at is.row in
    let new = block.cells_after_return B j a told in
    let then' = returned_at w1 v b B x j a told at is.row spot in
    let flight = ap (λ (q : Lane). q.flight) (border_read w1 v b B x j at is.row) in
    let high = top_read w1 v b B at in
    let within : told ≤ top v.net = omega (arith, may.4, high) in
    let taken = taken_log n b c h.sent h.taken (Refused x a d told) seat.block is.other is.apart in
    record {
      event = Settle c b;
      got' = got;
      does = (
        refl,
        Refused x a d told,
        record { addressed = is.between; fair = may.2 },
        (sym flight ∙ may.3, within),
        ap (λ (q : BlocksView). state_of q (logs_of n b h.sent (add_to h.taken c (Refused x a d told))) got) (view_after w b B new (blocks_after_return v x a told) then') ∙ ap (λ l. state_of (blocks_after_return v x a told) l got) taken,
      );
      seated = seat_after w b B new (blocks_after_return v x a told) seat then' (length-set B.excess (border_in B j).near _) refl (length-set B.borders j _);
    }
