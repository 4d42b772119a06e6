-- Pushes that ask for less than the events do keep a block in a sound state.
use Rattle.std.proofs.Common.{ℕ, ◌+◌, ◌-◌, ◌<◌, ◌≤◌, List, length, set, refl, sym, ◌∙◌, ap, subst, arith}
use Rattle.std.proofs.lemmas.List.{length-set}
use Rattle.block_events.specs.declared.lane.Lane.{Lane}
use Rattle.block_events.specs.declared.message.Message.{Message}
use Rattle.block_events.specs.Directions.{near, far}
use Rattle.block_events.specs.States as core
use Rattle.block_events.specs.Soundness.{IsSound}
use Rattle.block_events.proofs.Inside.{pushed_kept, given_kept}
use Rattle.block_net.specs.Views as block
use Rattle.block_net.specs.Views.{CellsView, count, excess_in, label_in, room_in, lane_in}
use Rattle.block_net.specs.Whole.{Whole, put_block}
use Rattle.block_events.specs.Effects.{BlocksView, state_of, blocks_after_sink_push}
use Rattle.net_in_blocks.proofs.Steps.{excess_read, label_read, room_read, inner_read, far_spot, back_row, gave_at, pushed_at}
use Rattle.block_discharge.specs.Steps.{IsOfNode}
use Rattle.cut_in_blocks.specs.Loose.{IsInPlace}
use Rattle.cut_in_blocks.proofs.Seated.{view_with, at_seat, node_seat, view_after, seat_after, lane_found}

pub loose_push_keeps : (w : Whole) (b : ℕ) (B : CellsView) (ways : List (List (List Message))) (got p j a : ℕ) → IsInPlace w b B ways got → p < count B → IsOfNode B p j
    → a ≤ excess_in B p → a ≤ (lane_in B j).residual → label_in B (lane_in B j).far ≤ label_in B p + 1 → IsInPlace w b (block.cells_after_push B p j a) ways got
loose_push_keeps w b B ways got p j a stands lp of enough fits level =
    let w1 = put_block w b B in
    let v = view_with w b B in
    let s = state_of v ways got in
    let at = at_seat w b B stands.seated in
    let node = node_seat w b B p stands.seated lp in
    let found = lane_found w1 v b B at ways got node.0 p j node.1 of in
    let x = found.x in
    let new = block.cells_after_push B p j a in
    let away = far_spot w1 v b B x j at found.row in
    let then' = pushed_at w1 v b B x j p a at found.row found.spot (back_row w1 v b B x j at found.row) away in
    let residual = ap (λ (q : Lane). q.residual) (inner_read w1 v b B x j at found.row) in
    let excess = excess_read w1 v b B (near v.net x) p at found.spot in
    let label = label_read w1 v b B (near v.net x) p at found.spot in
    let label' = label_read w1 v b B (far v.net x) (lane_in B j).far at away in
    let kept = pushed_kept s x a stands.sound found.row.direction found.row.outer (omega (arith, enough, excess)) (omega (arith, fits, residual)) (omega (arith, level, label, label')) in
    record {
      seated = seat_after w b B new _ stands.seated then' (length-set (set B.excess p (excess_in B p - a)) (lane_in B j).far _ ∙ length-set B.excess p _) refl refl;
      sound = subst (λ (q : BlocksView). IsSound (state_of q ways got)) (sym (view_after w b B new _ then')) kept;
    }

pub loose_give_keeps : (w : Whole) (b : ℕ) (B : CellsView) (ways : List (List (List Message))) (got p a : ℕ) → IsInPlace w b B ways got → p < count B → p < length B.rooms
    → a ≤ excess_in B p → a ≤ room_in B p → IsInPlace w b (block.cells_after_sink_push B p a) ways (got + a)
loose_give_keeps w b B ways got p a stands lp lr enough fits =
    let w1 = put_block w b B in
    let v = view_with w b B in
    let s = state_of v ways got in
    let at = at_seat w b B stands.seated in
    let found = node_seat w b B p stands.seated lp in
    let u = found.0 in
    let new = block.cells_after_sink_push B p a in
    let then' = gave_at w1 v b B u p a at found.1 lr in
    let excess = excess_read w1 v b B u p at found.1 in
    let room = room_read w1 v b B u p at found.1 in
    let kept = given_kept s u a stands.sound found.1.node (omega (arith, enough, excess)) (omega (arith, fits, room)) in
    record {
      seated = seat_after w b B new (blocks_after_sink_push v u a) stands.seated then' (length-set B.excess p _) refl refl;
      sound = subst (λ (q : BlocksView). IsSound (state_of q ways (got + a))) (sym (view_after w b B new (blocks_after_sink_push v u a) then')) kept;
    }
