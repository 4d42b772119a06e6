-- One event in code is one event of the block.
use Rattle.std.proofs.Common.{◌≡◌, ℕ, ◌-◌, ◌<◌, inl, inr, min, List, length, set, get_or, refl, sym, ◌∙◌, ap, subst, arith, get_or-set_same, get_or-set_other}
use mathlib.Core.Path.{fun_ext}
use Rattle.std.proofs.lemmas.Bool.{cases_eq, cases_lt}
use Rattle.std.proofs.lemmas.List.{length-set, set_past}
use Rattle.block_events.specs.declared.message.Message.{Message}
use Rattle.block_net.specs.declared.lanes.Border.{Border}
use Rattle.block_net.specs.Views.{MayPush, MaySend, CellsView, excess_in, label_in, room_in, lane_in, border_in, no_border, cells_after_push, cells_after_sink_push, cells_after_relabel, cells_after_send, parcel_of, highest}
use Rattle.block_discharge.specs.Seen.{WaysView, IsLook, IsPut, add_to}
use Rattle.block_discharge.specs.Steps.{Push, Give, Relabel, Send, IsOfNode, IsBorderOfNode, turn_view}
use Rattle.block_discharge.specs.Active.{IsActiveInBlock}
use Rattle.block_discharge.specs.Calls.{Performs}
use Rattle.block_discharge.specs.Works.{IsAlike, DoesEvents}
use Rattle.block_discharge.proofs.Runs.{does_one, look_sent, look_taken}

-- a row that leads to the same block in a row's stead
pub to_kept : (xs : List Border) (j : ℕ) (row : Border) → row.to ≡ (get_or xs j no_border).to → (i : ℕ) → (get_or (set xs j row) i no_border).to ≡ (get_or xs i no_border).to
to_kept xs j row e i = elim (cases_eq i j) [
  | inr other ↦ ap (λ (x : Border). x.to) (get_or-set_other xs j i row no_border other)
  | inl same ↦ elim (cases_lt j (length xs)) [
    | inl l ↦ rw same (ap (λ (x : Border). x.to) (get_or-set_same xs j row no_border l) ∙ e)
    | inr past ↦ ap (λ (ys : List Border). (get_or ys i no_border).to) (set_past xs j row past)
  ]
]

-- ---- the sink

pub done_give : (b b' : CellsView) (s : WaysView) (v : ℕ) → IsActiveInBlock b v → 0 < room_in b v → label_in b v ≡ 1 → b' ≡ cells_after_sink_push b v (min (excess_in b v) (room_in b v))
    → Performs b s (Give v) b' s
done_give b b' s v active room label made = record { enabled = (active, room, label); effect = ap (λ (x : CellsView). turn_view x s) made }

pub does_give : (b b' : CellsView) (s : WaysView) (v : ℕ) → IsActiveInBlock b v → 0 < room_in b v → label_in b v ≡ 1 → b' ≡ cells_after_sink_push b v (min (excess_in b v) (room_in b v))
    → DoesEvents b s 1 b' s
does_give b b' s v active room label made =
    let alike : IsAlike b (cells_after_sink_push b v (min (excess_in b v) (room_in b v))) = record {
      top = refl;
      count = length-set b.excess v _;
      starts = refl;
      lanes = refl;
      border_starts = refl;
      borders = refl;
      tos = λ i. refl;
    } in
    let done = done_give b b' s v active room label made in
    does_one b b' s s (Give v) done.enabled done.effect (subst (IsAlike b) (sym made) alike)

-- ---- a direction within the block

pub done_push : (b b' : CellsView) (s : WaysView) (v j : ℕ) → IsActiveInBlock b v → IsOfNode b v j → MayPush b v j → b' ≡ cells_after_push b v j (min (excess_in b v) (lane_in b j).residual)
    → Performs b s (Push v j) b' s
done_push b b' s v j active lane may made = record { enabled = (active, lane, may); effect = ap (λ (x : CellsView). turn_view x s) made }

pub does_push : (b b' : CellsView) (s : WaysView) (v j : ℕ) → IsActiveInBlock b v → IsOfNode b v j → MayPush b v j → b' ≡ cells_after_push b v j (min (excess_in b v) (lane_in b j).residual)
    → DoesEvents b s 1 b' s
does_push b b' s v j active lane may made =
    let z = min (excess_in b v) (lane_in b j).residual in
    let less = set b.excess v (excess_in b v - z) in
    let taken = set b.lanes j (record (lane_in b j) { residual = (lane_in b j).residual - z }) in
    let alike : IsAlike b (cells_after_push b v j z) = record {
      top = refl;
      count = length-set less (lane_in b j).far _ ∙ length-set b.excess v _;
      starts = refl;
      lanes = length-set taken (lane_in b j).opposite _ ∙ length-set b.lanes j _;
      border_starts = refl;
      borders = refl;
      tos = λ i. refl;
    } in
    let done = done_push b b' s v j active lane may made in
    does_one b b' s s (Push v j) done.enabled done.effect (subst (IsAlike b) (sym made) alike)

-- ---- another block

pub done_send : (b b' : CellsView) (s t u : WaysView) (v j : ℕ) (x : Border) (m : Message) → IsActiveInBlock b v → IsBorderOfNode b v j → MaySend b v j → x ≡ border_in b j → m ≡ parcel_of b v j
    → b' ≡ cells_after_send b v j (min (excess_in b v) (border_in b j).residual) → IsLook s t → IsPut x.to m t u
    → Performs b s (Send v j) b' u
done_send b b' s t u v j x m active border may is_x is_m made look put =
    let sent_is : u.sent ≡ add_to s.sent (border_in b j).to (parcel_of b v j) = fun_ext put.sent ∙ rw (look_sent s t look, is_m, is_x) refl in
    let taken_is : u.taken ≡ s.taken = fun_ext put.taken ∙ look_taken s t look in
    record { enabled = (active, border, may); effect = rw (made, sent_is, taken_is) refl }

pub does_send : (b b' : CellsView) (s t u : WaysView) (v j : ℕ) (x : Border) (m : Message) → IsActiveInBlock b v → IsBorderOfNode b v j → MaySend b v j → x ≡ border_in b j → m ≡ parcel_of b v j
    → b' ≡ cells_after_send b v j (min (excess_in b v) (border_in b j).residual) → IsLook s t → IsPut x.to m t u
    → DoesEvents b s 1 b' u
does_send b b' s t u v j x m active border may is_x is_m made look put =
    let z = min (excess_in b v) (border_in b j).residual in
    let alike : IsAlike b (cells_after_send b v j z) = record {
      top = refl;
      count = length-set b.excess v _;
      starts = refl;
      lanes = refl;
      border_starts = refl;
      borders = length-set b.borders j _;
      tos = to_kept b.borders j _ refl;
    } in
    let done = done_send b b' s t u v j x m active border may is_x is_m made look put in
    does_one b b' s u (Send v j) done.enabled done.effect (subst (IsAlike b) (sym made) alike)

-- ---- a label

pub done_rise : (b b' : CellsView) (s : WaysView) (v d : ℕ) → IsActiveInBlock b v → label_in b v < d → d ≡ highest b v → b' ≡ cells_after_relabel b v d → Performs b s (Relabel v) b' s
done_rise b b' s v d active high is made =
    record { enabled = (active, omega (arith, high, is)); effect = ap (λ (x : CellsView). turn_view x s) (made ∙ ap (cells_after_relabel b v) is) }

pub does_rise : (b b' : CellsView) (s : WaysView) (v d : ℕ) → IsActiveInBlock b v → label_in b v < d → d ≡ highest b v → b' ≡ cells_after_relabel b v d → DoesEvents b s 1 b' s
does_rise b b' s v d active high is made =
    let at : b' ≡ cells_after_relabel b v (highest b v) = made ∙ ap (cells_after_relabel b v) is in
    let alike : IsAlike b (cells_after_relabel b v (highest b v)) = record { top = refl; count = refl; starts = refl; lanes = refl; border_starts = refl; borders = refl; tos = λ i. refl } in
    let done = done_rise b b' s v d active high is made in
    does_one b b' s s (Relabel v) done.enabled done.effect (subst (IsAlike b) (sym at) alike)
