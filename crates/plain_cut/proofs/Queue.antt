-- The queue while a node is discharged.
use Rattle.std.proofs.Common.{◌≡◌, ◌≢◌, ℕ, zero, suc, ◌<◌, inl, inr, List, [], ◌∷◌, ◌≤◌, ◌∙◌, length, take, slice_index, Contains, sym, ap, arith}
use Rattle.std.proofs.lemmas.Bool.{cases_lt, cases_eq}
use Rattle.std.proofs.lemmas.List.{get_or-take}
use Rattle.std.proofs.Math.ListN.{length-take}
use Rattle.sink_distances.specs.Search.{StandsAmong}
use Rattle.plain_cut.specs.declared.work.Work.{Work}
use Rattle.flow_network.specs.Cut.{Network, nodes}
use Rattle.plain_cut.specs.State.{IsWork, IsQueuedBut, HasNoExcessBelow}

-- what stands among the first so many of an order is in the list of these
pub among_first : (order : List ℕ) (count v : ℕ) → count ≤ length order → StandsAmong order count v → StandsAmong (take count order) (length (take count order)) v
among_first order count v fits among = (among.0, omega (arith, among.1, fits, length-take {A = ℕ}), get_or-take count order among.0 0 among.1 ∙ among.2)

contains_rest : (v x : ℕ) (rest : List ℕ) → x ≢ v → Contains (v ∷ rest) x → Contains rest x
contains_rest v x rest ne (zero, l, e) = absurd (ne (sym e))
contains_rest v x rest ne (suc k, l, e) = (k, omega arith, e)

pub pop_queued : (net : Network) (limit : ℕ) (w w' : Work) (v : ℕ) (rest : List ℕ) → w.queue.items ≡ v ∷ rest
    → w'.excess.items ≡ w.excess.items → w'.labels.items ≡ w.labels.items → w'.queue.items ≡ rest
    → IsQueuedBut net limit (nodes net) w → IsQueuedBut net limit v w'
pop_queued net limit w w' v rest eq ee el er h x lx ne some low =
    let inside = h x lx (λ e. absurd (omega arith)) (omega (arith, ap (λ (xs : List ℕ). slice_index xs x) ee, some)) (omega (arith, ap (λ (xs : List ℕ). slice_index xs x) el, low)) in
    rw er (contains_rest v x rest ne (rw eq at inside))

pub pop_work : (net : Network) (w w' : Work) (v : ℕ) (rest : List ℕ) → w.queue.items ≡ v ∷ rest
    → w'.rows ≡ w.rows → w'.rooms.items ≡ w.rooms.items
    → w'.excess.items ≡ w.excess.items → w'.labels.items ≡ w.labels.items → w'.queue.items ≡ rest
    → IsWork net w → (v < nodes net) × IsWork net w'
pop_work net w w' v rest eq ea es ee el er h =
    let all = rw eq at h.queue in
    (all 0 0 (omega arith), record { sound = rw (ea, es, ee, el) h.sound; zeros = rw (ea, es, ee, el) h.zeros; shown = rw ea h.shown; rooms = rw es h.rooms; queue = rw er (λ k d l. all (suc k) d (omega (arith, l))) })

pub done_queued : (net : Network) (limit : ℕ) (w : Work) (v : ℕ) → (slice_index w.labels.items v < limit → slice_index w.excess.items v ≡ 0)
    → IsQueuedBut net limit v w → IsQueuedBut net limit (nodes net) w
done_queued net limit w v done h x lx ne some low = elim (cases_eq x v) [
  | inl same ↦
      let e1 = ap (slice_index w.labels.items) same in
      let e2 = ap (slice_index w.excess.items) same in
      let none = done (omega (arith, e1, low)) in
      absurd (omega (arith, none, e2, some))
  | inr other ↦ h x lx other some low
]

pub all_done : (net : Network) (limit : ℕ) (w : Work) → w.queue.items ≡ [] → IsQueuedBut net limit (nodes net) w → HasNoExcessBelow net limit w
all_done net limit w none h v lv low = elim (cases_lt 0 (slice_index w.excess.items v)) [
  | inl some ↦
      let inside = h v lv (λ e. absurd (omega arith)) some low in
      let empty = rw none at inside in
      absurd (omega (arith, empty.1))
  | inr spent ↦ omega arith
]
