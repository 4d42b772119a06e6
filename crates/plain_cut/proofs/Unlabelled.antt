-- Pushes where all labels are 1.
use Rattle.std.proofs.Common.{◌≡◌, ◌≢◌, ℕ, ◌+◌, ◌-◌, ◌<◌, ◌≤◌, List, length, replicate, set, slice_index, inl, inr, sym, ◌∙◌, ap, arith, get_or-set_same, get_or-set_other}
use Rattle.std.proofs.lemmas.List.{length-replicate}
use Rattle.plain_cut.specs.declared.work.Work.{Work}
use Rattle.flow_network.specs.Cut.{Network, nodes, IsNet}
use Rattle.flow_network.specs.Preflow.{Flow, arc_at}
use Rattle.flow_network.specs.Progress.{IsLabelledPreflow}
use Rattle.flow_network.proofs.Duality.{arc_is}
use Rattle.flow_network.proofs.Push.{moved}
use Rattle.flow_network.proofs.Moves.{relabel_sound, forward_sound, back_sound}
use Rattle.sink_distances.specs.Rows.{head_at, residual_at, carried_flow, IsPlace, IsPlaceOf, IsRows, IsSent}
use Rattle.sink_distances.proofs.Showing.{carried_at, carried_forth, carried_back, rows_sent}
use Rattle.plain_cut.specs.State.{work_flow, IsUnlabelled}
use Rattle.sink_distances.proofs.Laws.{residual_nodes}
use Rattle.plain_cut.proofs.Starting.{zeros}
use Rattle.plain_cut.proofs.Zeros.{no_zeros}

-- labels of at most 1 fit every preflow
flat_sound : (net : Network) (flow : Flow) (kept other labels : List ℕ) → IsNet net → IsLabelledPreflow net flow kept other → length labels ≡ nodes net
    → ((v : ℕ) → v < nodes net → slice_index labels v ≤ 1) → IsLabelledPreflow net flow kept labels
flat_sound net flow kept other labels h s len flat = record {
  preflow = s.preflow;
  kept_len = s.kept_len;
  told = s.told;
  labelling = record {
    len = len;
    sinks = λ v l room. flat v l;
    arcs = λ a b step. omega (arith, flat a (residual_nodes net flow a b h step).0);
  };
  below_top = λ v l. omega (arith, flat v l);
}

-- for the proof of a push labels may be 0 but for that of the node that pushes
abbrev one_up : Network → ℕ → List ℕ
one_up net u = set (replicate (nodes net) 0) u 1

up_sound : (net : Network) (flow : Flow) (kept labels : List ℕ) (u : ℕ) → IsNet net → IsLabelledPreflow net flow kept labels → u < nodes net
    → IsLabelledPreflow net flow kept (one_up net u)
up_sound net flow kept labels u h s l =
    let none = zeros (nodes net) in
    let flat = flat_sound net flow kept labels (replicate (nodes net) 0) h s (length-replicate (nodes net) 0) (λ v lv. omega (arith, none v)) in
    relabel_sound net flow kept (replicate (nodes net) 0) u 1 flat l (omega (arith, none u)) (omega arith) (λ room. omega arith) (λ b step. omega arith)

up_leads_down : (net : Network) (u w : ℕ) → u < nodes net → u ≢ w → slice_index (one_up net u) u ≡ slice_index (one_up net u) w + 1
up_leads_down net u w l ne =
    let flat : List ℕ = replicate (nodes net) 0 in
    let long : length flat ≡ nodes net = length-replicate (nodes net) 0 in
    let here : slice_index (one_up net u) u ≡ 1 = get_or-set_same flat u 1 0 (omega (arith, l, long)) in
    let there : slice_index (one_up net u) w ≡ slice_index flat w = get_or-set_other flat u w 1 0 (λ e. ne (sym e)) in
    omega (arith, here, there, zeros (nodes net) w)

-- ---- over the work

send_work : (net : Network) (old new : Work) (k z : ℕ) → IsNet net → IsUnlabelled net old → IsRows net new.rows → k < length net.arcs
    → (arc_at net k).from ≢ (arc_at net k).to → z ≤ slice_index old.excess.items (arc_at net k).from
    → slice_index (carried_flow old.rows) k + z ≤ (arc_at net k).capacity → slice_index (carried_flow old.rows) k < (arc_at net k).capacity
    → carried_flow new.rows ≡ set (carried_flow old.rows) k (slice_index (carried_flow old.rows) k + z) → new.rooms.items ≡ old.rooms.items
    → new.excess.items ≡ moved old.excess.items (arc_at net k).from (arc_at net k).to z → new.labels.items ≡ old.labels.items
    → new.queue.items ≡ old.queue.items → IsUnlabelled net new
send_work net old new k z h o shown l ne le fits room ea es ee el eq =
    let s = o.work.sound in
    let u = (arc_at net k).from in
    let w = (arc_at net k).to in
    let ends = arc_is net h k l in
    let up = up_sound net (work_flow net old) old.excess.items old.labels.items u h s ends.from in
    let sent = forward_sound net (work_flow net old) old.excess.items (one_up net u) k z h up l le fits room (up_leads_down net u w ends.from ne) in
    record {
      work = record {
        sound = rw (ea, es, ee, el) (flat_sound net _ _ (one_up net u) old.labels.items h sent s.labelling.len (λ v lv. omega (arith, o.labels v lv)));
        zeros = no_zeros net (work_flow net new) new.excess.items new.labels.items h (λ v lv none. omega (arith, none, ap (λ (xs : List ℕ). slice_index xs v) el, o.labels v lv));
        shown = shown;
        rooms = rw es o.work.rooms;
        queue = rw eq o.work.queue;
      };
      labels = λ v lv. rw el (o.labels v lv);
    }

back_work : (net : Network) (old new : Work) (k z : ℕ) → IsNet net → IsUnlabelled net old → IsRows net new.rows → k < length net.arcs
    → (arc_at net k).from ≢ (arc_at net k).to → z ≤ slice_index old.excess.items (arc_at net k).to
    → z ≤ slice_index (carried_flow old.rows) k → 0 < slice_index (carried_flow old.rows) k
    → carried_flow new.rows ≡ set (carried_flow old.rows) k (slice_index (carried_flow old.rows) k - z) → new.rooms.items ≡ old.rooms.items
    → new.excess.items ≡ moved old.excess.items (arc_at net k).to (arc_at net k).from z → new.labels.items ≡ old.labels.items
    → new.queue.items ≡ old.queue.items → IsUnlabelled net new
back_work net old new k z h o shown l ne le fits some ea es ee el eq =
    let s = o.work.sound in
    let u = (arc_at net k).to in
    let w = (arc_at net k).from in
    let ends = arc_is net h k l in
    let up = up_sound net (work_flow net old) old.excess.items old.labels.items u h s ends.to in
    let sent = back_sound net (work_flow net old) old.excess.items (one_up net u) k z h up l le fits some (up_leads_down net u w ends.to (λ e. ne (sym e))) in
    record {
      work = record {
        sound = rw (ea, es, ee, el) (flat_sound net _ _ (one_up net u) old.labels.items h sent s.labelling.len (λ v lv. omega (arith, o.labels v lv)));
        zeros = no_zeros net (work_flow net new) new.excess.items new.labels.items h (λ v lv none. omega (arith, none, ap (λ (xs : List ℕ). slice_index xs v) el, o.labels v lv));
        shown = shown;
        rooms = rw es o.work.rooms;
        queue = rw eq o.work.queue;
      };
      labels = λ v lv. rw el (o.labels v lv);
    }

along_of : (net : Network) (old new : Work) (v p z : ℕ) → IsNet net → IsUnlabelled net old → IsRows net new.rows → IsPlaceOf net old.rows v p
    → v ≢ head_at old.rows p → z ≤ slice_index old.excess.items v → z ≤ residual_at old.rows p → 0 < residual_at old.rows p
    → IsSent old.rows new.rows p z → new.rooms.items ≡ old.rooms.items
    → new.excess.items ≡ moved old.excess.items v (head_at old.rows p) z → new.labels.items ≡ old.labels.items
    → new.queue.items ≡ old.queue.items → IsUnlabelled net new
along_of net old new v p z h o shown (k, l, inl (at, from)) ne le fits some sent es ee el eq =
    let r = o.work.shown in
    let a = r.arcs k l in
    let head = ap (head_at old.rows) at ∙ a.head in
    let ea = carried_forth net old.rows new.rows p z k r shown sent l at in
    let room = carried_at net old.rows k r l in
    let here = ap (residual_at old.rows) at in
    let ee' = ee ∙ (ap (λ u. moved old.excess.items u (head_at old.rows p) z) (sym from) ∙ ap (λ w. moved old.excess.items (arc_at net k).from w z) head) in
    send_work net old new k z h o shown l (λ e. ne (sym from ∙ (e ∙ sym head))) (omega (arith, le, ap (slice_index old.excess.items) from))
    (omega (arith, fits, room, here, a.capacity)) (omega (arith, some, room, here, a.capacity)) ea es ee' el eq
along_of net old new v p z h o shown (k, l, inr (at, to)) ne le fits some sent es ee el eq =
    let r = o.work.shown in
    let a = r.arcs k l in
    let head = ap (head_at old.rows) at ∙ a.tail in
    let ea = carried_back net old.rows new.rows p z k r shown sent l at in
    let room = carried_at net old.rows k r l in
    let here = ap (residual_at old.rows) at in
    let ee' = ee ∙ (ap (λ u. moved old.excess.items u (head_at old.rows p) z) (sym to) ∙ ap (λ w. moved old.excess.items (arc_at net k).to w z) head) in
    back_work net old new k z h o shown l (λ e. ne (sym to ∙ (sym e ∙ sym head))) (omega (arith, le, ap (slice_index old.excess.items) to))
    (omega (arith, fits, room, here)) (omega (arith, some, room, here)) ea es ee' el eq

-- an amount goes along a direction of a node
pub along_work : (net : Network) (old new : Work) (v p z : ℕ) → IsNet net → IsUnlabelled net old → v < nodes net → IsPlace old.rows v p
    → v ≢ head_at old.rows p → z ≤ slice_index old.excess.items v → z ≤ residual_at old.rows p → 0 < residual_at old.rows p
    → IsSent old.rows new.rows p z → new.rooms.items ≡ old.rooms.items
    → new.excess.items ≡ moved old.excess.items v (head_at old.rows p) z → new.labels.items ≡ old.labels.items
    → new.queue.items ≡ old.queue.items → IsUnlabelled net new
along_work net old new v p z h o lv place ne le fits some sent =
    along_of net old new v p z h o (rows_sent net old.rows new.rows v p z o.work.shown lv place fits sent) (o.work.shown.each v p lv place) ne le fits some sent
