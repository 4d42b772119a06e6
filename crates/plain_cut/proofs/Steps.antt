-- A push, a gift or a new label is a step of the work.
use Rattle.std.proofs.Common.{◌≡◌, ◌≢◌, ℕ, ◌+◌, ◌-◌, ◌<◌, ◌≤◌, inl, inr, Bool, true, false, cond, eqb, List, [], ◌∷◌, ◌++◌, length, set, slice_index, All, Contains, refl, sym, ◌∙◌, ap, subst, arith, get_or-set_other}
use Rattle.std.proofs.lemmas.List.{length_push}
use Rattle.std.proofs.lemmas.List.Elements.{All-push, Contains-append_left, Contains-push}
use Rattle.std.proofs.lemmas.Bool.{cases_lt, cases_eq, eq-eqb}
use Rattle.plain_cut.specs.declared.work.Work.{Work}
use Rattle.flow_network.specs.Cut.{Network, nodes, IsNet}
use Rattle.flow_network.specs.Preflow.{arc_at, sink_flows, IsResidual}
use Rattle.flow_network.specs.Progress.{IsLabelledPreflow}
use Rattle.sink_distances.specs.Rows.{head_at, residual_at, carried_flow, IsPlace, IsPlaceOf, IsRows, IsSent}
use Rattle.sink_distances.proofs.Showing.{carried_at, carried_forth, carried_back, rows_sent, residual_place}
use Rattle.plain_cut.specs.State.{work_flow, CountAsSink, IsWork, work_measure, IsStep, IsSteps, IsWave, IsLowest}
use Rattle.plain_cut.proofs.Zeros.{push_ends, push_zeros, give_zeros, relabel_zeros}
use Rattle.flow_network.proofs.Duality.{arc_is}
use Rattle.flow_network.proofs.Given.{given_at, given_set, rooms_set, left_room}
use Rattle.flow_network.proofs.Push.{moved, move_lowers, give_lowers}
use Rattle.flow_network.proofs.Moves.{forward_sound, back_sound, give_sound, relabel_sound, relabel_lowers_all}

-- ---- the queue

abbrev pub queued_after : List ℕ → ℕ → ℕ → List ℕ
queued_after queue e w = cond (eqb e 0) (queue ++ w ∷ []) queue

queue_all : (n : ℕ) (queue : List ℕ) (w : ℕ) (b : Bool) → w < n → All (λ v. v < n) queue → All (λ v. v < n) (cond b (queue ++ w ∷ []) queue)
queue_all n queue w true l h = All-push (λ v. v < n) queue w h l
queue_all n queue w false l h = h

queue_length : (queue : List ℕ) (w : ℕ) (b : Bool) → length (cond b (queue ++ w ∷ []) queue) ≤ length queue + 1
queue_length queue w true = omega (arith, length_push queue w)
queue_length queue w false = omega arith

queue_keeps : (queue : List ℕ) (w : ℕ) (b : Bool) (v : ℕ) → Contains queue v → Contains (cond b (queue ++ w ∷ []) queue) v
queue_keeps queue w true v h = Contains-append_left queue (w ∷ []) v h
queue_keeps queue w false v h = h

queue_gains : (queue : List ℕ) (w : ℕ) (b : Bool) → (b ≡ false → Contains queue w) → Contains (cond b (queue ++ w ∷ []) queue) w
queue_gains queue w true h = Contains-push queue w
queue_gains queue w false h = h refl

-- ---- a push

pub push_step : (net : Network) (old new : Work) (u w z : ℕ) → IsWork net old
    → IsLabelledPreflow net (work_flow net new) new.excess.items new.labels.items
    → CountAsSink net (work_flow net new) new.excess.items new.labels.items → IsRows net new.rows → work_measure net new < work_measure net old
    → u ≢ w → w < nodes net → new.rooms.items ≡ old.rooms.items
    → new.excess.items ≡ moved old.excess.items u w z → new.labels.items ≡ old.labels.items
    → new.queue.items ≡ queued_after old.queue.items (slice_index old.excess.items w) w → new.relabels ≡ old.relabels
    → IsStep net u old new
push_step net old new u w z h sound zeros shown lower ne lw es ee el eq er =
    let b = eqb (slice_index old.excess.items w) 0 in
    record {
      work = record { sound = sound; zeros = zeros; shown = shown; rooms = rw es h.rooms; queue = rw eq (queue_all (nodes net) old.queue.items w b lw h.queue) };
      lower = lower;
      counted = omega (arith, lower, er);
      queue = rw eq (queue_length old.queue.items w b);
      queued = λ limit before v lv off some low.
          let low' : slice_index old.labels.items v < limit = omega (arith, ap (λ (xs : List ℕ). slice_index xs v) el, low) in
          let kept = ap (λ (xs : List ℕ). slice_index xs v) ee in
          rw eq (elim (cases_eq v w) [
            | inl there ↦ rw there (queue_gains old.queue.items w b (λ fails.
                let positive : 0 < slice_index old.excess.items w = elim (cases_lt 0 (slice_index old.excess.items w)) [
                  | inl holds ↦ holds
                  | inr none ↦ let yes' = eq-eqb (slice_index old.excess.items w) 0 (omega arith) in absurd (cc)
                ] in
                before w lw (λ e. ne (sym e)) positive (omega (arith, ap (slice_index old.labels.items) there, low'))))
            | inr away ↦
                let r1 = get_or-set_other (set old.excess.items u (slice_index old.excess.items u - z)) w v (slice_index old.excess.items w + z) 0 away in
                let r2 = get_or-set_other old.excess.items u v (slice_index old.excess.items u - z) 0 off in
                queue_keeps old.queue.items w b v (before v lv off (omega (arith, kept, r1, r2, some)) low')
          ]);
    }

forward_step : (net : Network) (old new : Work) (k z : ℕ) → IsNet net → IsWork net old → IsRows net new.rows → k < length net.arcs
    → z ≤ slice_index old.excess.items (arc_at net k).from → 0 < z → slice_index (carried_flow old.rows) k + z ≤ (arc_at net k).capacity
    → slice_index old.labels.items (arc_at net k).from ≡ slice_index old.labels.items (arc_at net k).to + 1
    → carried_flow new.rows ≡ set (carried_flow old.rows) k (slice_index (carried_flow old.rows) k + z) → new.rooms.items ≡ old.rooms.items
    → new.excess.items ≡ moved old.excess.items (arc_at net k).from (arc_at net k).to z → new.labels.items ≡ old.labels.items
    → new.queue.items ≡ queued_after old.queue.items (slice_index old.excess.items (arc_at net k).to) (arc_at net k).to
    → new.relabels ≡ old.relabels → IsStep net (arc_at net k).from old new
forward_step net old new k z h s shown l le some fits down ea es ee el eq er =
    let u = (arc_at net k).from in
    let w = (arc_at net k).to in
    let ne : u ≢ w = λ e. (let same = ap (slice_index old.labels.items) e in omega (arith, same, down)) in
    let ends = arc_is net h k l in
    let off = push_ends net (work_flow net old) old.excess.items old.labels.items u w s.zeros ends.from (omega (arith, le, some)) (k, l, inl (refl, refl, omega (arith, fits, some))) in
    push_step net old new u w z s
    (rw (ea, es, ee, el) (forward_sound net (work_flow net old) old.excess.items old.labels.items k z h s.sound l le fits (omega (arith, fits, some)) down))
    (rw (ea, es, ee, el) (push_zeros net (work_flow net old) old.excess.items old.labels.items k _ u w z s.zeros off.0 off.1 off.0 off.1)) shown
    (rw (ee, el) (move_lowers net old.excess.items old.labels.items u w z ends.from ends.to ne s.sound.kept_len le some down))
    ne ends.to es ee el eq er

back_step : (net : Network) (old new : Work) (k z : ℕ) → IsNet net → IsWork net old → IsRows net new.rows → k < length net.arcs
    → z ≤ slice_index old.excess.items (arc_at net k).to → 0 < z → z ≤ slice_index (carried_flow old.rows) k
    → slice_index old.labels.items (arc_at net k).to ≡ slice_index old.labels.items (arc_at net k).from + 1
    → carried_flow new.rows ≡ set (carried_flow old.rows) k (slice_index (carried_flow old.rows) k - z) → new.rooms.items ≡ old.rooms.items
    → new.excess.items ≡ moved old.excess.items (arc_at net k).to (arc_at net k).from z → new.labels.items ≡ old.labels.items
    → new.queue.items ≡ queued_after old.queue.items (slice_index old.excess.items (arc_at net k).from) (arc_at net k).from
    → new.relabels ≡ old.relabels → IsStep net (arc_at net k).to old new
back_step net old new k z h s shown l le some fits down ea es ee el eq er =
    let u = (arc_at net k).to in
    let w = (arc_at net k).from in
    let ne : u ≢ w = λ e. (let same = ap (slice_index old.labels.items) e in omega (arith, same, down)) in
    let ends = arc_is net h k l in
    let off = push_ends net (work_flow net old) old.excess.items old.labels.items u w s.zeros ends.to (omega (arith, le, some)) (k, l, inr (refl, refl, omega (arith, fits, some))) in
    push_step net old new u w z s
    (rw (ea, es, ee, el) (back_sound net (work_flow net old) old.excess.items old.labels.items k z h s.sound l le fits (omega (arith, fits, some)) down))
    (rw (ea, es, ee, el) (push_zeros net (work_flow net old) old.excess.items old.labels.items k _ u w z s.zeros off.1 off.0 off.0 off.1)) shown
    (rw (ee, el) (move_lowers net old.excess.items old.labels.items u w z ends.to ends.from ne s.sound.kept_len le some down))
    ne ends.from es ee el eq er

along_of : (net : Network) (old new : Work) (v p z : ℕ) → IsNet net → IsWork net old → IsRows net new.rows → IsPlaceOf net old.rows v p
    → z ≤ slice_index old.excess.items v → 0 < z → z ≤ residual_at old.rows p
    → slice_index old.labels.items v ≡ slice_index old.labels.items (head_at old.rows p) + 1
    → IsSent old.rows new.rows p z → new.rooms.items ≡ old.rooms.items
    → new.excess.items ≡ moved old.excess.items v (head_at old.rows p) z → new.labels.items ≡ old.labels.items
    → new.queue.items ≡ queued_after old.queue.items (slice_index old.excess.items (head_at old.rows p)) (head_at old.rows p)
    → new.relabels ≡ old.relabels → IsStep net v old new
along_of net old new v p z h s shown (k, l, inl (at, from)) le some fits down sent es ee el eq er =
    let a = s.shown.arcs k l in
    let head = ap (head_at old.rows) at ∙ a.head in
    let ea = carried_forth net old.rows new.rows p z k s.shown shown sent l at in
    let room = carried_at net old.rows k s.shown l in
    let ee' = ee ∙ (ap (λ u. moved old.excess.items u (head_at old.rows p) z) (sym from) ∙ ap (λ w. moved old.excess.items (arc_at net k).from w z) head) in
    let eq' = eq ∙ ap (λ w. queued_after old.queue.items (slice_index old.excess.items w) w) head in
    subst (λ u. IsStep net u old new) from
    (forward_step net old new k z h s shown l (omega (arith, le, ap (slice_index old.excess.items) from)) some
    (omega (arith, fits, room, ap (residual_at old.rows) at, a.capacity))
    (omega (arith, down, ap (slice_index old.labels.items) from, ap (slice_index old.labels.items) head)) ea es ee' el eq' er)
along_of net old new v p z h s shown (k, l, inr (at, to)) le some fits down sent es ee el eq er =
    let a = s.shown.arcs k l in
    let head = ap (head_at old.rows) at ∙ a.tail in
    let ea = carried_back net old.rows new.rows p z k s.shown shown sent l at in
    let room = carried_at net old.rows k s.shown l in
    let ee' = ee ∙ (ap (λ u. moved old.excess.items u (head_at old.rows p) z) (sym to) ∙ ap (λ w. moved old.excess.items (arc_at net k).to w z) head) in
    let eq' = eq ∙ ap (λ w. queued_after old.queue.items (slice_index old.excess.items w) w) head in
    subst (λ u. IsStep net u old new) to
    (back_step net old new k z h s shown l (omega (arith, le, ap (slice_index old.excess.items) to)) some
    (omega (arith, fits, room, ap (residual_at old.rows) at))
    (omega (arith, down, ap (slice_index old.labels.items) to, ap (slice_index old.labels.items) head)) ea es ee' el eq' er)

-- a push along a direction of a node
pub along_step : (net : Network) (old new : Work) (v p z : ℕ) → IsNet net → IsWork net old → v < nodes net → IsPlace old.rows v p
    → z ≤ slice_index old.excess.items v → 0 < z → z ≤ residual_at old.rows p
    → slice_index old.labels.items v ≡ slice_index old.labels.items (head_at old.rows p) + 1
    → IsSent old.rows new.rows p z → new.rooms.items ≡ old.rooms.items
    → new.excess.items ≡ moved old.excess.items v (head_at old.rows p) z → new.labels.items ≡ old.labels.items
    → new.queue.items ≡ queued_after old.queue.items (slice_index old.excess.items (head_at old.rows p)) (head_at old.rows p)
    → new.relabels ≡ old.relabels → IsStep net v old new
along_step net old new v p z h s lv place le some fits down sent =
    along_of net old new v p z h s (rows_sent net old.rows new.rows v p z s.shown lv place fits sent) (s.shown.each v p lv place) le some fits down sent

pub give_step : (net : Network) (old new : Work) (u z : ℕ) → IsNet net → IsWork net old → u < nodes net
    → z ≤ slice_index old.excess.items u → 0 < z → z ≤ slice_index old.rooms.items u
    → new.rows ≡ old.rows → new.rooms.items ≡ set old.rooms.items u (slice_index old.rooms.items u - z)
    → new.excess.items ≡ set old.excess.items u (slice_index old.excess.items u - z) → new.labels.items ≡ old.labels.items
    → new.queue.items ≡ old.queue.items → new.relabels ≡ old.relabels
    → IsStep net u old new
give_step net old new u z h s l le some fits ea es ee el eq er = record {
  work = record {
    sound = rw (ea, es, ee, el, given_set net old.rooms.items u z h s.rooms l fits)
        (give_sound net (work_flow net old) old.excess.items old.labels.items u z s.sound l le
        (omega (arith, given_at net old.rooms.items u h s.rooms l, s.rooms.within u l, fits)));
    zeros = rw (ea, es, ee, el, given_set net old.rooms.items u z h s.rooms l fits)
        (give_zeros net (work_flow net old) old.excess.items old.labels.items u _ _ s.zeros l (omega (arith, le, some)));
    shown = rw ea s.shown;
    rooms = rw es (rooms_set net old.rooms.items u (slice_index old.rooms.items u - z) s.rooms l (omega arith));
    queue = rw eq s.queue;
  };
  lower = rw (ee, el) (give_lowers net old.excess.items old.labels.items u z l s.sound.kept_len le some);
  counted = rw (ee, el) (omega (arith, er, give_lowers net old.excess.items old.labels.items u z l s.sound.kept_len le some));
  queue = rw eq (omega arith);
  queued = λ limit before v lv off positive low.
      let kept = ap (λ (xs : List ℕ). slice_index xs v) ee in
      let r = get_or-set_other old.excess.items u v (slice_index old.excess.items u - z) 0 off in
      rw eq (before v lv off (omega (arith, kept, r, positive)) (omega (arith, ap (λ (xs : List ℕ). slice_index xs v) el, low)));
}

-- a label that fits a row fits each residual direction
lowest_residual : (net : Network) (w : Work) (v least : ℕ) → IsWork net w → IsLowest net w v least
    → (b : ℕ) → IsResidual net (work_flow net w) v b → least ≤ slice_index w.labels.items b + 1
lowest_residual net w v least s low b step =
    let (p, place, head, some) = residual_place net w.rows (sink_flows net w.rooms.items) v b s.shown step in
    omega (arith, low.row p place some, ap (slice_index w.labels.items) head)

pub relabel_step : (net : Network) (old new : Work) (u j : ℕ) → IsNet net → IsWork net old → u < nodes net
    → 0 < slice_index old.excess.items u → slice_index old.labels.items u < j → IsLowest net old u j
    → new.rows ≡ old.rows → new.rooms.items ≡ old.rooms.items
    → new.excess.items ≡ old.excess.items → new.labels.items ≡ set old.labels.items u j
    → new.queue.items ≡ old.queue.items → new.relabels ≤ old.relabels + 1
    → IsStep net u old new
relabel_step net old new u j h s l some up low ea es ee el eq er = record {
  work = record { sound = rw (ea, es, ee, el) (relabel_sound net (work_flow net old) old.excess.items old.labels.items u j s.sound l (omega (arith, up)) low.fits (λ room. low.sinks (left_room net old.rooms.items u h s.rooms l room)) (lowest_residual net old u j s low)); zeros = rw (ea, es, ee, el) (relabel_zeros net (work_flow net old) old.excess.items old.labels.items u j h s.zeros l (omega (arith, l, s.sound.labelling.len)) some (omega (arith, up))); shown = rw ea s.shown; rooms = rw es s.rooms; queue = rw eq s.queue };
  lower = rw (ee, el) (relabel_lowers_all net (work_flow net old) old.excess.items old.labels.items u j h s.sound l up low.fits);
  counted = rw (ee, el) (omega (arith, er, relabel_lowers_all net (work_flow net old) old.excess.items old.labels.items u j h s.sound l up low.fits));
  queue = rw eq (omega arith);
  queued = λ limit before v lv off positive below.
      let kept = ap (λ (xs : List ℕ). slice_index xs v) ee in
      let lab = ap (λ (xs : List ℕ). slice_index xs v) el in
      let r = get_or-set_other old.labels.items u v j 0 off in
      rw eq (before v lv off (omega (arith, kept, positive)) (omega (arith, lab, r, below)));
}

-- ---- many steps

pub steps_none : (net : Network) (u : ℕ) (a : Work) → IsWork net a → IsSteps net u a a
steps_none net u a h = record { work = h; fall = omega arith; lower = omega arith; counted = omega arith; queued = λ limit q. q }

pub steps_one : (net : Network) (u : ℕ) (a b : Work) → IsStep net u a b → IsSteps net u a b
steps_one net u a b s = record { work = s.work; fall = omega (arith, s.lower); lower = omega (arith, s.lower, s.queue); counted = s.counted; queued = s.queued }

pub steps_more : (net : Network) (u : ℕ) (a b c : Work) → IsSteps net u a b → IsSteps net u b c → IsSteps net u a c
steps_more net u a b c h s = record {
  work = s.work;
  fall = omega (arith, h.fall, s.fall);
  lower = omega (arith, h.lower, s.lower);
  counted = omega (arith, h.counted, s.counted);
  queued = λ limit q. s.queued limit (h.queued limit q);
}

-- ---- a wave

pub wave_more : (net : Network) (u : ℕ) (a b c : Work) → IsWave net a b → IsSteps net u b c → c.labels.items ≡ b.labels.items → IsWave net a c
wave_more net u a b c h s stay = record { work = s.work; labels = stay ∙ h.labels; fall = omega (arith, h.fall, s.fall); counted = omega (arith, h.counted, s.counted) }
