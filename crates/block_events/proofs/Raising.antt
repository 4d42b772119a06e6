-- Exact labels keep a state sound.
use Rattle.std.proofs.Common.{◌≡◌, ℕ, zero, suc, ◌+◌, ◌<◌, ◌≤◌, Bool, true, false, cond, eqb, List, [], length, get_or, slice_index, Some, None, Option, refl, sym, ◌∙◌, ap, inl, inr, arith}
use Rattle.std.proofs.lemmas.Bool.{cases_lt, cases_Bool}
use Rattle.sums.specs.Sums.{count_if}
use Rattle.flow_network.specs.Cut.{nodes}
use Rattle.flow_network.specs.Progress.{top}
use Rattle.block_events.specs.declared.direction.Direction.{Direction}
use Rattle.block_events.specs.declared.message.Message.{Message}
use Rattle.block_events.specs.Directions.{forward, backward, IsDirection, near, far}
use Rattle.block_events.specs.States.{State, Lane, Flight, lane_at, over_messages, label_of, flight_of, residual_of, known_of, is_border, seen_label}
use Rattle.block_events.specs.Soundness.{IsSound, IsSquare, names, out}
use Rattle.block_events.proofs.Ways.{EachWay}
use Rattle.block_events.proofs.Ends.{near_in, far_in}
use Rattle.std.proofs.lemmas.List.{get_or_past, ext_get_or}
use Rattle.std.proofs.lemmas.List.FromFn.{get_or-map-range_with_len, length-map-range_with_len}
use Rattle.sums.proofs.SumLemmas.{sum_by-sum_below, sum_below-none, sum_below-same}
use Rattle.std.proofs.Common.{sum_by}
use Rattle.block_events.specs.States.{no_lane}
use Rattle.block_events.specs.Reach.{ReachesSinkIn, IsExact, AreExact}
use Rattle.block_events.specs.Effects.{view_of, told_lane}
use Rattle.block_events.specs.Events.{IsQuiet, after_raise_all}

-- ---- a quiet state

pub quiet_ways : (s : State) → IsSquare s.blocks s.ways → IsQuiet s → EachWay (λ b c way. way ≡ []) s.ways
quiet_ways s sq quiet b c = elim (cases_lt b s.blocks) [
  | inr past ↦ ap (λ (r : List (List Message)). get_or r c []) (get_or_past s.ways b [] (omega (arith, sq.rows)))
  | inl lb ↦ elim (cases_lt c s.blocks) [
    | inl lc ↦ quiet b c lb lc
    | inr past ↦ get_or_past (get_or s.ways b []) c [] (omega (arith, sq.columns b lb))
  ]
]

sum_zero : {A : Type 0} (f : A → ℕ) (xs : List A) (d : A) → ((k : ℕ) → k < length xs → f (get_or xs k d) ≡ 0) → sum_by f xs ≡ 0
sum_zero f xs d each = sum_by-sum_below f xs d ∙ sum_below-none (length xs) (λ k. f (get_or xs k d)) each

pub quiet_none : (s : State) (f : Message → ℕ) → IsSquare s.blocks s.ways → IsQuiet s → over_messages f s.ways ≡ 0
quiet_none s f sq quiet =
    sum_zero (λ (r : List (List Message)). sum_by (λ w. sum_by f w) r) s.ways [] (λ b lb.
    sum_zero (λ (w : List Message). sum_by f w) (get_or s.ways b []) [] (λ c lc.
    ap (λ (w : List Message). sum_by f w) (quiet_ways s sq quiet b c)))

out_none : (f : Option Flight) → out f ≡ 0 → f ≡ None
out_none None h = refl
out_none (Some f) h = absurd (omega arith)

pub quiet_idle : (s : State) → IsSound s → IsQuiet s → (x : Direction) → IsDirection s.net x → flight_of s x ≡ None
quiet_idle s sound quiet x lx = out_none (flight_of s x) (sym (sound.messages.named x lx) ∙ quiet_none s (names x) sound.sized.ways quiet)

-- ---- labels are at most the lengths of residual paths

pub seen-le : (s : State) (x : Direction) → IsSound s → IsDirection s.net x → seen_label s x ≤ label_of s (far s.net x)
seen-le s x sound lx = elim (cases_Bool (is_border s.net s.blocks x)) [
  | inl border ↦ rw border (sound.labels.known x lx border)
  | inr inner ↦ rw inner (omega arith)
]

pub label-le-path : (s : State) → IsSound s → (d v : ℕ) → ReachesSinkIn s d v → label_of s v ≤ d
label-le-path s sound zero v path = absurd path
label-le-path s sound (suc zero) v (l, room) = sound.labels.sink v l room
label-le-path s sound (suc (suc d)) v (x, lx, at_v, some, path) =
    let fall = sound.labels.steep x lx some in
    let rest = label-le-path s sound (suc d) (far s.net x) path in
    let at = ap (label_of s) at_v in
    omega (arith, fall, rest, at, seen-le s x sound lx)

-- ---- exact labels

pub exact-le-top : (s : State) (v label : ℕ) → IsExact s v label → label ≤ top s.net
exact-le-top s v label (inl near) = omega (arith, near.0)
exact-le-top s v label (inr far) = omega (arith, far.0)

pub exact-le-path : (s : State) (v label d : ℕ) → IsExact s v label → ReachesSinkIn s d v → label ≤ d
exact-le-path s v label d (inl near) path = near.2 d path
exact-le-path s v label d (inr far) path = absurd (far.1 (d, path))

one_more : (s : State) (x : Direction) (d : ℕ) → IsDirection s.net x → 0 < residual_of s x → ReachesSinkIn s d (far s.net x) → ReachesSinkIn s (suc d) (near s.net x)
one_more s x zero lx some path = absurd path
one_more s x (suc d) lx some path = (x, lx, refl, some, path)

exact_falls : (s : State) (x : Direction) (here there : ℕ) → IsDirection s.net x → 0 < residual_of s x
    → IsExact s (near s.net x) here → IsExact s (far s.net x) there → here ≤ there + 1
exact_falls s x here there lx some at_near (inl found) = omega (arith, exact-le-path s (near s.net x) here (suc there) at_near (one_more s x there lx some found.1))
exact_falls s x here there lx some at_near (inr none) = omega (arith, exact-le-top s (near s.net x) here at_near, none.0)

rises_to : (s : State) (v label : ℕ) → IsSound s → v < nodes s.net → IsExact s v label → label_of s v ≤ label
rises_to s v label sound lv (inl near) = label-le-path s sound label v near.1
rises_to s v label sound lv (inr far) = omega (arith, sound.labels.top v lv, far.0)

pub exact_rises : (s : State) (labels : List ℕ) → IsSound s → AreExact s labels → (v : ℕ) → v < nodes s.net → label_of s v ≤ slice_index labels v
exact_rises s labels sound exact v lv = rises_to s v (slice_index labels v) sound lv (exact.exact v lv)

-- exact labels are unique
same_exact : (s : State) (v j k : ℕ) → IsExact s v j → IsExact s v k → j ≡ k
same_exact s v j k (inl a) (inl b) = omega (arith, a.2 k b.1, b.2 j a.1)
same_exact s v j k (inl a) (inr b) = absurd (b.1 (j, a.1))
same_exact s v j k (inr a) (inl b) = absurd (a.1 (k, b.1))
same_exact s v j k (inr a) (inr b) = a.0 ∙ sym b.0

pub one_exact : (s : State) (labels other : List ℕ) → AreExact s labels → AreExact s other → labels ≡ other
one_exact s labels other a b =
    ext_get_or 0 labels other (a.len ∙ sym b.len) (λ v l. same_exact s v _ _ (a.exact v (omega (arith, l, a.len))) (b.exact v (omega (arith, l, a.len))))

-- ---- the lanes of a raised state

told_at : (s : State) (labels : List ℕ) (k : ℕ) (b : Bool) → k < length s.net.arcs
    → lane_at (after_raise_all s labels).lanes (record { arc = k; back = b }) ≡ told_lane (record (view_of s) { labels = labels }) (record { arc = k; back = b })
told_at s labels k true l = get_or-map-range_with_len (λ (i : ℕ). told_lane (record (view_of s) { labels = labels }) (backward i)) 0 (length s.net.arcs) k k no_lane l (omega arith)
told_at s labels k false l = get_or-map-range_with_len (λ (i : ℕ). told_lane (record (view_of s) { labels = labels }) (forward i)) 0 (length s.net.arcs) k k no_lane l (omega arith)

pub told_is : (s : State) (labels : List ℕ) (x : Direction) → IsDirection s.net x → lane_at (after_raise_all s labels).lanes x ≡ told_lane (record (view_of s) { labels = labels }) x
told_is s labels x l = told_at s labels x.arc x.back l

pub raised_kept : (s : State) (labels : List ℕ) → IsSound s → IsQuiet s → AreExact s labels → IsSound (after_raise_all s labels)
raised_kept s labels sound quiet exact =
    let arcs = length s.net.arcs in
    let lanes = (after_raise_all s labels).lanes in
    let is = λ (x : Direction) (l : IsDirection s.net x). told_is s labels x l in
    let residual = λ (x : Direction) (l : IsDirection s.net x). ap (λ (q : Lane). q.residual) (is x l) in
    let flight = λ (x : Direction) (l : IsDirection s.net x). ap (λ (q : Lane). q.flight) (is x l) in
    let told = λ (x : Direction) (l : IsDirection s.net x) (h : is_border s.net s.blocks x ≡ true).
    ap (λ (q : Lane). q.known) (is x l) ∙ ap (λ (t : Bool). cond t (slice_index labels (far s.net x)) (known_of s x)) h in
    let empty = quiet_ways s sound.sized.ways quiet in
    let net = sound.sized.net in
    record {
      sized = record {
        net = net;
        excess = sound.sized.excess;
        labels = exact.len;
        rooms = sound.sized.rooms;
        forth = length-map-range_with_len (λ (i : ℕ). told_lane (record (view_of s) { labels = labels }) (forward i)) 0 arcs;
        back = length-map-range_with_len (λ (i : ℕ). told_lane (record (view_of s) { labels = labels }) (backward i)) 0 arcs;
        blocks = sound.sized.blocks;
        ways = sound.sized.ways;
      };
      flow = record {
        arcs = λ k lk. omega (arith, sound.flow.arcs k lk, residual (forward k) lk, residual (backward k) lk);
        total = sound.flow.total;
        got = sound.flow.got;
        rooms = sound.flow.rooms;
        balance = λ u lu.
            let all = sum_below-same arcs
            (λ k. count_if (eqb (near s.net (forward k)) u) (lane_at lanes (forward k)).residual + count_if (eqb (near s.net (backward k)) u) (lane_at lanes (backward k)).residual)
            (λ k. count_if (eqb (near s.net (forward k)) u) (residual_of s (forward k)) + count_if (eqb (near s.net (backward k)) u) (residual_of s (backward k)))
            (λ k lk. omega (arith, ap (count_if (eqb (near s.net (forward k)) u)) (residual (forward k) lk), ap (count_if (eqb (near s.net (backward k)) u)) (residual (backward k) lk))) in
            omega (arith, sound.flow.balance u lu, all);
      };
      labels = record {
        top = λ v lv. exact-le-top s v (slice_index labels v) (exact.exact v lv);
        sink = λ v lv some. exact-le-path s v (slice_index labels v) 1 (exact.exact v lv) (lv, some);
        steep = λ x lx some.
            let falls = exact_falls s x (slice_index labels (near s.net x)) (slice_index labels (far s.net x)) lx (omega (arith, some, residual x lx))
            (exact.exact (near s.net x) (near_in s.net x net lx)) (exact.exact (far s.net x) (far_in s.net x net lx)) in
            elim (cases_Bool (is_border s.net s.blocks x)) [
              | inl border ↦ rw border (omega (arith, falls, told x lx border))
              | inr inner ↦ rw inner (omega (arith, falls))
            ];
        known = λ x lx border. omega (arith, told x lx border);
      };
      flights = λ x lx f h. let none = quiet_idle s sound quiet x lx in let is' = flight x lx in absurd (cc);
      messages = record {
        named = λ x lx. sound.messages.named x lx ∙ sym (ap out (flight x lx));
        belong = λ b c k d l. let none = ap length (empty b c) in absurd (omega (arith, none, l));
        order = λ b c i j d lij lj. let none = ap length (empty b c) in absurd (omega (arith, none, lj));
      };
    }
