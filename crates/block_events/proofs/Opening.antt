-- The opening, the count over all events, and over every list of events.
use Rattle.std.proofs.Common.{◌≡◌, ℕ, zero, suc, ◌+◌, ◌-◌, ◌<◌, ◌≤◌, Bool, true, false, cond, eqb, List, [], ◌∷◌, length, get_or, slice_index, None, refl, sym, ◌∙◌, ap, arith}
use Rattle.sums.specs.Sums.{count_if}
use Rattle.flow_network.specs.Cut.{Network, nodes}
use Rattle.flow_network.specs.Preflow.{arc_at}
use Rattle.flow_network.specs.Progress.{top}
use Rattle.block_events.specs.declared.direction.Direction.{Direction}
use Rattle.block_events.specs.declared.message.Message.{Message}
use Rattle.block_events.specs.Directions.{forward, backward, IsDirection, near, far, over_directions}
use Rattle.block_events.specs.States.{State, Lane, lane_at, excess_of, label_of, residual_of, known_of, is_border}
use Rattle.block_events.specs.Soundness.{IsSound, IsSquare, names, carries, carries_on, out, first_residual}
use Rattle.block_events.proofs.Ends.{near_in, far_in}
use Rattle.std.proofs.Common.{◌*◌, map, replicate}
use Rattle.std.proofs.lemmas.Nat.{mul-le}
use Rattle.std.proofs.lemmas.List.{length-map, length-replicate, get_or-replicate}
use Rattle.sums.specs.Sums.{sum_below}
use Rattle.sums.proofs.SumLemmas.{sum_below-same, sum_below-le}
use Rattle.flow_network.specs.Cut.{IsNet}
use Rattle.block_events.specs.States.{no_lane}
use Rattle.block_events.specs.Reach.{AreExact}
use Rattle.block_events.specs.Events.{IsQuiet, after_raise_all}
use Rattle.block_events.specs.Soundness.{opening_state, borders, labels_to_rise, weight, height, unit, potential}
use Rattle.block_events.proofs.Raising.{quiet_none, quiet_ways, exact_rises, exact-le-top, told_is}
use Rattle.block_events.proofs.Count.{excess-lt-unit}

-- ---- exact labels do not raise the count

both_times : (x y k : ℕ) → (x + y) * k ≡ x * k + y * k
both_times x y k = grind arith

one_pays : (t k e a b : ℕ) → a ≤ b → b ≤ t → 4 * e < k → (t - b) * k + 4 * (e * b) ≤ (t - a) * k + 4 * (e * a)
one_pays t k e a b up fits small =
    let j = b - a in
    let e1 : (t - b + j) * k ≡ (t - b) * k + j * k = grind arith in
    let e2 = ap (λ q. q * k) (let whole : t - b + j ≡ t - a = omega arith in whole) in
    let e3 : e * (a + j) ≡ e * a + e * j = grind arith in
    let e4 = ap (λ q. e * q) (let whole : a + j ≡ b = omega arith in whole) in
    let e5 = mul-le (4 * e) j k j (omega arith) (omega arith) in
    let e6 : 4 * e * j ≡ 4 * (e * j) = grind arith in
    let e7 : k * j ≡ j * k = grind arith in
    omega (arith, e1, e2, e3, e4, e5, e6, e7)

all_pay : (n t k : ℕ) (e a b : ℕ → ℕ) → ((v : ℕ) → v < n → (a v ≤ b v) × (b v ≤ t) × (4 * e v < k))
    → sum_below n (λ v. t - b v) * k + sum_below n (λ v. 4 * (e v * b v)) ≤ sum_below n (λ v. t - a v) * k + sum_below n (λ v. 4 * (e v * a v))
all_pay zero t k e a b h = omega arith
all_pay (suc n) t k e a b h =
    let here = h n (omega arith) in
    omega (
      arith,
      all_pay n t k e a b (λ v l. h v (omega arith)),
      one_pays t k (e n) (a n) (b n) here.0 here.1 here.2,
      both_times (sum_below n (λ v. t - b v)) (t - b n) k,
      both_times (sum_below n (λ v. t - a v)) (t - a n) k,
    )

counted_le : (b : Bool) (y z : ℕ) → (b ≡ true → y ≤ z) → count_if b y ≤ count_if b z
counted_le true y z h = h refl
counted_le false y z h = omega arith

pub raised_lowers : (s : State) (labels : List ℕ) → IsSound s → AreExact s labels → potential (after_raise_all s labels) ≤ potential s
raised_lowers s labels sound exact =
    let n = nodes s.net in
    let t = top s.net in
    let m = length s.net.arcs in
    let u = unit s in
    let lanes = (after_raise_all s labels).lanes in
    let pay = all_pay n t u (excess_of s) (label_of s) (slice_index labels)
    (λ v l. (exact_rises s labels sound exact v l, exact-le-top s v (slice_index labels v) (exact.exact v l), excess-lt-unit s v sound l)) in
    let known = λ (x : Direction) (l : IsDirection s.net x). counted_le (is_border s.net s.blocks x) (t - (lane_at lanes x).known) (t - known_of s x) (λ h.
    let told = ap (λ (q : Lane). q.known) (told_is s labels x l) ∙ ap (λ (b : Bool). cond b (slice_index labels (far s.net x)) (known_of s x)) h in
    omega (arith, told, sound.labels.known x l h, exact_rises s labels sound exact (far s.net x) (far_in s.net x sound.sized.net l))) in
    let dirs = sum_below-le m
    (λ k. count_if (is_border s.net s.blocks (forward k)) (t - (lane_at lanes (forward k)).known) + count_if (is_border s.net s.blocks (backward k)) (t - (lane_at lanes (backward k)).known))
    (λ k. count_if (is_border s.net s.blocks (forward k)) (t - known_of s (forward k)) + count_if (is_border s.net s.blocks (backward k)) (t - known_of s (backward k)))
    (λ k l. omega (arith, known (forward k) l, known (backward k) l)) in
    let d = over_directions m (λ x. count_if (is_border s.net s.blocks x) (t - known_of s x)) in
    let d' = over_directions m (λ x. count_if (is_border s.net s.blocks x) (t - (lane_at lanes x).known)) in
    let less = mul-le d' u d u dirs (omega arith) in
    let a = sum_below n (λ v. t - label_of s v) in
    let a' = sum_below n (λ v. t - slice_index labels v) in
    omega (arith, pay, less, both_times a d u, both_times a' d' u)

-- ---- the opening

pub map_at : {A B : Type 0} (f : A → B) (xs : List A) (k : ℕ) (d : B) (e : A) → k < length xs → get_or (map f xs) k d ≡ f (get_or xs k e)
map_at f [] k d e l = absurd (omega arith)
map_at f (x ∷ xs) zero d e l = refl
map_at f (x ∷ xs) (suc k) d e l = map_at f xs k d e (omega arith)

abbrev first_lane : ℕ → Lane
first_lane c = record { residual = c; known = 0; flight = None }

opened_at : (net : Network) (blocks k : ℕ) (b : Bool) → k < length net.arcs
    → lane_at (opening_state net blocks).lanes (record { arc = k; back = b }) ≡ first_lane (first_residual net (record { arc = k; back = b }))
opened_at net blocks k true l = map_at (λ arc. first_lane 0) net.arcs k no_lane (arc_at net k) l
opened_at net blocks k false l = map_at (λ arc. first_lane arc.capacity) net.arcs k no_lane _ l

pub opened_is : (net : Network) (blocks : ℕ) (x : Direction) → IsDirection net x → lane_at (opening_state net blocks).lanes x ≡ first_lane (first_residual net x)
opened_is net blocks x l = opened_at net blocks x.arc x.back l

pub opened_square : (net : Network) (blocks : ℕ) → IsSquare blocks (opening_state net blocks).ways
opened_square net blocks = record {
  rows = length-replicate blocks (replicate blocks []);
  columns = λ b l. ap length (get_or-replicate blocks b (replicate blocks []) [] l) ∙ length-replicate blocks [];
}

pub opened_quiet : (net : Network) (blocks : ℕ) → IsQuiet (opening_state net blocks)
opened_quiet net blocks b c lb lc =
    ap (λ (r : List (List Message)). get_or r c []) (get_or-replicate blocks b (replicate blocks []) [] lb) ∙ get_or-replicate blocks c [] [] lc

pub opened_sound : (net : Network) (blocks : ℕ) → IsNet net → 1 ≤ blocks → IsSound (opening_state net blocks)
opened_sound net blocks h some =
    let s = opening_state net blocks in
    let m = length net.arcs in
    let sq = opened_square net blocks in
    let quiet = opened_quiet net blocks in
    let empty = quiet_ways s sq quiet in
    let none = λ (f : Message → ℕ). quiet_none s f sq quiet in
    let residual = λ (x : Direction) (l : IsDirection net x). ap (λ (q : Lane). q.residual) (opened_is net blocks x l) in
    let known = λ (x : Direction) (l : IsDirection net x). ap (λ (q : Lane). q.known) (opened_is net blocks x l) in
    let flight = λ (x : Direction) (l : IsDirection net x). ap (λ (q : Lane). q.flight) (opened_is net blocks x l) in
    let label = λ (v : ℕ) (l : v < nodes net). get_or-replicate {A = ℕ} (nodes net) v 0 0 l in
    record {
      sized = record {
        net = h;
        excess = refl;
        labels = length-replicate (nodes net) 0;
        rooms = h.same;
        forth = length-map net.arcs _;
        back = length-map net.arcs _;
        blocks = some;
        ways = sq;
      };
      flow = record {
        arcs = λ k lk. omega (arith, none (carries_on k), residual (forward k) lk, residual (backward k) lk);
        total = omega (arith, none carries);
        got = omega arith;
        rooms = λ v lv. omega arith;
        balance = λ u lu.
            let all = sum_below-same m
            (λ k. count_if (eqb (near net (forward k)) u) (residual_of s (forward k)) + count_if (eqb (near net (backward k)) u) (residual_of s (backward k)))
            (λ k. count_if (eqb (near net (forward k)) u) (first_residual net (forward k)) + count_if (eqb (near net (backward k)) u) (first_residual net (backward k)))
            (λ k lk. omega (arith, ap (count_if (eqb (near net (forward k)) u)) (residual (forward k) lk), ap (count_if (eqb (near net (backward k)) u)) (residual (backward k) lk))) in
            omega (arith, all);
      };
      labels = record {
        top = λ v lv. omega (arith, label v lv);
        sink = λ v lv room. omega (arith, label v lv);
        steep = λ x lx room. omega (arith, label (near net x) (near_in net x h lx));
        known = λ x lx border. omega (arith, known x lx);
      };
      flights = λ x lx f is. let none' = flight x lx in absurd (cc);
      messages = record {
        named = λ x lx. none (names x) ∙ sym (ap out (flight x lx));
        belong = λ b c k d l. let none' = ap length (empty b c) in absurd (omega (arith, none', l));
        order = λ b c i j d lij lj. let none' = ap length (empty b c) in absurd (omega (arith, none', lj));
      };
    }

-- ---- the count at the opening

none_times : (c : ℕ) → 0 ≡ 0 * c
none_times c = grind arith

sum_const : (n c : ℕ) → sum_below n (λ i. c) ≡ n * c
sum_const zero c = none_times c
sum_const (suc n) c = let step : suc n * c ≡ n * c + c = grind arith in omega (arith, step, sum_const n c)

sum_times : (n c : ℕ) (f g : ℕ → ℕ) → ((i : ℕ) → i < n → f i ≡ g i * c) → sum_below n f ≡ sum_below n g * c
sum_times zero c f g h = none_times c
sum_times (suc n) c f g h = omega (arith, sum_times n c f g (λ i l. h i (omega arith)), h n (omega arith), both_times (sum_below n g) (g n) c)

counted_times : (b : Bool) (c : ℕ) → count_if b c ≡ count_if b 1 * c
counted_times true c = grind arith
counted_times false c = none_times c

-- at the opening the count is N * (n + B) * (4 * N * U + B + 1)
pub opened_count : (net : Network) (blocks : ℕ) → IsNet net → 1 ≤ blocks
    → potential (opening_state net blocks) ≡ top net * (nodes net + borders (opening_state net blocks)) * unit (opening_state net blocks)
opened_count net blocks h some =
    let s = opening_state net blocks in
    let n = nodes net in
    let t = top net in
    let label = λ (v : ℕ) (l : v < nodes net). get_or-replicate {A = ℕ} (nodes net) v 0 0 l in
    let known = λ (x : Direction) (l : IsDirection net x). ap (λ (q : Lane). q.known) (opened_is net blocks x l) in
    let labels = sum_below-same n (λ v. t - label_of s v) (λ v. t) (λ v l. omega (arith, label v l)) ∙ sum_const n t in
    let at = λ (x : Direction) (l : IsDirection net x).
    (let whole : t - known_of s x ≡ t = omega (arith, known x l) in ap (count_if (is_border net blocks x)) whole ∙ counted_times (is_border net blocks x) t) in
    let dirs = sum_times (length net.arcs) t
    (λ k. count_if (is_border net blocks (forward k)) (t - known_of s (forward k)) + count_if (is_border net blocks (backward k)) (t - known_of s (backward k)))
    (λ k. count_if (is_border net blocks (forward k)) 1 + count_if (is_border net blocks (backward k)) 1)
    (λ k l. omega (arith, at (forward k) l, at (backward k) l, both_times (count_if (is_border net blocks (forward k)) 1) (count_if (is_border net blocks (backward k)) 1) t)) in
    let flat = sum_below-same n (λ v. 4 * (excess_of s v * label_of s v)) (λ v. 0) (λ v l. (let zero_times : excess_of s v * 0 ≡ 0 = grind arith in omega (arith, zero_times, ap (λ q. excess_of s v * q) (label v l)))) ∙ sum_const n 0 in
    let none = quiet_none s weight (opened_square net blocks) (opened_quiet net blocks) in
    let n0 : n * 0 ≡ 0 = grind arith in
    let b = borders s in
    let rise_is : labels_to_rise s ≡ t * (n + b) = (let step : t * (n + b) ≡ n * t + b * t = grind arith in omega (arith, labels, dirs, step)) in
    let low : height s ≡ 0 = omega (arith, flat, none, n0) in
    omega (arith, ap (λ q. q * unit s) rise_is, low)
