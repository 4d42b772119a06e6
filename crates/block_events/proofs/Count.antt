-- Each event but `RaiseAll` lowers the count.
use Rattle.std.proofs.Common.{◌≡◌, ℕ, ◌+◌, ◌-◌, ◌<◌, ◌≤◌, Bool, true, false, cond, max, List, ◌∷◌, length, set, slice_index, sum, Some, None, refl, sym, ◌∙◌, ap, arith}
use Rattle.std.specs.Option.{is_some}
use Rattle.std.proofs.lemmas.List.{length-set}
use Rattle.sums.specs.Sums.{count_if}
use Rattle.flow_network.specs.Cut.{nodes}
use Rattle.flow_network.specs.Progress.{top}
use Rattle.block_events.specs.declared.direction.Direction.{Direction}
use Rattle.block_events.specs.declared.message.Message.{Message}
use Rattle.block_events.specs.declared.message.Message.TheVariants.{Parcel, Accepted, Refused}
use Rattle.block_events.specs.Directions.{opposite, IsDirection, near, far, over_directions}
use Rattle.block_events.specs.States.{State, Lane, Lanes, lane_at, put_lane, way_at, excess_of, label_of, residual_of, known_of, near_block, far_block, is_border, IsWay}
use Rattle.block_events.specs.Soundness.{IsSound, carries}
use Rattle.block_events.proofs.Lanes.{IsLong, long_put}
use Rattle.block_events.proofs.Ways.{messages_more, messages_less}
use Rattle.block_events.proofs.Local.{long}
use Rattle.block_events.proofs.Ends.{near_in, far_in, near_block_in, far_block_in}
use Rattle.block_events.proofs.Replies.{front_out}
use Rattle.std.proofs.Common.{◌*◌}
use Rattle.std.proofs.lemmas.Nat.{mul-le}
use Rattle.std.proofs.lemmas.List.Sums.{get_or-le-sum_by}
use Rattle.std.proofs.Common.{get_or-set_same, get_or-set_other}
use Rattle.sums.specs.Sums.{sum_below}
use Rattle.sums.proofs.SumLemmas.{sum_below-change}
use Rattle.block_events.specs.Effects.{lane_after_accept}
use Rattle.block_events.specs.Events.{after_push, after_sink_push, after_relabel, after_send, after_accept, after_refuse, after_settle}
use Rattle.block_events.specs.Soundness.{labels_to_rise, weight, height, unit, potential}
use Rattle.block_events.proofs.Lanes.{directions_changed}
use Rattle.block_events.proofs.Replies.{messages_answered}
use Rattle.block_events.proofs.Allowed.{IsAllowed}

-- ---- parts of the count

less_times : (e z c : ℕ) → z ≤ e → (e - z) * c + z * c ≡ e * c
less_times e z c h = grind arith

more_times : (e z c : ℕ) → (e + z) * c ≡ e * c + z * c
more_times e z c = grind arith

abbrev nodes_height : ℕ → List ℕ → List ℕ → ℕ
nodes_height n es ds = sum_below n (λ v. 4 * (slice_index es v * slice_index ds v))

height_set : (n : ℕ) (es ds : List ℕ) (v y : ℕ) → v < n → length es ≡ n
    → nodes_height n (set es v y) ds + 4 * (slice_index es v * slice_index ds v) ≡ nodes_height n es ds + 4 * (y * slice_index ds v)
height_set n es ds v y l len =
    let here : slice_index (set es v y) v ≡ y = get_or-set_same es v y 0 (omega arith) in
    let change = sum_below-change n v (λ u. 4 * (slice_index es u * slice_index ds u)) (λ u. 4 * (slice_index (set es v y) u * slice_index ds u)) l
    (λ i h ne. ap (λ q. 4 * (q * slice_index ds i)) (sym (get_or-set_other es v i y 0 ne))) in
    omega (arith, change, ap (λ q. 4 * (q * slice_index ds v)) here)

pub height_less : (n : ℕ) (es ds : List ℕ) (v a : ℕ) → v < n → length es ≡ n → a ≤ slice_index es v
    → nodes_height n (set es v (slice_index es v - a)) ds + 4 * (a * slice_index ds v) ≡ nodes_height n es ds
height_less n es ds v a l len fits =
    omega (arith, height_set n es ds v (slice_index es v - a) l len, less_times (slice_index es v) a (slice_index ds v) fits)

pub height_more : (n : ℕ) (es ds : List ℕ) (v a : ℕ) → v < n → length es ≡ n
    → nodes_height n (set es v (slice_index es v + a)) ds ≡ nodes_height n es ds + 4 * (a * slice_index ds v)
height_more n es ds v a l len =
    omega (arith, height_set n es ds v (slice_index es v + a) l len, more_times (slice_index es v) a (slice_index ds v))

height_label : (n : ℕ) (es ds : List ℕ) (v d : ℕ) → v < n → length ds ≡ n
    → nodes_height n es (set ds v d) + 4 * (slice_index es v * slice_index ds v) ≡ nodes_height n es ds + 4 * (slice_index es v * d)
height_label n es ds v d l len =
    let here : slice_index (set ds v d) v ≡ d = get_or-set_same ds v d 0 (omega arith) in
    let change = sum_below-change n v (λ u. 4 * (slice_index es u * slice_index ds u)) (λ u. 4 * (slice_index es u * slice_index (set ds v d) u)) l
    (λ i h ne. ap (λ q. 4 * (slice_index es i * q)) (sym (get_or-set_other ds v i d 0 ne))) in
    omega (arith, change, ap (λ q. 4 * (slice_index es v * q)) here)

-- what known labels can still rise
abbrev known_rise : State → Lanes → ℕ
known_rise s lanes = over_directions (length s.net.arcs) (λ x. count_if (is_border s.net s.blocks x) (top s.net - (lane_at lanes x).known))

counted_le : (b : Bool) (y z : ℕ) → y ≤ z → count_if b y ≤ count_if b z
counted_le true y z h = h
counted_le false y z h = omega arith

known_put : (s : State) (lanes : Lanes) (x : Direction) (lane : Lane) → IsLong (length s.net.arcs) lanes → IsDirection s.net x
    → (lane_at lanes x).known ≤ lane.known → known_rise s (put_lane lanes x lane) ≤ known_rise s lanes
known_put s lanes x lane long l up =
    let t = is_border s.net s.blocks x in
    let change = directions_changed (length s.net.arcs) lanes x lane (λ y q. count_if (is_border s.net s.blocks y) (top s.net - q.known)) long l in
    let low = counted_le t (top s.net - lane.known) (top s.net - (lane_at lanes x).known) (omega arith) in
    omega (arith, change, low)

-- ---- the count

-- the height falls
by_height : (r r' h h' k : ℕ) → r' ≤ r → h' < h → r' * k + h' < r * k + h
by_height r r' h h' k less low = omega (arith, mul-le r' k r k less (omega arith))

-- labels rise, and the height grows by less than that counts
by_rise : (r r' h h' k j : ℕ) → r' + j ≤ r → h' < h + j * k → r' * k + h' < r * k + h
by_rise r r' h h' k j less low =
    let all = mul-le (r' + j) k r k less (omega arith) in
    let parts : (r' + j) * k ≡ r' * k + j * k = grind arith in
    omega (arith, all, parts)

one_step : (a d w : ℕ) → d ≡ w + 1 → a * d ≡ a * w + a
one_step a d w e = rw e (grind arith)

some_times : (a d : ℕ) → 1 ≤ a → 1 ≤ d → 1 ≤ a * d
some_times a d h k = mul-le 1 1 a d h k

pub excess-le : (s : State) (v : ℕ) → IsSound s → v < nodes s.net → excess_of s v ≤ sum s.net.sources
excess-le s v sound l =
    let part = get_or-le-sum_by (λ (n : ℕ). n) s.excess v 0 (omega (arith, l, sound.sized.excess)) in
    omega (arith, part, sound.flow.total)

-- ---- inner events

pub pushed_lowers : (s : State) (x : Direction) (a : ℕ) → IsSound s → IsDirection s.net x → 1 ≤ a
    → a ≤ excess_of s (near s.net x) → label_of s (near s.net x) ≡ label_of s (far s.net x) + 1 → potential (after_push s x a) < potential s
pushed_lowers s x a sound lx some enough level =
    let v = near s.net x in
    let w = far s.net x in
    let n = nodes s.net in
    let lv = near_in s.net x sound.sized.net lx in
    let lw = far_in s.net x sound.sized.net lx in
    let less = set s.excess v (excess_of s v - a) in
    let len : length less ≡ n = length-set s.excess v (excess_of s v - a) ∙ sound.sized.excess in
    let lane : Lane = record (lane_at s.lanes x) { residual = residual_of s x - a } in
    let taken = put_lane s.lanes x lane in
    let back : Lane = record (lane_at taken (opposite x)) { residual = (lane_at taken (opposite x)).residual + a } in
    let lng = long s sound.sized in
    let k1 = known_put s s.lanes x lane lng lx (omega arith) in
    let k2 = known_put s taken (opposite x) back (long_put (length s.net.arcs) s.lanes x lane lng) lx (omega arith) in
    let h1 = height_less n s.excess s.labels v a lv sound.sized.excess enough in
    let h2 = height_more n less s.labels w a lw len in
    let step = one_step a (label_of s v) (label_of s w) level in
    by_height (labels_to_rise s) (labels_to_rise (after_push s x a)) (height s) (height (after_push s x a)) (unit s) (omega (arith, k1, k2)) (omega (arith, h1, h2, step, some))

pub given_lowers : (s : State) (v a : ℕ) → IsSound s → v < nodes s.net → 1 ≤ a → a ≤ excess_of s v → label_of s v ≡ 1 → potential (after_sink_push s v a) < potential s
given_lowers s v a sound lv some enough level =
    let h = height_less (nodes s.net) s.excess s.labels v a lv sound.sized.excess enough in
    let one : a * label_of s v ≡ a = rw level (grind arith) in
    by_height (labels_to_rise s) (labels_to_rise (after_sink_push s v a)) (height s) (height (after_sink_push s v a)) (unit s) (omega arith) (omega (arith, h, one, some))

-- four times an excess is less than what a label's rise by 1 counts
pub excess-lt-unit : (s : State) (v : ℕ) → IsSound s → v < nodes s.net → 4 * excess_of s v < unit s
excess-lt-unit s v sound l =
    let e = excess-le s v sound l in
    let all = mul-le 1 (excess_of s v) (top s.net) (sum s.net.sources) (omega arith) e in
    omega (arith, all)

pub relabelled_lowers : (s : State) (v d : ℕ) → IsSound s → IsAllowed s v d → potential (after_relabel s v d) < potential s
relabelled_lowers s v d sound may =
    let n = nodes s.net in
    let e = excess_of s v in
    let old = label_of s v in
    let j = d - old in
    let here : slice_index (set s.labels v d) v ≡ d = get_or-set_same s.labels v d 0 (omega (arith, may.node, sound.sized.labels)) in
    let rises = sum_below-change n v (λ u. top s.net - label_of s u) (λ u. top s.net - slice_index (set s.labels v d) u) may.node
    (λ i h ne. ap (λ q. top s.net - q) (sym (get_or-set_other s.labels v i d 0 ne))) in
    let high = height_label n s.excess s.labels v d may.node sound.sized.labels in
    let small = excess-lt-unit s v sound may.node in
    let e1 : e * d ≡ e * old + e * j = (let whole : d ≡ old + j = omega (arith, may.rises) in rw whole (grind arith)) in
    let e2 = mul-le (4 * e + 1) j (unit s) j (omega (arith, small)) (omega arith) in
    let e3 : (4 * e + 1) * j ≡ 4 * (e * j) + j = grind arith in
    let e4 : unit s * j ≡ j * unit s = grind arith in
    by_rise (labels_to_rise s) (labels_to_rise (after_relabel s v d)) (height s) (height (after_relabel s v d)) (unit s) j
    (omega (arith, rises, here, may.rises, may.top))
    (omega (arith, high, e1, e2, e3, e4, may.rises))

-- ---- events at borders

learned_up : (t : Bool) (k d : ℕ) → k ≤ cond t k (max k d)
learned_up true k d = omega arith
learned_up false k d = omega arith

pub sent_lowers : (s : State) (x : Direction) (a : ℕ) → IsSound s → IsDirection s.net x
    → 1 ≤ a → a ≤ excess_of s (near s.net x) → label_of s (near s.net x) ≡ known_of s x + 1 → potential (after_send s x a) < potential s
sent_lowers s x a sound lx some enough level =
    let v = near s.net x in
    let d = label_of s v in
    let m : Message = Parcel x a d in
    let lane : Lane = record (lane_at s.lanes x) { residual = residual_of s x - a; flight = Some (record { amount = a; label = d }) } in
    let more = messages_more s.blocks weight s.ways (near_block s.net s.blocks x) (far_block s.net s.blocks x) m sound.sized.ways (near_block_in s x sound.sized lx) (far_block_in s x sound.sized lx) in
    let known = known_put s s.lanes x lane (long s sound.sized) lx (omega arith) in
    let h = height_less (nodes s.net) s.excess s.labels v a (near_in s.net x sound.sized.net lx) sound.sized.excess enough in
    let pos = some_times a d some (omega (arith, level)) in
    by_height (labels_to_rise s) (labels_to_rise (after_send s x a)) (height s) (height (after_send s x a)) (unit s) (omega (arith, known)) (omega (arith, more, h, pos))

pub accepted_lowers : (s : State) (b c : ℕ) (x : Direction) (a d : ℕ) (rest : List Message) → IsSound s → IsWay s b c
    → way_at s.ways b c ≡ Parcel x a d ∷ rest → label_of s (far s.net x) + 1 ≡ d → potential (after_accept s b c (Parcel x a d ∷ rest)) < potential s
accepted_lowers s b c x a d rest sound way e level =
    let o = front_out s b c (Parcel x a d) rest sound e in
    let w = far s.net x in
    let old = lane_at s.lanes (opposite x) in
    let messages = messages_answered s.blocks weight s.ways b c (Parcel x a d) rest (Accepted x a) sound.sized.ways way.0 way.1 e in
    let known = known_put s s.lanes (opposite x) (lane_after_accept old a d) (long s sound.sized) o.direction (learned_up (is_some old.flight) old.known d) in
    let h = height_more (nodes s.net) s.excess s.labels w a (far_in s.net x sound.sized.net o.direction) sound.sized.excess in
    let step = one_step a d (label_of s w) (sym level) in
    let some = o.some in
    let t = after_accept s b c (Parcel x a d ∷ rest) in
    by_height (labels_to_rise s) (labels_to_rise t) (height s) (height t) (unit s) (omega (arith, known)) (omega (arith, messages, h, step, some))

pub refused_lowers : (s : State) (b c : ℕ) (x : Direction) (a d : ℕ) (rest : List Message) → IsSound s → IsWay s b c
    → way_at s.ways b c ≡ Parcel x a d ∷ rest → potential (after_refuse s b c (Parcel x a d ∷ rest)) < potential s
refused_lowers s b c x a d rest sound way e =
    let o = front_out s b c (Parcel x a d) rest sound e in
    let at_x = sound.flights x o.direction (record { amount = a; label = d }) o.flight in
    let pos = some_times a d o.some (omega (arith, at_x.1, at_x.2)) in
    let messages = messages_answered s.blocks weight s.ways b c (Parcel x a d) rest (Refused x a d (label_of s (far s.net x))) sound.sized.ways way.0 way.1 e in
    let t = after_refuse s b c (Parcel x a d ∷ rest) in
    by_height (labels_to_rise s) (labels_to_rise t) (height s) (height t) (unit s) (omega arith) (omega (arith, messages, pos))

pub taken_lowers : (s : State) (b c : ℕ) (x : Direction) (a : ℕ) (rest : List Message) → IsSound s → IsWay s b c
    → way_at s.ways b c ≡ Accepted x a ∷ rest → potential (after_settle s b c (Accepted x a ∷ rest)) < potential s
taken_lowers s b c x a rest sound way e =
    let front = front_out s b c (Accepted x a) rest sound e in
    let less = messages_less s.blocks weight s.ways b c (Accepted x a) rest sound.sized.ways way.0 way.1 e in
    let lane : Lane = record (lane_at s.lanes x) { flight = None } in
    let known = known_put s s.lanes x lane (long s sound.sized) front.1.direction (omega arith) in
    let t = after_settle s b c (Accepted x a ∷ rest) in
    by_height (labels_to_rise s) (labels_to_rise t) (height s) (height t) (unit s) (omega (arith, known)) (omega (arith, less))

pub returned_lowers : (s : State) (b c : ℕ) (x : Direction) (a d told : ℕ) (rest : List Message) → IsSound s → IsWay s b c
    → way_at s.ways b c ≡ Refused x a d told ∷ rest → potential (after_settle s b c (Refused x a d told ∷ rest)) < potential s
returned_lowers s b c x a d told rest sound way e =
    let m : Message = Refused x a d told in
    let front = front_out s b c m rest sound e in
    let o = front.0 in
    let v = near s.net x in
    let at_x = sound.flights x o.direction (record { amount = a; label = d }) o.flight in
    let less = messages_less s.blocks weight s.ways b c m rest sound.sized.ways way.0 way.1 e in
    let carried = messages_less s.blocks carries s.ways b c m rest sound.sized.ways way.0 way.1 e in
    let lane : Lane = record { residual = residual_of s x + a; known = told; flight = None } in
    let change = directions_changed (length s.net.arcs) s.lanes x lane (λ y q. count_if (is_border s.net s.blocks y) (top s.net - q.known)) (long s sound.sized) o.direction in
    let c1 : count_if (is_border s.net s.blocks x) (top s.net - told) ≡ top s.net - told = rw o.border refl in
    let c2 : count_if (is_border s.net s.blocks x) (top s.net - known_of s x) ≡ top s.net - known_of s x = rw o.border refl in
    let low = sound.labels.top (far s.net x) (far_in s.net x sound.sized.net o.direction) in
    let h = height_more (nodes s.net) s.excess s.labels v a (near_in s.net x sound.sized.net o.direction) sound.sized.excess in
    let same = ap (λ q. a * q) at_x.2 in
    let pos = some_times a d o.some (omega (arith, at_x.1, at_x.2)) in
    let some : 1 ≤ sum s.net.sources = omega (arith, carried, sound.flow.total, o.some) in
    let many = mul-le 1 1 (top s.net) (sum s.net.sources) (omega arith) some in
    let t = after_settle s b c (Refused x a d told ∷ rest) in
    by_rise (labels_to_rise s) (labels_to_rise t) (height s) (height t) (unit s) 1
    (omega (arith, change, c1, c2, low, front.1, front.2, at_x.1, at_x.2))
    (let one : 1 * unit s ≡ unit s = grind arith in omega (arith, less, h, same, pos, many, one))
