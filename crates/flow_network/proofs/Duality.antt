-- What a cut's capacity has above what the sink gets.
use Rattle.std.proofs.Common.{◌≡◌, ℕ, zero, suc, ◌+◌, ◌-◌, ◌<◌, ◌≤◌, Bool, true, false, not, ◌&&◌, eqb, length, slice_index, refl, ◌∙◌, arith}
use Rattle.sums.specs.Sums.{sum_below, count_if}
use Rattle.sums.proofs.SumLemmas.{sum_below-same, sum_below-swap, sum_by-sum_below, sum_below-counted, counted-counted, sum_below-pick}
use Rattle.flow_network.specs.Cut.{Network, nodes, enters, capacity_of, IsLeastCut, IsArc, IsNet}
use Rattle.flow_network.specs.Preflow.{arc_at, Flow, inflow, outflow, excess, sink_gets, IsPreflow, IsCertified}

-- what the arcs bring to the nodes of a set is what the arcs that end in it carry
pub ends_in : (n m : ℕ) (side : ℕ → Bool) (end : ℕ → ℕ) (f : ℕ → ℕ) → ((k : ℕ) → k < m → end k < n)
    → sum_below n (λ v. count_if (side v) (sum_below m (λ k. count_if (eqb (end k) v) (f k))))
    ≡ sum_below m (λ k. count_if (side (end k)) (f k))
ends_in n m side end f within =
    sum_below-same n _ (λ v. sum_below m (λ k. count_if (eqb (end k) v) (count_if (side v) (f k))))
    (λ v l. sum_below-counted m (side v) (λ k. count_if (eqb (end k) v) (f k))
    ∙ sum_below-same m _ (λ k. count_if (eqb (end k) v) (count_if (side v) (f k)))
    (λ k l'. counted-counted (side v) (eqb (end k) v) (f k)))
    ∙ (sum_below-swap n m (λ v k. count_if (eqb (end k) v) (count_if (side v) (f k)))
    ∙ sum_below-same m _ (λ k. count_if (side (end k)) (f k))
    (λ k l. sum_below-pick n (end k) (λ v. count_if (side v) (f k)) (within k l)))

excess_at : (t : Bool) (a b c d : ℕ) → c + d ≤ a + b
    → count_if t ((a + b) - (c + d)) + count_if t c + count_if t d ≡ count_if t a + count_if t b
excess_at true a b c d h = omega arith
excess_at false a b c d h = refl

pub split_excess : (n : ℕ) (side : ℕ → Bool) (a b c d : ℕ → ℕ) → ((v : ℕ) → v < n → c v + d v ≤ a v + b v)
    → sum_below n (λ v. count_if (side v) ((a v + b v) - (c v + d v)))
    + sum_below n (λ v. count_if (side v) (c v)) + sum_below n (λ v. count_if (side v) (d v))
    ≡ sum_below n (λ v. count_if (side v) (a v)) + sum_below n (λ v. count_if (side v) (b v))
split_excess zero side a b c d h = refl
split_excess (suc n) side a b c d h =
    omega (arith, split_excess n side a b c d (λ v l. h v (omega arith)), excess_at (side n) (a n) (b n) (c n) (d n) (h n (omega arith)))

sinks_at : (t : Bool) (a d : ℕ) → d ≤ a → count_if (not t) (a - d) + d ≡ count_if (not t) a + count_if t d
sinks_at true a d h = omega arith
sinks_at false a d h = omega arith

pub split_sinks : (n : ℕ) (side : ℕ → Bool) (a d : ℕ → ℕ) → ((v : ℕ) → v < n → d v ≤ a v)
    → sum_below n (λ v. count_if (not (side v)) (a v - d v)) + sum_below n d
    ≡ sum_below n (λ v. count_if (not (side v)) (a v)) + sum_below n (λ v. count_if (side v) (d v))
split_sinks zero side a d h = refl
split_sinks (suc n) side a d h =
    omega (arith, split_sinks n side a d (λ v l. h v (omega arith)), sinks_at (side n) (a n) (d n) (h n (omega arith)))

arcs_at : (s t : Bool) (c f : ℕ) → f ≤ c
    → count_if (t && not s) (c - f) + count_if (s && not t) f + count_if t f ≡ count_if (t && not s) c + count_if s f
arcs_at true true c f h = omega arith
arcs_at true false c f h = omega arith
arcs_at false true c f h = omega arith
arcs_at false false c f h = omega arith

pub split_arcs : (m : ℕ) (s t : ℕ → Bool) (c f : ℕ → ℕ) → ((k : ℕ) → k < m → f k ≤ c k)
    → sum_below m (λ k. count_if (t k && not (s k)) (c k - f k)) + sum_below m (λ k. count_if (s k && not (t k)) (f k))
    + sum_below m (λ k. count_if (t k) (f k))
    ≡ sum_below m (λ k. count_if (t k && not (s k)) (c k)) + sum_below m (λ k. count_if (s k) (f k))
split_arcs zero s t c f h = refl
split_arcs (suc m) s t c f h =
    omega (arith, split_arcs m s t c f (λ k l. h k (omega arith)), arcs_at (s m) (t m) (c m) (f m) (h m (omega arith)))

-- the four things that a cut's capacity has above what the sink gets
abbrev pub kept_inside : Network → Flow → (ℕ → Bool) → ℕ
kept_inside net flow side = sum_below (nodes net) (λ v. count_if (side v) (excess net flow v))

abbrev pub sinks_outside : Network → Flow → (ℕ → Bool) → ℕ
sinks_outside net flow side =
    sum_below (nodes net) (λ v. count_if (not (side v)) (slice_index net.sinks v - slice_index flow.sinks v))

abbrev pub room_inwards : Network → Flow → (ℕ → Bool) → ℕ
room_inwards net flow side =
    sum_below (length net.arcs) (λ k. count_if (enters side (arc_at net k)) ((arc_at net k).capacity - slice_index flow.arcs k))

abbrev pub carried_outwards : Network → Flow → (ℕ → Bool) → ℕ
carried_outwards net flow side =
    sum_below (length net.arcs) (λ k. count_if (side (arc_at net k).from && not (side (arc_at net k).to)) (slice_index flow.arcs k))

pub arc_is : (net : Network) → IsNet net → (k : ℕ) → k < length net.arcs → IsArc (nodes net) (arc_at net k)
arc_is net h k l = h.arcs k (record { from = 0; to = 0; capacity = 0 }) l

pub capacity_is : (net : Network) (flow : Flow) (side : ℕ → Bool) → IsNet net → IsPreflow net flow
    → capacity_of net side
    ≡ sink_gets net flow + kept_inside net flow side + sinks_outside net flow side
    + room_inwards net flow side + carried_outwards net flow side
capacity_is net flow side h p =
    let n = nodes net in
    let m = length net.arcs in
    omega (
      arith,
      split_excess n side (slice_index net.sources) (inflow net flow) (outflow net flow) (slice_index flow.sinks) p.covered,
      split_sinks n side (slice_index net.sinks) (slice_index flow.sinks) p.sinks,
      split_arcs m (λ k. side (arc_at net k).from) (λ k. side (arc_at net k).to) (λ k. (arc_at net k).capacity) (slice_index flow.arcs) p.arcs,
      ends_in n m side (λ k. (arc_at net k).to) (slice_index flow.arcs) (λ k l. (arc_is net h k l).to),
      ends_in n m side (λ k. (arc_at net k).from) (slice_index flow.arcs) (λ k l. (arc_is net h k l).from),
      sum_by-sum_below (λ arc. count_if (enters side arc) arc.capacity) net.arcs (record { from = 0; to = 0; capacity = 0 }),
    )

-- what the sink gets by a preflow is at most the capacity of each cut
pub sink_gets-le-capacity : (net : Network) (flow : Flow) (side : ℕ → Bool) → IsNet net → IsPreflow net flow
    → sink_gets net flow ≤ capacity_of net side
sink_gets-le-capacity net flow side h p = omega (arith, capacity_is net flow side h p)

-- a certified cut is a least cut
pub least_of_certified : (net : Network) (flow : Flow) (side : ℕ → Bool) (value : ℕ) → IsNet net
    → IsCertified net flow side value → IsLeastCut net side
least_of_certified net flow side value h c other =
    omega (arith, c.full, sink_gets-le-capacity net flow other h c.preflow)
