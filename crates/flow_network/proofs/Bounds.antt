-- Sums that the code makes stay below the capacities together.
use Rattle.std.proofs.Common.{◌≡◌, ◌≢◌, ◌↔◌, IsTrue, eqb, Result, Ok, Err, IfOk, ℕ, zero, suc, ◌+◌, ◌<◌, ◌≤◌, Bool, true, false, not, List, length, get_or, slice_index, sum, sum_by, take, sym, ◌∙◌, ap, arith}
use Rattle.std.proofs.lemmas.List.Sums.{sum_by_more_le_part, sum_by-le-sum_by}
use Rattle.sums.specs.Sums.{sum_below, count_if}
use Rattle.flow_network.specs.declared.arc.Arc.{Arc}
use Rattle.flow_network.specs.Cut.{Network, nodes, enters, capacity_of, total_capacity, IsNet}
use Rattle.flow_network.specs.declared.solved.Solved.{Solved}
use Rattle.flow_network.specs.Answer.{flow_of, side_of, IsRightCut}
use Rattle.std.proofs.lemmas.Bool.{eqb-true, eq-eqb}
use Rattle.std.specs.declared.alloc.AllocError.{AllocError}
use Rattle.flow_network.specs.Preflow.{arc_at, Flow, IsPreflow, IsCertified, sink_gets}
use Rattle.sums.proofs.SumLemmas.{sum_below-le, sum_by-sum_below, counted-le, sum_below-le-longer}

-- a list's sum by index
pub sum_is : (xs : List ℕ) → sum xs ≡ sum_below (length xs) (slice_index xs)
sum_is xs = sum_by-sum_below (λ x. x) xs 0

-- what is counted before k, and the term at k, are within the sum
pub counted-more-le : (n k : ℕ) (b : ℕ → Bool) (f : ℕ → ℕ) → k < n → sum_below k (λ i. count_if (b i) (f i)) + f k ≤ sum_below n f
counted-more-le n k b f l =
    omega (arith, sum_below-le k (λ i. count_if (b i) (f i)) f (λ i h. counted-le (b i) (f i)), sum_below-le-longer (suc k) n f (omega arith))

pub flow-le-capacities : (net : Network) (flow : ℕ → ℕ) (b : ℕ → Bool) (k : ℕ) → k < length net.arcs
    → ((i : ℕ) → i < length net.arcs → flow i ≤ (arc_at net i).capacity)
    → sum_below k (λ i. count_if (b i) (flow i)) + flow k ≤ sum_by (λ arc. arc.capacity) net.arcs
flow-le-capacities net flow b k l within =
    omega (
      arith,
      counted-more-le (length net.arcs) k b flow l,
      sum_below-le (length net.arcs) flow (λ i. (arc_at net i).capacity) within,
      sum_by-sum_below (λ arc. arc.capacity) net.arcs (record { from = 0; to = 0; capacity = 0 }),
    )

-- a number of a list is within its sum
pub number-le-sum : (xs : List ℕ) (v : ℕ) → v < length xs → slice_index xs v ≤ sum xs
number-le-sum xs v l =
    omega (arith, sum_is xs, counted-more-le (length xs) v (λ _. false) (slice_index xs) l)

pub sum-le-sum : (xs ys : List ℕ) → length xs ≡ length ys → ((v : ℕ) → v < length ys → slice_index xs v ≤ slice_index ys v) → sum xs ≤ sum ys
sum-le-sum xs ys e within =
    omega (arith, sum_is xs, sum_is ys, ap (λ n. sum_below n (slice_index xs)) e, sum_below-le (length ys) (slice_index xs) (slice_index ys) within)

one_of : (t : Bool) (f g : ℕ) → count_if t f + count_if (not t) g ≤ f + g
one_of true f g = omega arith
one_of false f g = omega arith

sides-le : (n : ℕ) (b : ℕ → Bool) (f g : ℕ → ℕ)
    → sum_below n (λ v. count_if (b v) (f v)) + sum_below n (λ v. count_if (not (b v)) (g v)) ≤ sum_below n f + sum_below n g
sides-le zero b f g = omega arith
sides-le (suc n) b f g = omega (arith, sides-le n b f g, one_of (b n) (f n) (g n))

pub sides-more-le : (xs ys : List ℕ) (b : ℕ → Bool) (v : ℕ) → v < length xs → length ys ≡ length xs
    → sum_below v (λ v. count_if (b v) (slice_index xs v)) + sum_below v (λ v. count_if (not (b v)) (slice_index ys v))
    + (slice_index xs v + slice_index ys v) ≤ sum xs + sum ys
sides-more-le xs ys b v l e =
    omega (
      arith,
      sides-le v b (slice_index xs) (slice_index ys),
      sum_is xs,
      sum_is ys,
      ap (λ n. sum_below n (slice_index ys)) e,
      sum_below-le-longer (suc v) (length xs) (slice_index xs) (omega arith),
      sum_below-le-longer (suc v) (length xs) (slice_index ys) (omega arith),
    )

pub sides-all-le : (xs ys : List ℕ) (b : ℕ → Bool) → length ys ≡ length xs
    → sum_below (length xs) (λ v. count_if (b v) (slice_index xs v)) + sum_below (length xs) (λ v. count_if (not (b v)) (slice_index ys v))
    ≤ sum xs + sum ys
sides-all-le xs ys b e =
    omega (arith, sides-le (length xs) b (slice_index xs) (slice_index ys), sum_is xs, sum_is ys, ap (λ n. sum_below n (slice_index ys)) e)

pub arcs-more-le : (arcs : List Arc) (b : Arc → Bool) (k : ℕ) → k < length arcs
    → sum_by (λ arc. count_if (b arc) arc.capacity) (take k arcs) + (get_or arcs k (record { from = 0; to = 0; capacity = 0 })).capacity
    ≤ sum_by (λ arc. arc.capacity) arcs
arcs-more-le arcs b k l =
    sum_by_more_le_part (λ (arc : Arc). count_if (b arc) arc.capacity) (λ arc. arc.capacity) arcs k (record { from = 0; to = 0; capacity = 0 }) l
    (λ arc. counted-le (b arc) arc.capacity)

-- no cut can do more than all capacities together
pub capacity-le-total : (net : Network) (side : ℕ → Bool) → IsNet net → capacity_of net side ≤ total_capacity net
capacity-le-total net side h =
    omega (
      arith,
      sides-all-le net.sources net.sinks side h.same,
      sum_by-le-sum_by (λ arc. count_if (enters side arc) arc.capacity) (λ arc. arc.capacity) net.arcs (λ arc. counted-le (enters side arc) arc.capacity),
    )

-- a preflow whose value is told: what is left to test
pub certified_test : (net : Network) (flow : Flow) (side : ℕ → Bool) (value : ℕ) → IsPreflow net flow → sum flow.sinks ≡ value
    → IsTrue (eqb value (capacity_of net side)) ↔ IsCertified net flow side value
certified_test net flow side value p told =
    let all : sum flow.sinks ≡ sink_gets net flow = sum_is flow.sinks ∙ ap (λ n. sum_below n (slice_index flow.sinks)) p.sinks_len in (
      (λ holds. let same : value ≡ capacity_of net side = eqb-true value (capacity_of net side) holds in
          record { preflow = p; full = sym all ∙ (told ∙ same); told = same }),
      (λ c. eq-eqb value (capacity_of net side) c.told),
    )

-- where the value is another, nothing is certified
pub not_certified : (net : Network) (flow : Flow) (side : ℕ → Bool) (value : ℕ) → sum flow.sinks ≢ value
    → IsCertified net flow side value → ⊥
not_certified net flow side value ne c =
    let all : sum flow.sinks ≡ sink_gets net flow = sum_is flow.sinks ∙ ap (λ n. sum_below n (slice_index flow.sinks)) c.preflow.sinks_len in
    ne (all ∙ (c.full ∙ sym c.told))

pub right_when : (net : Network) (s : Solved) → length s.sink_side.items ≡ nodes net → (r : Result Bool AllocError)
    → IfOk r (λ yes. IsTrue yes ↔ IsCertified net (flow_of s) (side_of s) s.value) → IfOk r (λ yes. IsTrue yes ↔ IsRightCut net s)
right_when net s e (Ok answer) h =
    ((λ y. record { bits = e; certified = h.0 y }), (λ r. h.1 r.certified))
right_when net s e (Err f) h = h
