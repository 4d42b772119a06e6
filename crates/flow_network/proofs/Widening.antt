-- A net in which each node can send the sink more.
use Rattle.std.proofs.Common.{◌≡◌, ℕ, ◌+◌, ◌-◌, ◌<◌, ◌≤◌, List, [], ◌∷◌, length, slice_index, sum, refl, sym, ap, arith, ◌∙◌}
use Rattle.std.proofs.lemmas.List.Sums.{sum_by-cons}
use Rattle.std.specs.Simd.Lanes.{zip2}
use Rattle.std.proofs.lemmas.Simd.{length-zip2, get_or-zip2}
use Rattle.flow_network.specs.Limits.{capacity_limit}
use Rattle.flow_network.specs.Cut.{Network, nodes, with_larger_sinks, total_capacity, AreExtras, IsNet}
use Rattle.flow_network.specs.Preflow.{sink_flows, AreRooms}

-- a list with so much more at each place
abbrev pub added : List ℕ → List ℕ → List ℕ
added xs more = zip2 (λ sink extra. sink + extra) xs more

pub sum-added : (xs more : List ℕ) → length more ≡ length xs → sum (added xs more) ≡ sum xs + sum more
sum-added [] [] e = refl
sum-added [] (m ∷ more) e = absurd (omega arith)
sum-added (x ∷ xs) [] e = absurd (omega arith)
sum-added (x ∷ xs) (m ∷ more) e = omega (arith, sum-added xs more (omega arith), sum_by-cons (λ (y : ℕ). y) x xs, sum_by-cons (λ (y : ℕ). y) m more, sum_by-cons (λ (y : ℕ). y) (x + m) (added xs more))

pub length-added : (xs more : List ℕ) → length more ≡ length xs → length (added xs more) ≡ length xs
length-added xs more e = length-zip2 (λ sink extra. sink + extra) xs more (sym e)

pub added_at : (xs more : List ℕ) (v : ℕ) → length more ≡ length xs → v < length xs
    → slice_index (added xs more) v ≡ slice_index xs v + slice_index more v
added_at xs more v e l = get_or-zip2 (λ sink extra. sink + extra) xs more v 0 0 0 (omega (arith, l)) (omega (arith, e, l))

-- all capacities of the wider net together
pub widened-total : (net : Network) (more : List ℕ) → IsNet net → length more ≡ nodes net
    → total_capacity (with_larger_sinks net more) ≡ total_capacity net + sum more
widened-total net more h e = omega (arith, sum-added net.sinks more (omega (arith, e, h.same)))

-- where they stay within the limit, it is a net
pub widened_net : (net : Network) (more : List ℕ) → IsNet net → length more ≡ nodes net → total_capacity net + sum more ≤ capacity_limit
    → AreExtras net more
widened_net net more h e small = record {
  len = e;
  fits = record {
    same = length-added net.sinks more (omega (arith, e, h.same)) ∙ h.same;
    count = h.count;
    arcs = h.arcs;
    total = omega (arith, widened-total net more h e, small);
  };
}

pub extras-small : (net : Network) (more : List ℕ) → IsNet net → AreExtras net more → total_capacity net + sum more ≤ capacity_limit
extras-small net more h e = omega (arith, widened-total net more h e.len, e.fits.total)

-- and what it gives the sink stays, where the rooms grow as the sinks do
pub given-added : (sinks rooms more : List ℕ) → length rooms ≡ length sinks → length more ≡ length sinks
    → zip2 (λ sink room. sink - room) (added sinks more) (added rooms more) ≡ zip2 (λ sink room. sink - room) sinks rooms
given-added [] rooms more e f = refl
given-added (x ∷ xs) [] more e f = absurd (omega arith)
given-added (x ∷ xs) (y ∷ ys) [] e f = absurd (omega arith)
given-added (x ∷ xs) (y ∷ ys) (m ∷ more) e f =
    let here : (x + m) - (y + m) ≡ x - y = omega arith in
    rw here (ap (λ (rest : List ℕ). (x - y) ∷ rest) (given-added xs ys more (omega arith) (omega arith)))

pub given_widened : (net : Network) (rooms more : List ℕ) → IsNet net → AreRooms net rooms → length more ≡ nodes net
    → sink_flows (with_larger_sinks net more) (added rooms more) ≡ sink_flows net rooms
given_widened net rooms more h r e = given-added net.sinks rooms more (omega (arith, r.len, h.same)) (omega (arith, e, h.same))

pub widened_rooms : (net : Network) (rooms more : List ℕ) → IsNet net → AreRooms net rooms → length more ≡ nodes net
    → AreRooms (with_larger_sinks net more) (added rooms more)
widened_rooms net rooms more h r e = record {
  len = length-added rooms more (omega (arith, e, r.len)) ∙ r.len;
  within = λ v l. omega (
    arith,
    added_at rooms more v (omega (arith, e, r.len)) (omega (arith, r.len, l)),
    added_at net.sinks more v (omega (arith, e, h.same)) (omega (arith, h.same, l)),
    r.within v l,
  );
}
