-- What arcs carry, read row by row.
use Rattle.std.proofs.Common.{◌≡◌, ℕ, ◌+◌, ◌*◌, ◌<◌, List, length, slice_index, sym, ◌∙◌, ap, arith}
use Rattle.std.proofs.lemmas.Grind.{same_number_lists}
use Rattle.flow_network.specs.Cut.{Network, IsNet}
use Rattle.flow_network.specs.Preflow.{arc_at}
use Rattle.sink_distances.specs.declared.rows.Rows.{Rows}
use Rattle.sink_distances.specs.Rows.{residual_at, opposite_at, start_at, first_at, second_at, carried_flow, near_of, IsRows, AreNexts}
use Rattle.sink_distances.proofs.Making.{places_at, next_is_near, next_is_far, near_within, far_within}
use Rattle.sink_distances.proofs.Showing.{carried_at, carried_len}

first_is : (net : Network) (rows : Rows) (k : ℕ) → IsRows net rows → k < length net.arcs → first_at rows k ≡ near_of (start_at rows) net k
first_is net rows k r l = ap (λ (xs : List ℕ). slice_index xs k) r.firsts ∙ places_at net (start_at rows) k l

-- the next place of the row of an arc's first node is that of the arc
pub next_first : (net : Network) (rows : Rows) (k v : ℕ) (nexts : List ℕ) → IsNet net → IsRows net rows → k < length net.arcs → v ≡ (arc_at net k).from
    → AreNexts net (start_at rows) (2 * k) nexts → slice_index nexts v ≡ first_at rows k
next_first net rows k v nexts h r l is are = next_is_near net (start_at rows) k v nexts h l is are ∙ sym (first_is net rows k r l)

pub first_low : (net : Network) (rows : Rows) (k v : ℕ) (nexts : List ℕ) → IsNet net → IsRows net rows → k < length net.arcs → v ≡ (arc_at net k).from
    → AreNexts net (start_at rows) (2 * k) nexts → slice_index nexts v < length rows.cells.items
first_low net rows k v nexts h r l is are =
    omega (arith, next_is_near net (start_at rows) k v nexts h l is are, near_within net (start_at rows) (length rows.cells.items) k h r.room l)

pub second_low : (net : Network) (rows : Rows) (k v : ℕ) (nexts : List ℕ) → IsNet net → IsRows net rows → k < length net.arcs → v ≡ (arc_at net k).to
    → AreNexts net (start_at rows) (2 * k + 1) nexts → slice_index nexts v < length rows.cells.items
second_low net rows k v nexts h r l is are =
    omega (arith, next_is_far net (start_at rows) k v nexts h l is are, far_within net (start_at rows) (length rows.cells.items) k h r.room l)

pub back_at : (rows : Rows) (k place : ℕ) → place ≡ first_at rows k → opposite_at rows place ≡ second_at rows k
back_at rows k place is = ap (opposite_at rows) is

pub flow_is : (net : Network) (rows : Rows) (flow : List ℕ) → IsRows net rows → length flow ≡ length net.arcs
    → ((k : ℕ) → k < length net.arcs → slice_index flow k ≡ residual_at rows (second_at rows k)) → flow ≡ carried_flow rows
flow_is net rows flow r len each =
    same_number_lists flow (carried_flow rows) (len ∙ sym (carried_len net rows r))
    (λ k l. let inside : k < length net.arcs = omega (arith, l, len) in each k inside ∙ sym (carried_at net rows k r inside))
