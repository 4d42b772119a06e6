-- The work at the start is sound.
use Rattle.std.proofs.Common.{◌≡◌, ℕ, zero, suc, ◌<◌, List, length, replicate, slice_index, All, refl, sym, ◌∙◌, ap, arith}
use Rattle.std.proofs.lemmas.List.{length-replicate, get_or-replicate}
use Rattle.plain_cut.specs.declared.work.Work.{Work}
use Rattle.flow_network.specs.Cut.{Network, nodes, IsNet}
use Rattle.flow_network.specs.Preflow.{Flow, flow_by, sink_flows, inflow, outflow}
use Rattle.flow_network.specs.Progress.{IsLabelledPreflow}
use Rattle.flow_network.proofs.Given.{length-given, given_none, sinks_rooms}
use Rattle.std.proofs.lemmas.Grind.{same_number_lists}
use Rattle.sink_distances.specs.declared.rows.Rows.{Rows}
use Rattle.sink_distances.specs.Rows.{residual_at, second_at, carried_flow, IsRows}
use Rattle.sink_distances.proofs.Showing.{carried_at, carried_len}
use Rattle.plain_cut.specs.State.{work_flow, IsUnlabelled}
use Rattle.plain_cut.proofs.Zeros.{no_zeros}
use Rattle.sink_distances.proofs.Laws.{residual_nodes}
use Rattle.sums.proofs.SumLemmas.{sum_below-none, counted-zero}

pub zeros : (n i : ℕ) → slice_index (replicate n 0) i ≡ 0
zeros zero i = refl
zeros (suc n) zero = refl
zeros (suc n) (suc i) = zeros n i

pub ones : (n i : ℕ) → i < n → slice_index (replicate n 1) i ≡ 1
ones n i l = get_or-replicate n i 1 0 l

pub start_sound : (net : Network) → IsNet net → IsLabelledPreflow net (flow_by (replicate (length net.arcs) 0) (sink_flows net net.sinks)) net.sources (replicate (nodes net) 1)
start_sound net h =
    let m = length net.arcs in
    let n = nodes net in
    let flow : Flow = flow_by (replicate m 0) (sink_flows net net.sinks) in
    let none_in : (v : ℕ) → inflow net flow v ≡ 0 = λ v. sum_below-none m _ (λ k l. counted-zero _ _ (λ _. zeros m k)) in
    let none_out : (v : ℕ) → outflow net flow v ≡ 0 = λ v. sum_below-none m _ (λ k l. counted-zero _ _ (λ _. zeros m k)) in
    record {
      preflow = record {
        arcs_len = length-replicate m 0;
        sinks_len = length-given net net.sinks h (sinks_rooms net h);
        arcs = λ k l. omega (arith, zeros m k);
        sinks = λ v l. omega (arith, given_none net v h);
        covered = λ v l. omega (arith, none_in v, none_out v, given_none net v h);
      };
      kept_len = refl;
      told = λ v l. omega (arith, none_in v, none_out v, given_none net v h);
      labelling = record {
        len = length-replicate n 1;
        sinks = λ v l room. omega (arith, ones n v l);
        arcs = λ v w step.
            let ends = residual_nodes net flow v w h step in
            omega (arith, ones n v ends.0, ones n w ends.1);
      };
      below_top = λ v l. omega (arith, ones n v l);
    }

none_carried : (net : Network) (rows : Rows) → IsRows net rows → ((k : ℕ) → k < length net.arcs → residual_at rows (second_at rows k) ≡ 0)
    → carried_flow rows ≡ replicate (length net.arcs) 0
none_carried net rows r empty =
    let len = carried_len net rows r in
    same_number_lists (carried_flow rows) (replicate (length net.arcs) 0) (len ∙ sym (length-replicate (length net.arcs) 0))
    (λ k l. carried_at net rows k r (omega (arith, l, len)) ∙ (empty k (omega (arith, l, len)) ∙ sym (zeros (length net.arcs) k)))

pub start_work : (net : Network) (w : Work) → IsNet net → IsRows net w.rows
    → ((k : ℕ) → k < length net.arcs → residual_at w.rows (second_at w.rows k) ≡ 0) → w.rooms.items ≡ net.sinks
    → w.excess.items ≡ net.sources → w.labels.items ≡ replicate (nodes net) 1 → All (λ v. v < nodes net) w.queue.items → IsUnlabelled net w
start_work net w h r empty es ee el q = record {
  work = record {
    sound = rw (none_carried net w.rows r empty, es, ee, el) (start_sound net h);
    zeros = no_zeros net (work_flow net w) w.excess.items w.labels.items h (λ v l none. omega (arith, none, ap (λ (xs : List ℕ). slice_index xs v) el, ones (nodes net) v l));
    shown = r;
    rooms = rw es (sinks_rooms net h);
    queue = q;
  };
  labels = λ v l. rw el (ones (nodes net) v l);
}
