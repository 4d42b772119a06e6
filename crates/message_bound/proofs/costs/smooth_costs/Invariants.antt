use Rattle.std.proofs.Common.{ℕ, ◌≡◌, ◌*◌, ◌/◌, ◌%◌, ◌<◌, slice_index, vec_len, vec_capacity}
use Rattle.label_energies.specs.Energies.{Instance}
use Rattle.cost_store.specs.Posed.{IsMeant}
use Rattle.message_bound.specs.Costs.{parts}
use Rattle.message_bound.proofs.costs.smooth_costs.Given as goal

abbrev pub invariant-loop-place : goal.invariant-loop-place
invariant-loop-place g l = record {
  len : vec_len l.costs ≡ l.place;
  room : vec_capacity l.costs ≡ l.count;
  each : (m : Instance) → IsMeant g.F.Fn g.V.Fn l.problem m → (j weight : ℕ) → j < l.place
      → weight * slice_index l.costs.items j ≡ parts * m.smooth_cost weight (j / l.labels) (j % l.labels);
}
