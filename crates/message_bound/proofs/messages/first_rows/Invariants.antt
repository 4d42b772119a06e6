use Rattle.std.proofs.Common.{ℕ, ◌≡◌, ◌+◌, ◌*◌, ◌/◌, ◌%◌, ◌<◌, ◌≤◌, slice_index, vec_len, vec_capacity}
use Rattle.label_energies.specs.Energies.{Instance}
use Rattle.cost_store.specs.Posed.{IsMeant}
use Rattle.message_bound.specs.Rows.{ground}
use Rattle.message_bound.specs.Costs.{parts}
use Rattle.message_bound.proofs.messages.first_rows.Given as goal

abbrev pub invariant-loop-place : goal.invariant-loop-place
invariant-loop-place g l = record {
  len : vec_len l.rows ≡ l.place;
  room : vec_capacity l.rows ≡ l.count;
  range : (j : ℕ) → j < l.place
      → (ground ≤ slice_index l.rows.items j) × (slice_index l.rows.items j ≤ ground + 2560000000);
  each : (m : Instance) → IsMeant g.F.Fn g.V.Fn l.problem m → (j : ℕ) → j < l.place
      → slice_index l.rows.items j ≡ ground + parts * m.data_cost (j / l.labels) (j % l.labels);
}
