use Rattle.std.proofs.Common.{◌≡◌, ◌+◌, ◌<◌, ℕ, length, slice_index, eqb}
use Rattle.sums.specs.Sums.{sum_below, count_if}
use Rattle.flow_network.specs.Cut.{nodes}
use Rattle.flow_network.specs.Preflow.{arc_at}
use Rattle.flow_network.proofs.check.gets_of.Given as goal

abbrev pub invariant-loop-k : goal.invariant-loop-k
invariant-loop-k l = (length l.totals.items ≡ nodes l.net) × ((v : ℕ) → v < nodes l.net → slice_index l.totals.items v ≡ slice_index l.net.sources v + sum_below l.k (λ i. count_if (eqb (arc_at l.net i).to v) (slice_index l.arc_flow i)))
