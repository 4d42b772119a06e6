use Rattle.std.proofs.Common.{ℕ, ◌≡◌, ◌+◌, ◌*◌, ◌<◌, slice_index}
use Rattle.label_energies.specs.Energies.{Instance}
use Rattle.cost_store.specs.Posed.{IsMeant}
use Rattle.message_bound.specs.Costs.{parts}
use Rattle.message_bound.proofs.tables.fill.Given as goal

abbrev pub invariant-loop-first : goal.invariant-loop-first
invariant-loop-first g l = (m : Instance) → IsMeant g.F.Fn g.V.Fn l.problem m → (a b : ℕ) → a < l.first → b < l.labels
    → slice_index l.entries (a * l.labels + b) ≡ parts * m.smooth_cost l.weight a b
