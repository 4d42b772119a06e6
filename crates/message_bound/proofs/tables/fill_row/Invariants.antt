use Rattle.std.proofs.Common.{ℕ, ◌≡◌, ◌*◌, ◌<◌, slice_index}
use Rattle.label_energies.specs.Energies.{Instance}
use Rattle.cost_store.specs.Posed.{IsMeant}
use Rattle.message_bound.specs.Costs.{parts}
use Rattle.message_bound.proofs.tables.fill_row.Given as goal

abbrev pub invariant-loop-second : goal.invariant-loop-second
invariant-loop-second g l = (m : Instance) → IsMeant g.F.Fn g.V.Fn l.problem m → (b : ℕ) → b < l.second
    → slice_index l.row b ≡ parts * m.smooth_cost l.weight l.first b
