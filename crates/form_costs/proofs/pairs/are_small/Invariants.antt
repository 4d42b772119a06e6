use Rattle.std.proofs.Common.{ℕ, ◌<◌, ◌≤◌, unsigned_abs}
use Rattle.pseudo_bool.specs.Energies.{entry}
use Rattle.form_costs.proofs.pairs.are_small.Given as goal

abbrev pub invariant-loop-place : goal.invariant-loop-place
invariant-loop-place l = (p : ℕ) → p < l.place → unsigned_abs (entry l.weights p) ≤ 10000000
