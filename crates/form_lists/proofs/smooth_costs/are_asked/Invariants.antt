use Rattle.std.proofs.Common.{◌≡◌, ◌<◌, ℕ, true, false}
use Rattle.std.specs.Prelude.{slice_index_or}
use Rattle.form_lists.proofs.smooth_costs.are_asked.Given as goal

abbrev pub invariant-loop-label : goal.invariant-loop-label
invariant-loop-label l = l.all ≡ true → (label : ℕ) → label < l.label → slice_index_or l.labels label false ≡ true
