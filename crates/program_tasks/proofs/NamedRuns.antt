-- From the problem that a file names to the run over its tables.
use Rattle.std.proofs.Common.{◌≡◌, ℕ, ◌≤◌, ℤ, pos, ◌≤ℤ◌, Option, Some, None, IfSome, Result, Ok, Err, IfOk, refl, arith}
use Rattle.std.specs.Global.{Vec}
use Rattle.std.proofs.lemmas.Int.{ints}
use Rattle.cost_store.specs.Limits.{smooth_limit}
use Rattle.cost_store.specs.LabelCosts.{AreLabelCosts, costs_of}
use Rattle.problem_files.specs.LabelCostFields.{AreCostsOfLabels, costs_told}
use Rattle.moves.specs.declared.bound.Bound.{Bound}
use Rattle.one_move.specs.declared.error.MoveError.{MoveError}
use Rattle.moves.specs.declared.tables.Run.{Run}
use Rattle.run_options.specs.Limits.{greatest_smooth_cost}
use Rattle.program_tasks.specs.Instances.{costs_or_none}

-- the label costs that a problem names are those that its run is given
pub costs_are : (costs : Option (Vec ℤ)) → costs_of costs ≡ costs_or_none (costs_told costs)
costs_are None = refl
costs_are (Some costs) = refl

pub costs_kept : (labels : ℕ) (costs : Option (Vec ℤ)) → AreCostsOfLabels labels (costs_told costs) → AreLabelCosts labels costs
costs_kept labels None kept = tt
costs_kept labels (Some costs) kept = kept

-- a number in the range of signed costs is in that of numbers
most : (o : Option Bound) → IfSome o (λ bound. pos bound.vmax ≤ℤ smooth_limit) → IfSome o (λ bound. bound.vmax ≤ greatest_smooth_cost)
most None h = tt
most (Some bound) h = omega (arith, ints, h)

pub bound_in_range : (r : Result Run MoveError) → IfOk r (λ run. IfSome run.bound (λ bound. pos bound.vmax ≤ℤ smooth_limit))
    → IfOk r (λ run. IfSome run.bound (λ bound. bound.vmax ≤ greatest_smooth_cost))
bound_in_range (Ok run) h = most run.bound h
bound_in_range (Err e) h = tt
