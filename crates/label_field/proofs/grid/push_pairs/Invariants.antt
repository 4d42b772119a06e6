use Rattle.std.proofs.Common.{◌≡◌, ◌++◌, take}
use Rattle.label_field.specs.Grids.{pairs_of_steps}
use Rattle.label_field.proofs.grid.push_pairs.Given as goal

abbrev pub invariant-loop-step : goal.invariant-loop-step
invariant-loop-step l =
    l.list.items
    ≡ l.initial.list.items ++ pairs_of_steps l.image.width l.image.height l.weight (take l.step-index l.steps) l.place.site
