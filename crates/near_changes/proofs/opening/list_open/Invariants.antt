use Rattle.std.proofs.Common.{◌-◌, ◌≤◌}
use Rattle.move_energy.specs.BySite.{IsListing}
use Rattle.move_energy.specs.Choices.{open_at}
use Rattle.near_changes.proofs.opening.list_open.Given as goal

abbrev pub invariant-loop-from : goal.invariant-loop-from
invariant-loop-from l = record {
  within : l.from ≤ l.end;
  listed : IsListing (open_at l.choices) l.from l.opened.items;
}

abbrev pub decreases-loop-from : goal.decreases-loop-from
decreases-loop-from l = l.end - l.from
