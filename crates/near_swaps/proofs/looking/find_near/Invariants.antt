use Rattle.std.proofs.Common.{◌≡◌}
use Rattle.move_energy.specs.Choices.{AreOpenSites}
use Rattle.near_changes.specs.Working.{KeepsZeros}
use Rattle.near_swaps.proofs.looking.find_near.Given as goal

abbrev pub invariant-loop-stage : goal.invariant-loop-stage
invariant-loop-stage l = record {
  zeros : KeepsZeros l.fn.variables.choices.items l.variables.choices.items;
  opened : AreOpenSites l.variables.choices.items l.stage.opened.items;
  fresh : l.stage.fresh ≡ l.fn.stage.fresh;
  fresh_sites : l.stage.fresh_sites ≡ l.fn.stage.fresh_sites;
}
