use Rattle.std.proofs.Common.{◌≡◌, ◌≤◌}
use Rattle.move_energy.specs.Choices.{open_rank}
use Rattle.site_bounds.proofs.lists.count_open.Given as goal

abbrev pub invariant-loop-site : goal.invariant-loop-site
invariant-loop-site l = record {
  counted : l.count ≡ open_rank l.choices l.site;
  few : l.count ≤ l.site;
}
