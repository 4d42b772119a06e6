use Rattle.std.proofs.Common.{◌≡◌, ◌≤◌, length, take}
use Rattle.std.specs.List.{filter}
use Rattle.move_energy.specs.Choices.{open_at}
use Rattle.site_bounds.proofs.lists.count_among.Given as goal

abbrev pub invariant-loop-place : goal.invariant-loop-place
invariant-loop-place l = record {
  counted : l.count ≡ length (filter (open_at l.choices) (take l.place l.sites));
  few : l.count ≤ l.place;
}
