use Rattle.std.proofs.Common.{◌≡◌, ◌++◌, take}
use Rattle.std.specs.Prelude.{filter}
use Rattle.move_energy.specs.Choices.{open_at}
use Rattle.strips.proofs.opening.list_left.Given as goal

abbrev pub invariant-loop-place : goal.invariant-loop-place
invariant-loop-place l = l.left.items ≡ l.fn.left.items ++ filter (open_at l.known) (take l.place l.opened)
