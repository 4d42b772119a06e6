use Rattle.std.proofs.Common.{◌≡◌, map, take}
use Rattle.toml.specs.View.{view}
use Rattle.problem_files.specs.ListFields.{natural_of}
use Rattle.problem_files.proofs.lists.numbers_of.Given as goal

abbrev pub invariant-loop-item : goal.invariant-loop-item
invariant-loop-item l = l.numbers.items ≡ map (λ v. natural_of (view v)) (take l.item-index l.items.items)
