use Rattle.std.proofs.Common.{◌≡◌, map, take}
use Rattle.toml.specs.View.{view}
use Rattle.problem_files.specs.ListFields.{integer_of}
use Rattle.problem_files.proofs.lists.integers_of.Given as goal

abbrev pub invariant-loop-item : goal.invariant-loop-item
invariant-loop-item l = l.integers.items ≡ map (λ v. integer_of (view v)) (take l.item-index l.items.items)
