use Rattle.std.proofs.Common.{◌≡◌, ◌++◌, length, drop, option_map}
use Rattle.toml.specs.View.{items_view}
use Rattle.problem_files.specs.Problem.{integers_of}
use Rattle.problem_files.proofs.fields.integers_of.Given as goal

abbrev pub invariant-loop-item : goal.invariant-loop-item
invariant-loop-item g l =
    (length l.integers.items ≡ l.item-index)
    × (integers_of (items_view l.items.items)
    ≡ option_map (λ zs. l.integers.items ++ zs) (integers_of (items_view (drop l.item-index l.items.items))))
