use Rattle.std.proofs.Common.{◌≡◌, length, map, take}
use Rattle.toml.specs.View.{view}
use Rattle.problem_files.specs.ListFields.{natural_of}
use Rattle.problem_files.proofs.start.fill.Given as goal

abbrev pub invariant-loop-site : goal.invariant-loop-site
invariant-loop-site l =
    (l.start ≡ record l.initial.start { at = l.start.at }) × (length l.start.at ≡ length l.initial.start.at)
    × (take l.site l.start.at ≡ map (λ item. natural_of (view item)) (take l.site l.items.items))
