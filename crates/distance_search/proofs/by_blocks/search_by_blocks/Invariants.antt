use Rattle.std.specs.Prelude.{◌≡◌, length}
use Rattle.distance_search.specs.LabelSearches.{AreSharesOf}
use Rattle.distance_search.proofs.by_blocks.search_by_blocks.Given as goal

abbrev pub invariant-steps : goal.invariant-steps
invariant-steps g l = AreSharesOf l.parts.blocks.items l.shares × (length l.labels ≡ length l.fn.labels)
