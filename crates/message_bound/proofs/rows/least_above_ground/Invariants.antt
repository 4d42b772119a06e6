use Rattle.std.proofs.Common.{ℕ, ◌+◌, ◌*◌, ◌<◌, ◌≤◌}
use Rattle.message_bound.specs.Rows.{ground, entries_of}
use Rattle.message_bound.proofs.rows.least_above_ground.Given as goal

abbrev pub invariant-loop-site : goal.invariant-loop-site
invariant-loop-site l = (g : ℕ → ℕ) → ((p : ℕ) → p < l.sites → g p < l.labels)
    → l.above + l.site * ground ≤ entries_of l.site l.labels l.rows g + l.below
