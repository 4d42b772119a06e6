use Rattle.std.proofs.Common.{◌≡◌, ℕ, ◌<◌, []}
use Rattle.block_events.specs.States.{way_at}
use Rattle.block_state.proofs.all_ways.AllWays.is_row_quiet.Given as goal

abbrev pub invariant-loop-to : goal.invariant-loop-to
invariant-loop-to l = (c : ℕ) → c < l.to → way_at l.self.messages l.from c ≡ []
