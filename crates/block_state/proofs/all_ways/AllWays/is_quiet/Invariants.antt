use Rattle.std.proofs.Common.{◌≡◌, ℕ, ◌<◌, []}
use Rattle.block_events.specs.States.{way_at}
use Rattle.block_state.proofs.all_ways.AllWays.is_quiet.Given as goal

abbrev pub invariant-loop-from : goal.invariant-loop-from
invariant-loop-from l = (b c : ℕ) → b < l.from → c < l.count → way_at l.self.messages b c ≡ []
