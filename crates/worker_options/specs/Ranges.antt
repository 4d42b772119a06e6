-- The ranges of the workers' options.
use Rattle.std.specs.Prelude.{◌≤◌}
use Rattle.block_net.specs.Limits.{block_limit}
use Rattle.worker_options.specs.Limits.{thread_limit, ring_limit, turn_limit, round_limit}
use Rattle.worker_options.specs.declared.options.Options.{Options}

-- each number is in its range
pub record AreInRange (o : Options) : Type 0 where
  pub threads_least : 1 ≤ o.threads
  pub threads_most : o.threads ≤ thread_limit
  pub blocks_least : 1 ≤ o.blocks
  pub blocks_most : o.blocks ≤ block_limit
  pub ring_least : 1 ≤ o.ring
  pub ring_most : o.ring ≤ ring_limit
  pub turns_most : o.turns ≤ turn_limit
  pub rounds_most : o.rounds ≤ round_limit
