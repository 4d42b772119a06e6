use Rattle.block_workers.specs.Ends.{ports}
use Rattle.block_workers.proofs.Looking.{same_ports}
use Rattle.block_workers.proofs.turn_ends.turn_from.Goals as goal

pub invariant_of-ways : goal.invariant_of-ways
invariant_of-ways g c = rw c.requires (same_ports (ports c.args.ends))
