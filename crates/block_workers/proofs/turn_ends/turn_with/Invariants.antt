use Rattle.block_workers.specs.Ends.{ports}
use Rattle.block_workers.proofs.turn_ends.turn_with.Given as goal

abbrev pub ghosts-turn_from : goal.ghosts-turn_from
ghosts-turn_from a = record { start = ports a.ends }
