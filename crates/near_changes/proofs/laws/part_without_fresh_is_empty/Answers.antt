use Rattle.near_changes.proofs.Parts.{no_stale_part}
use Rattle.near_changes.proofs.laws.part_without_fresh_is_empty.Goals as goal

pub returns : goal.returns
returns c = no_stale_part
