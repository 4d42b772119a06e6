use Rattle.block_events.proofs.Opening.{opened_sound}
use Rattle.block_events.proofs.laws.opening_is_sound.Goals as goal

pub returns : goal.returns
returns c = opened_sound
