use Rattle.block_events.proofs.Owning.{excess_fits}
use Rattle.block_events.proofs.laws.excess_fits.Goals as goal

pub returns : goal.returns
returns c = excess_fits
