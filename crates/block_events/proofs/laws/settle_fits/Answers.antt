use Rattle.block_events.proofs.Owning.{settle_fits}
use Rattle.block_events.proofs.laws.settle_fits.Goals as goal

pub returns : goal.returns
returns c = settle_fits
