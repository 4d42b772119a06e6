use Rattle.block_events.proofs.Fitting.{way_fits}
use Rattle.block_events.proofs.laws.way_fits.Goals as goal

pub returns : goal.returns
returns c = way_fits
