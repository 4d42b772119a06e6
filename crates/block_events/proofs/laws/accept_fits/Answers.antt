use Rattle.block_events.proofs.Owning.{accept_fits}
use Rattle.block_events.proofs.laws.accept_fits.Goals as goal

pub returns : goal.returns
returns c = accept_fits
