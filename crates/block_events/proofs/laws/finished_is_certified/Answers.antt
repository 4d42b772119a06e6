use Rattle.std.proofs.Common.{◌∙◌}
use Rattle.block_events.proofs.Finishing.{quiet_preflow, quiet_gets, finished_full}
use Rattle.block_events.proofs.laws.finished_is_certified.Goals as goal

pub returns : goal.returns
returns c = λ s side sound done reach. record {
  preflow = quiet_preflow s sound done.quiet;
  full = quiet_gets s sound done.quiet ∙ finished_full s side sound done reach;
  told = finished_full s side sound done reach;
}
