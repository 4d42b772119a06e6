use Rattle.block_events.proofs.Kept.{run_kept}
use Rattle.block_events.proofs.Lists.{run_lowers}
use Rattle.block_events.proofs.Opening.{opened_sound}
use Rattle.block_events.specs.Soundness.{opening_state}
use Rattle.block_events.proofs.laws.every_list.Goals as goal

pub returns : goal.returns
returns c = λ net blocks es t h some run. record {
  sound = run_kept es (opening_state net blocks) t (opened_sound net blocks h some) run;
  few = run_lowers es (opening_state net blocks) t (opened_sound net blocks h some) run;
}
