use Rattle.block_events.proofs.Finishing.{finished_smallest, finished_full}
use Rattle.block_events.proofs.laws.finished_is_smallest.Goals as goal

pub returns : goal.returns
returns c = λ s side sound done reach. record {
  smallest = finished_smallest s side sound done reach;
  full = finished_full s side sound done reach;
}
