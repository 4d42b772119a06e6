use Rattle.persistency.proofs.Strips.{batches_agree, batches_least}
use Rattle.persistency.proofs.laws.batches_and_rest_are_least.Goals as goal

pub returns : goal.returns
returns c = record { agree = batches_agree; least = batches_least }
