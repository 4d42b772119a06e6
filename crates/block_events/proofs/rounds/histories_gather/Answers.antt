use Rattle.block_events.specs.RoundLaws.{Did}
use Rattle.block_events.proofs.Gathering.{gathered}
use Rattle.block_events.proofs.rounds.histories_gather.Goals as goal

pub returns : goal.returns
returns c = λ n s ends each. gathered n (Did s ends) each
