use Rattle.block_events.proofs.Terms.{own_terms}
use Rattle.block_events.proofs.rounds.own_terms_hold.Goals as goal

pub returns : goal.returns
returns c = own_terms
