use Rattle.rounds.proofs.Coming as coming
use Rattle.rounds.proofs.laws.hands_come_back.Goals as goal

pub returns : goal.returns
returns c = coming.hands_come_back
