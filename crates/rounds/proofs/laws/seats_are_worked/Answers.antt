use Rattle.rounds.proofs.Coming as coming
use Rattle.rounds.proofs.laws.seats_are_worked.Goals as goal

pub returns : goal.returns
returns c = coming.seats_are_worked
