use Rattle.cut_in_blocks.proofs.Rounds as rounds
use Rattle.cut_in_blocks.proofs.seats.seats_make_round.Goals as goal

pub returns : goal.returns
returns c = rounds.seats_make_round
