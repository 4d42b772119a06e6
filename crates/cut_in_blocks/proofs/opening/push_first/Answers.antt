use Rattle.cut_in_blocks.proofs.Opened.{zeros_again}
use Rattle.cut_in_blocks.proofs.opening.push_first.Goals as goal

pub returns-clause-gave : goal.returns-clause-gave
returns-clause-gave g c = λ zeros.
    c.open_new_side_by_side.ensures.gave (zeros_again c.args.state c.take_in.new.state c.take_in.ensures.after.net c.take_in.ensures.labels zeros)
