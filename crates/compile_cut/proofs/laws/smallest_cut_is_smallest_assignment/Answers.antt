use Rattle.compile_cut.proofs.Best.{best_of_cut, value_of_cut}
use Rattle.compile_cut.proofs.laws.smallest_cut_is_smallest_assignment.Goals as goal

pub returns : goal.returns
returns c = λ e net k side x within shown best shows. (best_of_cut e net k side x within shown best shows, value_of_cut e net k side x shown best.least shows)
