use Rattle.gco_calls.proofs.Stretches.{zeros_left}
use Rattle.gco_calls.proofs.course.zeros_begin.Goals as goal

pub returns : goal.returns
returns c = λ a moves below. zeros_left a moves below
