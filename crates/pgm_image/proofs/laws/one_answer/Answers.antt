use Rattle.pgm_image.proofs.ImageBack.{one_answer}
use Rattle.pgm_image.proofs.laws.one_answer.Goals as goal

pub returns : goal.returns
returns c = one_answer
