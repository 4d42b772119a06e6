use Rattle.pgm_image.proofs.ImageBack.{some_answer}
use Rattle.pgm_image.proofs.laws.some_answer.Goals as goal

pub returns : goal.returns
returns c = some_answer
