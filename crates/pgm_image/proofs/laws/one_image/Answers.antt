use Rattle.pgm_image.proofs.ImageBack.{one_image}
use Rattle.pgm_image.proofs.laws.one_image.Goals as goal

pub returns : goal.returns
returns c = one_image
