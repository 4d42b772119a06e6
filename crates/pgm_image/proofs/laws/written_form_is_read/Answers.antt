use Rattle.pgm_image.proofs.WrittenLaws.{written_front}
use Rattle.pgm_image.proofs.laws.written_form_is_read.Goals as goal

pub returns : goal.returns
returns c = written_front
