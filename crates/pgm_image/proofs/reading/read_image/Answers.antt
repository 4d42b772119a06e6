use Rattle.std.proofs.Common.{arith}
use Rattle.pgm_image.proofs.ImageBack.{gives_image, gives_refused, gives_exact, front_used}
use Rattle.pgm_image.proofs.reading.read_image.Goals as goal

pub returns-clause-image : goal.returns-clause-image
returns-clause-image c = gives_image c.args.bytes.now c.image_at.result (λ i. omega (arith, c.type_inv.bytes i)) c.image_at.ensures

pub returns-clause-refused : goal.returns-clause-refused
returns-clause-refused c = gives_refused c.args.bytes.now c.image_at.result (λ i. omega (arith, c.type_inv.bytes i)) c.image_at.ensures

pub returns-clause-exact : goal.returns-clause-exact
returns-clause-exact c = λ answer h. gives_exact c.args.bytes.now c.image_at.result answer c.image_at.ensures h

pub returns-clause-used : goal.returns-clause-used
returns-clause-used c = front_used c.args.bytes.now c.image_at.result (λ i. omega (arith, c.type_inv.bytes i)) c.image_at.ensures
