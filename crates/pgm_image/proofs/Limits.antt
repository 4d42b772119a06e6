-- What a header within the limits says.
use Rattle.std.proofs.Common.{◌≡◌, ◌≤◌, Ok, arith}
use Rattle.std.proofs.lemmas.Bool.Decides.{nat_tests}
use Rattle.pgm_image.specs.Picture.{SizeFits}
use Rattle.pgm_image.specs.Reading.{check_limits}
use Rattle.pgm_image.specs.declared.header.Header.{Header}

pub limits_hold : (h : Header) → check_limits h ≡ Ok tt → SizeFits h.width h.height × (1 ≤ h.maxval) × (h.maxval ≤ 65535)
limits_hold h e = grind (arith, nat_tests)
