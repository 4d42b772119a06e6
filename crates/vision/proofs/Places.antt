-- The position that a refusal tells is within the bytes.
use Rattle.std.proofs.Common.{◌≡◌, ℕ, ◌+◌, ◌*◌, ◌≤◌, List, [], ◌∷◌, ◌++◌, length, ap, ◌∙◌, arith, length-append}
use Rattle.pgm_image.specs.Front.{RefusesFront, HasBad}
use Rattle.pgm_image.specs.Grammar.{magic, IsHeader}
use Rattle.pgm_image.specs.declared.header.Form.{Form}
use Rattle.pgm_image.specs.declared.header.Form.TheVariants.{Raw, Plain}
use Rattle.pgm_image.specs.declared.error.PgmError.{PgmError}
use Rattle.pgm_image.specs.declared.error.PgmError.TheVariants.{OutOfMemory, NotPgm, BadHeader, ZeroSize, TooLarge, BadMaxval, Truncated, SampleAboveMax, BadSample}
use Rattle.vision.specs.Inputs.{position_of}

bad_within : (form : Form) (count m last : ℕ) (rest : List ℕ) (end at : ℕ) → 1 + length rest ≤ end → HasBad form count m last rest end at → at ≤ end
bad_within Raw count m last rest end at long h = absurd h
bad_within Plain count m last rest end at long h =
    let few = h.3 in
    let size : length (last ∷ rest) ≡ length few.front + length h.1 = ap length few.whole ∙ length-append few.front h.1 in
    omega (arith, size, h.5, h.6, long)

header_some : (form : Form) (header : List ℕ) (w h m : ℕ) → IsHeader form header w h m → 1 ≤ length header
header_some form header w h m is =
    let whole : length header ≡ length (magic form) + length (is.numbers ++ is.last ∷ []) = ap length is.whole ∙ length-append (magic form) (is.numbers ++ is.last ∷ []) in
    let end : length (is.numbers ++ is.last ∷ []) ≡ length is.numbers + 1 = length-append is.numbers (is.last ∷ []) in
    omega (arith, whole, end)

pub place_within : (bytes : List ℕ) (e : PgmError) → RefusesFront bytes e → position_of e ≤ length bytes
place_within bytes OutOfMemory r = omega arith
place_within bytes NotPgm r = omega arith
place_within bytes (BadHeader at) r = omega (arith, ap length r.1.split, length-append r.1.longest r.1.rest, r.1.at_is)
place_within bytes ZeroSize r = omega arith
place_within bytes TooLarge r = omega arith
place_within bytes BadMaxval r = omega arith
place_within bytes Truncated r = omega arith
place_within bytes (SampleAboveMax i) r = omega arith
place_within bytes (BadSample at) r =
    let some = header_some r.form r.header r.width r.height r.maxval r.is_header in
    let long : length bytes ≡ length r.header + length r.rest = ap length r.whole ∙ length-append r.header r.rest in
    bad_within r.form (r.width * r.height) r.maxval r.is_header.last r.rest (length bytes) at (omega (arith, some, long)) r.says.1
