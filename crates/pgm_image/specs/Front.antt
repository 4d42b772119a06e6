-- What stands at the front of some bytes: an image, or what refuses one.
use Rattle.std.specs.Prelude.{ℕ, List, [], ◌∷◌, ◌++◌, length, All, ◌≡◌, ◌≤◌, ◌<◌, ◌+◌, ◌-◌, ◌*◌}
use Rattle.std.specs.Prelude.{◌⊎◌, true, Result, Ok, Err}
use Rattle.pgm_image.specs.Picture.{Picture, IsPicture, SizeFits, image_side_limit, sample_limit}
use Rattle.pgm_image.specs.Picture.{maxval_limit}
use Rattle.pgm_image.specs.Raster.{raster, raster_size, IsFirstAbove}
use Rattle.pgm_image.specs.Grammar.{is_gap, magic, AreNumbers, IsHeader, IsAnyHeader, IsEndedNumber}
use Rattle.pgm_image.specs.Grammar.{EndsNumber, StopsAt}
use Rattle.pgm_image.specs.declared.error.PgmError.{PgmError}
use Rattle.pgm_image.specs.declared.error.PgmError.TheVariants.{OutOfMemory, NotPgm, BadHeader}
use Rattle.pgm_image.specs.declared.error.PgmError.TheVariants.{ZeroSize, TooLarge, BadMaxval}
use Rattle.pgm_image.specs.declared.error.PgmError.TheVariants.{Truncated, SampleAboveMax}
use Rattle.pgm_image.specs.declared.error.PgmError.TheVariants.{BadSample}
use Rattle.pgm_image.specs.declared.header.Form.{Form}
use Rattle.pgm_image.specs.declared.header.Form.TheVariants.{Raw, Plain}

-- The samples of an image are all of the body. The white-space byte that ends the header begins the
-- gap before the first plain sample. The last one ends with the bytes, or before white space.
abbrev pub IsBody : Form → Picture → ℕ → List ℕ → List ℕ → Type 0
IsBody Raw p last body rest = body ≡ raster p.maxval p.samples
IsBody Plain p last body rest = AreNumbers p.samples (last ∷ body) × EndsNumber rest

-- The first `used` bytes are a header and the samples of this picture.
pub record Front (bytes : List ℕ) (p : Picture) (used : ℕ) : Type 0 where
  pub form : Form
  pub header : List ℕ
  pub body : List ℕ
  pub rest : List ℕ
  pub is_picture : IsPicture p
  pub is_header : IsHeader form header p.width p.height p.maxval
  pub is_body : IsBody form p is_header.last body rest
  pub whole : bytes ≡ header ++ (body ++ rest)
  pub used_is : used ≡ length header + length body

-- what a header says, its last byte, and the bytes behind it
pub record HeaderAndRest : Type 0 where
  pub form : Form
  pub width : ℕ
  pub height : ℕ
  pub maxval : ℕ
  pub last : ℕ
  pub rest : List ℕ

-- A header stands at the front, and this holds of it and of what follows it.
pub record AfterHeader (Holds : HeaderAndRest → Type 0) (bytes : List ℕ) : Type 0 where
  pub form : Form
  pub header : List ℕ
  pub rest : List ℕ
  pub width : ℕ
  pub height : ℕ
  pub maxval : ℕ
  pub is_header : IsHeader form header width height maxval
  pub whole : bytes ≡ header ++ rest
  pub says : Holds (record {
    form = form;
    width = width;
    height = height;
    maxval = maxval;
    last = is_header.last;
    rest = rest;
  })

-- the three numbers are within their limits
abbrev pub FitNumbers : ℕ → ℕ → ℕ → Type 0
FitNumbers w h m = SizeFits w h × (1 ≤ m) × (m ≤ maxval_limit)

-- a width and a height, one of which or whose product is above its limit
abbrev pub IsTooLarge : ℕ → ℕ → Type 0
IsTooLarge w h = (1 ≤ w) × (1 ≤ h)
    × ((image_side_limit < w) ⊎ ((image_side_limit < h) ⊎ (sample_limit < w * h)))

-- some plain samples, fewer than the count and none above m, stand at the front, and this follows
pub record FewerSamples (count m : ℕ) (bytes xs tail : List ℕ) : Type 0 where
  pub front : List ℕ
  pub are_numbers : AreNumbers xs front
  pub fewer : length xs < count
  pub each : All (λ x. x ≤ m) xs
  pub ends : EndsNumber tail
  pub whole : bytes ≡ front ++ tail

-- The input ends before the last sample: a raster's last byte, or a plain sample's first digit.
abbrev pub EndsEarly : Form → ℕ → ℕ → ℕ → List ℕ → Type 0
EndsEarly Raw count m last rest = length rest < raster_size count m
EndsEarly Plain count m last rest = (xs : List ℕ) × (tail : List ℕ) × (more : List ℕ)
    × FewerSamples count m (last ∷ rest) xs tail × (is_gap (tail ++ more) ≡ true)

-- The sample with this index is the first above m.
abbrev pub HasAbove : Form → ℕ → ℕ → ℕ → List ℕ → ℕ → Type 0
HasAbove Raw count m last rest i = (xs : List ℕ) × (more : List ℕ)
    × (length xs ≡ count) × (rest ≡ raster m xs ++ more) × IsFirstAbove m xs i
HasAbove Plain count m last rest i =
    (xs : List ℕ) × (tail : List ℕ) × (x : ℕ) × (sample : List ℕ) × (more : List ℕ)
    × FewerSamples count m (last ∷ rest) xs tail × AreNumbers (x ∷ []) sample × EndsNumber more
    × (tail ≡ sample ++ more) × (m < x) × (length xs ≡ i)

-- After some plain samples a byte cannot stand in the gap, in the number or directly after it.
-- `end` is how many bytes there are from the image's first one on.
abbrev pub HasBad : Form → ℕ → ℕ → ℕ → List ℕ → ℕ → ℕ → Type 0
HasBad Raw count m last rest end at = ⊥
HasBad Plain count m last rest end at = (xs : List ℕ) × (tail : List ℕ) × (k : ℕ)
    × FewerSamples count m (last ∷ rest) xs tail × StopsAt IsEndedNumber tail k × (k < length tail)
    × (at ≡ (end - length tail) + k)

-- Why no image is at the front. Out of memory comes only behind a header within the limits.
abbrev pub RefusesFront : List ℕ → PgmError → Type 0
RefusesFront bytes OutOfMemory = AfterHeader (λ h. FitNumbers h.width h.height h.maxval) bytes
RefusesFront bytes NotPgm = (form : Form) (rest : List ℕ) → bytes ≡ magic form ++ rest → ⊥
RefusesFront bytes (BadHeader at) =
    ((form : Form) × (rest : List ℕ) × (bytes ≡ magic form ++ rest)) × StopsAt IsAnyHeader bytes at
RefusesFront bytes ZeroSize = AfterHeader (λ h. (h.width ≡ 0) ⊎ (h.height ≡ 0)) bytes
RefusesFront bytes TooLarge = AfterHeader (λ h. IsTooLarge h.width h.height) bytes
RefusesFront bytes BadMaxval =
    AfterHeader (λ h. SizeFits h.width h.height × ((h.maxval ≡ 0) ⊎ (maxval_limit < h.maxval)))
    bytes
RefusesFront bytes Truncated =
    AfterHeader (λ h. FitNumbers h.width h.height h.maxval
    × EndsEarly h.form (h.width * h.height) h.maxval h.last h.rest) bytes
RefusesFront bytes (SampleAboveMax i) =
    AfterHeader (λ h. FitNumbers h.width h.height h.maxval
    × HasAbove h.form (h.width * h.height) h.maxval h.last h.rest i) bytes
RefusesFront bytes (BadSample at) =
    AfterHeader (λ h. FitNumbers h.width h.height h.maxval
    × HasBad h.form (h.width * h.height) h.maxval h.last h.rest (length bytes) at) bytes

-- what the format says of some bytes: their image, or its refusal
abbrev pub IsReadingOf : List ℕ → Result (Picture × ℕ) PgmError → Type 0
IsReadingOf bytes (Ok x) = Front bytes x.0 x.1
IsReadingOf bytes (Err OutOfMemory) = ⊥
IsReadingOf bytes (Err e) = RefusesFront bytes e
