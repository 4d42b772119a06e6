-- What is read, as functions on lists. The laws say that it is what the grammar says.
use Rattle.std.specs.Prelude.{ℕ, suc, zero, List, [], ◌∷◌, ◌++◌, length, take, drop, ◌≡◌, ◌≤◌, ◌+◌}
use Rattle.std.specs.Prelude.{◌-◌, ◌*◌, ◌==◌, ◌||◌, nat_lt, Option, Some, None, Result, Ok, Err}
use Rattle.std.specs.Prelude.{IsOk, ⊤, if◌then◌else◌}
use Rattle.pgm_image.specs.Picture.{Picture, picture, image_side_limit, sample_limit, maxval_limit}
use Rattle.pgm_image.specs.Raster.{raster_size, samples_in}
use Rattle.pgm_image.specs.Words.{number_at, numbers_at}
use Rattle.pgm_image.specs.declared.words.Place.TheVariants.{Start, Number}
use Rattle.pgm_image.specs.declared.words.Reading.{Reading}
use Rattle.pgm_image.specs.declared.words.Reading.TheVariants.{Whole, Cut, Stuck}
use Rattle.pgm_image.specs.declared.header.Header.{Header}
use Rattle.pgm_image.specs.declared.header.Form.{Form}
use Rattle.pgm_image.specs.declared.header.Form.TheVariants.{Raw, Plain}
use Rattle.pgm_image.specs.declared.plain.Fault.{Fault}
use Rattle.pgm_image.specs.declared.plain.Fault.TheVariants.{Ended, Bad}
use Rattle.pgm_image.specs.declared.error.PgmError.{PgmError}
use Rattle.pgm_image.specs.declared.error.PgmError.TheVariants.{OutOfMemory, NotPgm, BadHeader}
use Rattle.pgm_image.specs.declared.error.PgmError.TheVariants.{ZeroSize, TooLarge, BadMaxval}
use Rattle.pgm_image.specs.declared.error.PgmError.TheVariants.{Truncated, SampleAboveMax}
use Rattle.pgm_image.specs.declared.error.PgmError.TheVariants.{BadSample}

-- the form that the first two bytes tell, and what follows them
abbrev pub form_at : List ℕ → Option (Form × List ℕ)
form_at [] = None
form_at (a ∷ []) = None
form_at (a ∷ b ∷ rest) =
    if a == 80 then (if b == 53 then Some (Raw, rest) else if b == 50 then Some
    (Plain, rest) else None)
    else None

-- the first of the limits that a header breaks
abbrev pub check_limits : Header → Result (Unit {0}) PgmError
check_limits h =
    if (h.width == 0) || (h.height == 0) then Err ZeroSize
    else if nat_lt image_side_limit h.width || nat_lt image_side_limit h.height
    || nat_lt sample_limit (h.width * h.height)
    then Err TooLarge
    else if (h.maxval == 0) || nat_lt maxval_limit h.maxval then Err BadMaxval
    else Ok tt

abbrev pub header_of : List ℕ → Header
header_of (w ∷ h ∷ m ∷ _) = record { width = w; height = h; maxval = m }
header_of _ = record { width = 0; height = 0; maxval = 0 }

abbrev pub with_header : Result (Unit {0}) PgmError → Form → Header → List ℕ
    → Result (Form × Header × List ℕ) PgmError
with_header (Ok u) form h rest = Ok (form, h, rest)
with_header (Err e) form h rest = Err e

abbrev pub after_numbers : Result (List ℕ × List ℕ) ℕ → Form → ℕ
    → Result (Form × Header × List ℕ) PgmError
after_numbers (Ok x) form end = with_header (check_limits (header_of x.0)) form (header_of x.0) x.1
after_numbers (Err left) form end = Err (BadHeader (end - left))

abbrev pub after_form : Option (Form × List ℕ) → ℕ → Result (Form × Header × List ℕ) PgmError
after_form None end = Err NotPgm
after_form (Some x) end = after_numbers (numbers_at 3 x.1) x.0 end

-- the header at the front, within the limits, and what follows from its last byte on
unfoldable pub header_at : List ℕ → Result (Form × Header × List ℕ) PgmError
header_at bytes = after_form (form_at bytes) (length bytes)

-- a refusal of a header
abbrev pub IsOfHeader : PgmError → Type 0
IsOfHeader OutOfMemory = ⊥
IsOfHeader Truncated = ⊥
IsOfHeader (SampleAboveMax i) = ⊥
IsOfHeader (BadSample at) = ⊥
IsOfHeader _ = ⊤

-- the value of a sample and what it leaves, or why there is none
abbrev pub sample_or_fault : Reading × List ℕ → Result (ℕ × List ℕ) Fault
sample_or_fault (Whole n, rest) = Ok (n, rest)
sample_or_fault (Cut (Number n), rest) = Ok (n, rest)
sample_or_fault (Cut _, rest) = Err Ended
sample_or_fault (Stuck, rest) = Err (Bad (length rest))

abbrev pub sample_at : List ℕ → Result (ℕ × List ℕ) Fault
sample_at bytes = sample_or_fault (number_at Start bytes)

abbrev pub fault_error : ℕ → Fault → PgmError
fault_error end Ended = Truncated
fault_error end (Bad left) = BadSample (end - left)

abbrev pub with_front : List ℕ → Result (List ℕ × List ℕ) PgmError
    → Result (List ℕ × List ℕ) PgmError
with_front xs (Ok y) = Ok (xs ++ y.0, y.1)
with_front xs (Err e) = Err e

-- `count` plain samples, the first of which has this index, and what follows them
unfoldable pub plain_at : ℕ → ℕ → ℕ → ℕ → List ℕ → Result (List ℕ × List ℕ) PgmError
plain_at zero m end i bytes = Ok ([], bytes)
plain_at (suc k) m end i bytes = elim (sample_at bytes) [
  | Ok x ↦ if nat_lt m x.0 then Err (SampleAboveMax i)
      else with_front (x.0 ∷ []) (plain_at k m end (i + 1) x.1)
  | Err f ↦ Err (fault_error end f)
]

-- the index of the first number above m, where the first number has this one
abbrev pub first_above : ℕ → ℕ → List ℕ → Option ℕ
first_above m i [] = None
first_above m i (x ∷ xs) = if nat_lt m x then Some i else first_above m (i + 1) xs

abbrev pub samples_or_fault : Option ℕ → List ℕ → List ℕ → Result (List ℕ × List ℕ) PgmError
samples_or_fault None xs rest = Ok (xs, rest)
samples_or_fault (Some i) xs rest = Err (SampleAboveMax i)

abbrev pub split_raster : ℕ → List ℕ → List ℕ → Result (List ℕ × List ℕ) PgmError
split_raster m front rest =
    samples_or_fault (first_above m 0 (samples_in m front)) (samples_in m front) rest

-- the samples of a raster, and what follows it
unfoldable pub raster_at : ℕ → ℕ → List ℕ → Result (List ℕ × List ℕ) PgmError
raster_at count m bytes =
    if nat_lt (length bytes) (raster_size count m) then Err Truncated
    else split_raster m (take (raster_size count m) bytes) (drop (raster_size count m) bytes)

-- the samples after a header, from its last byte on
abbrev pub samples_at : Form → ℕ → ℕ → ℕ → List ℕ → Result (List ℕ × List ℕ) PgmError
samples_at Raw count m end bytes = raster_at count m (drop 1 bytes)
samples_at Plain count m end bytes = plain_at count m end 0 bytes

abbrev pub image_of : Header → ℕ → Result (List ℕ × List ℕ) PgmError → Result (Picture × ℕ) PgmError
image_of h end (Ok x) = Ok (picture h.width h.height h.maxval x.0, end - length x.1)
image_of h end (Err e) = Err e

abbrev pub after_header : Result (Form × Header × List ℕ) PgmError → ℕ
    → Result (Picture × ℕ) PgmError
after_header (Ok x) end =
    image_of x.1 end (samples_at x.0 (x.1.width * x.1.height) x.1.maxval end x.2)
after_header (Err e) end = Err e

-- the image at the front, and how many bytes it takes
unfoldable pub image_at : List ℕ → Result (Picture × ℕ) PgmError
image_at bytes = after_header (header_at bytes) (length bytes)

-- the fault lies among so many last bytes
abbrev pub IsFaultWithin : Fault → ℕ → Type 0
IsFaultWithin Ended n = ⊤
IsFaultWithin (Bad left) n = left ≤ n

-- the refusal is this one, or out of memory
abbrev pub RefusesAs : {A : Type 0} → PgmError → Result A PgmError → Type 0
RefusesAs OutOfMemory r = ⊤
RefusesAs e r = r ≡ Err e

-- what is answered in place of an image; memory is asked for only behind a header within the limits
abbrev pub RefusesImage : PgmError → List ℕ → Type 0
RefusesImage OutOfMemory bytes = IsOk (header_at bytes)
RefusesImage e bytes = image_at bytes ≡ Err e
