-- What an input of images is.
use Rattle.std.specs.Prelude.{◌≡◌, ℕ, ◌+◌, ◌<◌, ◌≤◌, true, false, List, length, drop, slice_index}
use Rattle.std.specs.List.{All}
use Rattle.pgm_image.specs.Front.{Front, RefusesFront}
use Rattle.pgm_image.specs.Picture.{Picture}
use Rattle.pgm_image.specs.Signs.{is_space}
use Rattle.pgm_image.specs.declared.error.PgmError.{PgmError}
use Rattle.pgm_image.specs.declared.error.PgmError.TheVariants.{BadHeader, BadSample}
use Rattle.run_options.specs.declared.options.RestoreOptions.{RestoreOptions}
use Rattle.run_options.specs.declared.options.StereoOptions.{StereoOptions}
use Rattle.run_options.specs.declared.options.SegmentOptions.{SegmentOptions}
use Rattle.vision.specs.Jobs.{Job, restore_job, stereo_job, segment_job}

-- the input begins with this picture
abbrev pub HoldsPicture : List ℕ → Picture → Type 0
HoldsPicture input p = (used : ℕ) × Front input p used

-- from one place on all is white space up to the other, where the input ends or something else
-- stands
pub record IsPastSpaces (input : List ℕ) (from at : ℕ) : Type 0 where
  pub ordered : from ≤ at
  pub within : at ≤ length input
  pub spaces : (k : ℕ) → from ≤ k → k < at → is_space (slice_index input k) ≡ true
  pub stops : at < length input → is_space (slice_index input at) ≡ false

-- the input begins with this picture, and behind the white space after it a second one is to begin
-- at this place
pub record BeginsSecond (input : List ℕ) (first : Picture) (at : ℕ) : Type 0 where
  pub used : ℕ
  pub front : Front input first used
  pub past : IsPastSpaces input used at

-- the input begins with these two pictures, with nothing but white space between them
abbrev pub HoldsTwo : List ℕ → Picture → Picture → Type 0
HoldsTwo input first second =
    (at : ℕ) × BeginsSecond input first at × HoldsPicture (drop at input) second

abbrev pub SameSizes : Picture → Picture → Type 0
SameSizes a b = (a.width ≡ b.width) × (a.height ≡ b.height)

-- the refusal of an image that begins at this place, its position counted from the first byte of
-- the input
abbrev pub refusal_from : ℕ → PgmError → PgmError
refusal_from at (BadHeader k) = BadHeader (at + k)
refusal_from at (BadSample k) = BadSample (at + k)
refusal_from at e = e

-- that position, where there is one
abbrev pub position_of : PgmError → ℕ
position_of (BadHeader k) = k
position_of (BadSample k) = k
position_of e = 0

-- an image is at the front, and none where the second is to begin
pub record RefusesSecond (input : List ℕ) (e : PgmError) : Type 0 where
  pub first : Picture
  pub at : ℕ
  pub own : PgmError
  pub begins : BeginsSecond input first at
  pub refuses : RefusesFront (drop at input) own
  pub e_is : e ≡ refusal_from at own

-- the job that options and an input name
abbrev pub IsRestoreJob : RestoreOptions → List ℕ → Job → Type 0
IsRestoreJob o input job =
    (p : Picture) × HoldsPicture input p × (p.maxval ≤ 255) × (job ≡ restore_job o p)

abbrev pub IsStereoJob : StereoOptions → List ℕ → Job → Type 0
IsStereoJob o input job =
    (left : Picture) × (right : Picture) × HoldsTwo input left right × SameSizes left right
    × (job ≡ stereo_job o left right)

-- each seed is 0, 1 or 2
abbrev pub AreSeeds : Picture → Type 0
AreSeeds seeds = All (λ seed. seed ≤ 2) seeds.samples

abbrev pub IsSegmentJob : SegmentOptions → List ℕ → Job → Type 0
IsSegmentJob o input job =
    (p : Picture) × (seeds : Picture) × HoldsTwo input p seeds × SameSizes p seeds × AreSeeds seeds
    × (job ≡ segment_job o p seeds)
