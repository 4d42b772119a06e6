-- Why a call is refused, and the numbers that tell it. Each cause is told where what comes before
-- it is in order: so it is told exactly where it holds and none before it does, or memory is
-- wanting.
use Rattle.std.specs.Prelude.{◌≡◌, ◌⊎◌, ◌<◌, ℕ, List, All, length, Option, Some, None, pos}
use Rattle.pgm_image.specs.declared.error.PgmError.{PgmError}
use Rattle.pgm_image.specs.declared.error.PgmError.TheVariants as image
use Rattle.cut_ways.specs.declared.solve_error.SolveError.{SolveError}
use Rattle.cut_ways.specs.declared.solve_error.SolveError.TheVariants.{OutOfMemory as NoMemory}
use Rattle.vision.specs.Jobs.{Job}
use Rattle.vision.specs.declared.error.VisionError.{VisionError}
use Rattle.vision.specs.declared.error.VisionError.TheVariants as vision
use Rattle.vision.specs.declared.report.Report.{Report}
use Rattle.gco_pictures.specs.Answers.{IsPictureMade}
use Rattle.gco_pictures.specs.Options.{IsFirstWrong, IsOptionInRange}
use Rattle.gco_pictures.specs.declared.options.Ranged.{Ranged}
use Rattle.gco_pictures.specs.declared.refusal.Refusal.{Refusal}
use Rattle.gco_pictures.specs.declared.refusal.Refusal.TheVariants as why
use Rattle.gco_pictures.specs.declared.told.GcoPictureTold.{GcoPictureTold}

abbrev pub image_status : PgmError → ℕ
image_status image.OutOfMemory = 1
image_status image.NotPgm = 30
image_status (image.BadHeader at) = 31
image_status image.ZeroSize = 32
image_status image.TooLarge = 33
image_status image.BadMaxval = 34
image_status image.Truncated = 35
image_status (image.SampleAboveMax index) = 36
image_status (image.BadSample at) = 37

abbrev pub refusal_status : Refusal → ℕ
refusal_status why.OutOfMemory = 1
refusal_status (why.NotRegular pair alpha beta) = 24
refusal_status why.LabelCostInSwap = 27
refusal_status (why.Image reason) = image_status reason
refusal_status why.SizesDiffer = 38
refusal_status (why.BadSeed index) = 39
refusal_status why.TooManyLevels = 40
refusal_status (why.OptionRange place) = 41
refusal_status (why.NoRoom bytes) = 42

-- the place that a refusal tells, or 0
abbrev pub image_place : PgmError → ℕ
image_place (image.BadHeader at) = at
image_place (image.SampleAboveMax index) = index
image_place (image.BadSample at) = at
image_place _ = 0

abbrev pub refusal_place : Refusal → ℕ
refusal_place (why.NotRegular pair alpha beta) = pair
refusal_place (why.Image reason) = image_place reason
refusal_place (why.BadSeed index) = index
refusal_place (why.OptionRange place) = place
refusal_place _ = 0

-- the labels of the move that it tells, twice the one of an expansion
abbrev pub last_label : ℕ → Option ℕ → ℕ
last_label alpha None = alpha
last_label alpha (Some beta) = beta

abbrev pub refusal_labels : Refusal → ℕ × ℕ
refusal_labels (why.NotRegular pair alpha beta) = (alpha, last_label alpha beta)
refusal_labels _ = (0, 0)

-- how many bytes it tells that are wanted
abbrev pub refusal_bytes : Refusal → ℕ
refusal_bytes (why.NoRoom bytes) = bytes
refusal_bytes _ = 0

-- the status and what is told beside it tell a refusal, and nothing else
pub record TellsRefusal (refusal : Refusal) (status : ℕ) (told : GcoPictureTold) : Type 0 where
  pub status_is : status ≡ refusal_status refusal
  pub told_is : told ≡ record {
    energy = pos 0;
    «data» = pos 0;
    smooth = pos 0;
    label = pos 0;
    bytes = refusal_bytes refusal;
    place = refusal_place refusal;
    vmin = 0;
    vmax = 0;
    alpha = (refusal_labels refusal).0;
    beta = (refusal_labels refusal).1;
  }

-- why a cut is refused where it is made without workers
abbrev pub alone : SolveError → Type 0
alone e = e ≡ NoMemory

-- the refusal of a call whose image command was refused; the buffer that the picture is written to
-- fails for want of memory alone
abbrev pub vision_refusal : VisionError → Refusal
vision_refusal (vision.Image reason) = why.Image reason
vision_refusal vision.SizesDiffer = why.SizesDiffer
vision_refusal (vision.BadSeed index) = why.BadSeed index
vision_refusal vision.TooManyLevels = why.TooManyLevels
vision_refusal (vision.PairNotRegular pair alpha beta) = why.NotRegular pair alpha beta
vision_refusal vision.LabelCostInSwap = why.LabelCostInSwap
vision_refusal _ = why.OutOfMemory

-- the first option out of its range; or memory, or an error that the command has
abbrev pub IsCause : List Ranged → (VisionError → Type 0) → Refusal → Type 0
IsCause numbers HasError refusal =
    ((place : ℕ) × IsFirstWrong numbers place × (refusal ≡ why.OptionRange place))
    ⊎ (All IsOptionInRange numbers × ((refusal ≡ why.OutOfMemory)
    ⊎ ((e : VisionError) × HasError e × (refusal ≡ vision_refusal e))))

-- the picture was made, and is longer than the buffer
abbrev pub LacksRoom : (Job → Type 0) → ℕ → Refusal → Type 0
LacksRoom IsJob room refusal =
    (bytes : List ℕ) × (report : Report) × IsPictureMade IsJob bytes report
    × (room < length bytes) × (refusal ≡ why.NoRoom (length bytes))

-- a refusal is told, and its cause holds
pub record IsPictureRefused (numbers : List Ranged) (HasError : VisionError → Type 0)
    (IsJob : Job → Type 0) (room status : ℕ) (told : GcoPictureTold) : Type 0 where
  pub refusal : Refusal
  pub is_told : TellsRefusal refusal status told
  pub cause : IsCause numbers HasError refusal
      ⊎ (All IsOptionInRange numbers × LacksRoom IsJob room refusal)
