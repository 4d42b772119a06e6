-- Why a command was refused: the first cause in the order first image, second image, sizes, seeds,
-- levels, moves, writing.
use Rattle.std.specs.Prelude.{◌≡◌, ℕ, ◌<◌, ◌⊎◌, ⊤, List}
use Rattle.byte_streams.specs.Streams.{Stream}
use Rattle.byte_streams.specs.declared.sink.WriteFailed.{WriteFailed}
use Rattle.one_move.specs.declared.error.MoveError.{MoveError}
use Rattle.one_move.specs.declared.error.MoveError.TheVariants as move
use Rattle.cut_ways.specs.declared.solve_error.SolveError.{SolveError}
use Rattle.moves.specs.Problems.{IsRunRefusal}
use Rattle.pgm_image.specs.Front.{RefusesFront}
use Rattle.pgm_image.specs.Picture.{Picture}
use Rattle.pgm_image.specs.Raster.{IsFirstAbove}
use Rattle.pgm_image.specs.declared.error.PgmError.{PgmError}
use Rattle.pgm_image.specs.declared.error.PgmError.TheVariants as image
use Rattle.pgm_image.specs.declared.error.WriteError.{WriteError}
use Rattle.pgm_image.specs.declared.error.WriteError.TheVariants as write
use Rattle.run_options.specs.declared.options.RestoreOptions.{RestoreOptions}
use Rattle.run_options.specs.declared.options.StereoOptions.{StereoOptions}
use Rattle.run_options.specs.declared.options.SegmentOptions.{SegmentOptions}
use Rattle.vision.specs.Inputs.{HoldsPicture, HoldsTwo, SameSizes, RefusesSecond, IsRestoreJob}
use Rattle.vision.specs.Inputs.{IsStereoJob, IsSegmentJob}
use Rattle.vision.specs.Jobs.{Job, RefusesMove, StopsAfter}
use Rattle.vision.specs.declared.error.VisionError.{VisionError}
use Rattle.vision.specs.declared.error.VisionError.TheVariants.{OutOfMemory, Image, SizesDiffer}
use Rattle.vision.specs.declared.error.VisionError.TheVariants.{BadSeed, TooManyLevels}
use Rattle.vision.specs.declared.error.VisionError.TheVariants.{PairNotRegular, LabelCostInSwap}
use Rattle.vision.specs.declared.error.VisionError.TheVariants.{Workers, BadOptions, Write}

-- why there is no image, as a command tells it: memory as memory, whoever asked for it
abbrev pub image_error : PgmError → VisionError
image_error image.OutOfMemory = OutOfMemory
image_error reason = Image reason

-- the error tells why a run was refused: never for a label, nor for want of a bound
abbrev pub TellsRun : MoveError → VisionError → Type 0
TellsRun move.OutOfMemory e = e ≡ OutOfMemory
TellsRun move.LabelCostInSwap e = e ≡ LabelCostInSwap
TellsRun (move.PairNotRegular pair alpha beta) e = e ≡ PairNotRegular pair alpha beta
TellsRun move.Workers e = e ≡ Workers
TellsRun move.BadOptions e = e ≡ BadOptions
TellsRun move.NoSuchLabel e = ⊥
TellsRun move.NoBound e = ⊥

-- why a picture was not written whole
abbrev pub write_error : WriteError → VisionError
write_error (write.WriteFailed count) = Write (record { count = count })

-- whatever refuses a cut
abbrev pub any_cut : SolveError → Type 0
any_cut error = ⊤

-- there is no image, for a reason of this kind
abbrev pub HasNoImage : (PgmError → Type 0) → VisionError → Type 0
HasNoImage Refused e = (reason : PgmError) × Refused reason × (e ≡ image_error reason)

-- no image is at the front of the input
abbrev pub HasImageError : List ℕ → VisionError → Type 0
HasImageError input e = HasNoImage (RefusesFront input) e

-- no image is at the front of the input or none behind it, or the two differ in size
abbrev pub HasPairError : List ℕ → VisionError → Type 0
HasPairError input e = HasNoImage
    (λ reason. RefusesFront input reason ⊎ RefusesSecond input reason) e
    ⊎ (((a : Picture) × (b : Picture) × HoldsTwo input a b × (¬ SameSizes a b)) × (e ≡ SizesDiffer))

-- the run of a job was refused: memory may always be, and a move for a pair, for a label's cost, or
-- for its cut
abbrev pub HasRunError : (SolveError → Type 0) → Job → VisionError → Type 0
HasRunError refuses job e = (e ≡ OutOfMemory)
    ⊎ ((error : MoveError) × IsRunRefusal refuses error × RefusesMove job error × TellsRun error e)

-- the same of a job that an input names
abbrev pub HasJobError : (SolveError → Type 0) → (Job → Type 0) → VisionError → Type 0
HasJobError refuses IsJob e = (job : Job) × IsJob job × HasRunError refuses job e

-- why nothing was written
abbrev pub HasRestoreError : (SolveError → Type 0) → RestoreOptions → List ℕ → VisionError → Type 0
HasRestoreError refuses o input e = HasImageError input e
    ⊎ ((((p : Picture) × HoldsPicture input p × (255 < p.maxval)) × (e ≡ TooManyLevels))
    ⊎ HasJobError refuses (IsRestoreJob o input) e)

abbrev pub HasStereoError : (SolveError → Type 0) → StereoOptions → List ℕ → VisionError → Type 0
HasStereoError refuses o input e =
    HasPairError input e ⊎ HasJobError refuses (IsStereoJob o input) e

-- the first seed above 2 has this index
abbrev pub HasBadSeed : List ℕ → ℕ → Type 0
HasBadSeed input index =
    (p : Picture) × (seeds : Picture) × HoldsTwo input p seeds × SameSizes p seeds
    × IsFirstAbove 2 seeds.samples index

abbrev pub HasSegmentError : (SolveError → Type 0) → SegmentOptions → List ℕ → VisionError → Type 0
HasSegmentError refuses o input e = HasPairError input e
    ⊎ (((index : ℕ) × HasBadSeed input index × (e ≡ BadSeed index))
    ⊎ HasJobError refuses (IsSegmentJob o input) e)

-- the writer failed, after so many bytes of which this holds
abbrev pub IsStop : (ℕ → Type 0) → VisionError → Type 0
IsStop After e = (failed : WriteFailed) × After failed.count × (e ≡ Write failed)

-- a refusal leaves the writer as it was, unless the writer failed: then it took the first bytes of
-- the picture's written form, as many as are told
abbrev pub LeavesWriter : (Job → Type 0) → (VisionError → Type 0) → Stream → Stream
    → VisionError → Type 0
LeavesWriter IsJob HasError old new e = HasError e
    ⊎ ((job : Job) × IsJob job × IsStop (StopsAfter job old new) e)

abbrev pub IsWrite : VisionError → Type 0
IsWrite (Write failed) = ⊤
IsWrite e = ⊥

-- the refusal is that of a pair whose term is not regular
abbrev pub IsOfPair : VisionError → Type 0
IsOfPair (PairNotRegular pair alpha beta) = ⊤
IsOfPair e = ⊥
