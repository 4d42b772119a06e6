-- Of which kind the program's faults are: those of the libraries are no writer's and of no option,
-- and one alone is a reader's.
use Rattle.std.proofs.Common.{◌≡◌, ◌⊎◌, inl, inr, ℕ, false, List, refl, sym, ◌∙◌, ap, subst}
use Rattle.byte_streams.specs.Input.{IsReadRefusal, is_fault}
use Rattle.byte_streams.specs.declared.input.ReadError.{ReadError}
use Rattle.byte_streams.specs.declared.input.ReadError.TheVariants as read
use Rattle.problem_files.specs.Text.{HasFault}
use Rattle.problem_files.specs.Names.{Problem}
use Rattle.problem_files.specs.declared.energy_fault.EnergyFault.{EnergyFault}
use Rattle.problem_files.specs.declared.energy_fault.EnergyFault.TheVariants as energy
use Rattle.problem_files.specs.declared.label_fault.LabelFault.{LabelFault}
use Rattle.problem_files.specs.declared.label_fault.LabelFault.TheVariants as label
use Rattle.pgm_image.specs.declared.error.PgmError.{PgmError}
use Rattle.pgm_image.specs.declared.error.PgmError.TheVariants as image
use Rattle.pseudo_bool.specs.Energies.{Energy as YesNoEnergy}
use Rattle.cut_ways.specs.declared.solve_error.SolveError.{SolveError}
use Rattle.cut_ways.specs.declared.solve_error.SolveError.TheVariants as solve
use Rattle.one_move.specs.declared.error.MoveError.{MoveError}
use Rattle.one_move.specs.declared.error.MoveError.TheVariants as move
use Rattle.run_options.specs.declared.options.RestoreOptions.{RestoreOptions}
use Rattle.run_options.specs.declared.options.StereoOptions.{StereoOptions}
use Rattle.run_options.specs.declared.options.SegmentOptions.{SegmentOptions}
use Rattle.pgm_image.specs.Front.{RefusesFront}
use Rattle.vision.specs.Faults.{HasJobError, HasNoImage, HasPairError, HasRestoreError, HasRunError, HasSegmentError, HasStereoError, IsWrite, TellsRun, image_error}
use Rattle.vision.specs.Inputs.{IsRestoreJob, IsSegmentJob, IsStereoJob, RefusesSecond}
use Rattle.vision.specs.Jobs.{Job}
use Rattle.vision.specs.declared.error.VisionError.{VisionError}
use Rattle.vision.specs.declared.error.VisionError.TheVariants as vision
use Rattle.command_line.specs.declared.task.PictureOptions.{PictureOptions}
use Rattle.command_line.specs.declared.task.PictureOptions.TheVariants.{Restore, Stereo, Segment}
use Rattle.command_line.specs.declared.task.Task.{Task}
use Rattle.command_line.specs.declared.task.Task.TheVariants.{Energy, Label, Picture}
use Rattle.program_tasks.specs.Commands.{HasFaultFor}
use Rattle.program_tasks.specs.Energy.{HasEnergyFault, HasFileFault, IsUnsolved}
use Rattle.program_texts.specs.Faults.{IsCutFault}
use Rattle.program_tasks.specs.Faults.{TellsMove, picture_fault}
use Rattle.program_texts.specs.Faults.{TellsError, cut_fault, energy_fault, label_fault, read_fault}
use Rattle.program_tasks.specs.Label.{HasLabelFault, HasProblemFault, HasReadingFault, IsRunFault}
use Rattle.program_tasks.specs.Pictures.{HasPictureError, HasPictureFault}
use Rattle.program_tasks.specs.Refusals.{is_bad_option, is_failed_read, is_write}
use Rattle.program_texts.specs.declared.fault.Fault.{Fault}

-- no sink failed, and no option is bad
abbrev pub IsOwn : Fault → Type 0
IsOwn fault = (is_write fault ≡ false) × (is_bad_option fault ≡ false)

-- nor did the source fail
abbrev pub IsPlain : Fault → Type 0
IsPlain fault = (is_failed_read fault ≡ false) × IsOwn fault

pub read_own : (e : ReadError) → IsOwn (read_fault e)
read_own read.OutOfMemory = (refl, refl)
read_own read.ReadFailed = (refl, refl)
read_own read.InputTooLong = (refl, refl)

-- a read failed exactly where its fault says so
pub read_failed : (e : ReadError) → is_failed_read (read_fault e) ≡ is_fault e
read_failed read.OutOfMemory = refl
read_failed read.ReadFailed = refl
read_failed read.InputTooLong = refl

pub energy_plain : (e : EnergyFault) → IsPlain (energy_fault e)
energy_plain energy.OutOfMemory = (refl, (refl, refl))
energy_plain energy.BadToml = (refl, (refl, refl))
energy_plain (energy.BadField key) = (refl, (refl, refl))
energy_plain (energy.BadElement key place) = (refl, (refl, refl))
energy_plain (energy.NoSuchVariable term) = (refl, (refl, refl))
energy_plain (energy.SameVariable term) = (refl, (refl, refl))
energy_plain (energy.ValueRange term) = (refl, (refl, refl))
energy_plain energy.ConstantRange = (refl, (refl, refl))
energy_plain energy.TooManyTerms = (refl, (refl, refl))

pub label_plain : (e : LabelFault) → IsPlain (label_fault e)
label_plain label.OutOfMemory = (refl, (refl, refl))
label_plain label.BadToml = (refl, (refl, refl))
label_plain (label.BadField key) = (refl, (refl, refl))
label_plain (label.BadElement key place) = (refl, (refl, refl))
label_plain (label.CostRange key place) = (refl, (refl, refl))
label_plain (label.NoSuchSite pair) = (refl, (refl, refl))
label_plain (label.SamePair pair) = (refl, (refl, refl))
label_plain label.TooManyPairs = (refl, (refl, refl))
label_plain (label.WeightRange pair) = (refl, (refl, refl))
label_plain (label.NoSuchLabel site) = (refl, (refl, refl))

cut_plain : (e : SolveError) → IsPlain (cut_fault e)
cut_plain solve.OutOfMemory = (refl, (refl, refl))
cut_plain solve.Workers = (refl, (refl, refl))
cut_plain solve.BadOptions = (refl, (refl, refl))

-- what is one of these is of their kind
same : (P : Fault → Type 0) (fault other : Fault) → fault ≡ other → P other → P fault
same P fault other is h = subst P (sym is) h

move_plain : (e : MoveError) (fault : Fault) → TellsMove e fault → IsPlain fault
move_plain move.OutOfMemory fault is = same IsPlain fault _ is (refl, (refl, refl))
move_plain move.LabelCostInSwap fault is = same IsPlain fault _ is (refl, (refl, refl))
move_plain (move.PairNotRegular pair alpha beta) fault is = same IsPlain fault _ is (refl, (refl, refl))
move_plain move.Workers fault is = same IsPlain fault _ is (refl, (refl, refl))
move_plain move.BadOptions fault is = same IsPlain fault _ is (refl, (refl, refl))
move_plain move.NoSuchLabel fault is = absurd is
move_plain move.NoBound fault is = absurd is

pub picture_plain : (e : VisionError) → (¬ IsWrite e) → IsPlain (picture_fault e)
picture_plain vision.OutOfMemory other = (refl, (refl, refl))
picture_plain (vision.Image reason) other = (refl, (refl, refl))
picture_plain vision.SizesDiffer other = (refl, (refl, refl))
picture_plain (vision.BadSeed index) other = (refl, (refl, refl))
picture_plain vision.TooManyLevels other = (refl, (refl, refl))
picture_plain (vision.PairNotRegular pair alpha beta) other = (refl, (refl, refl))
picture_plain vision.LabelCostInSwap other = (refl, (refl, refl))
picture_plain vision.Workers other = (refl, (refl, refl))
picture_plain vision.BadOptions other = (refl, (refl, refl))
picture_plain (vision.Write failed) other = absurd (other tt)

-- no read failed where an image command was refused
pub picture_unread : (e : VisionError) → is_failed_read (picture_fault e) ≡ false
picture_unread vision.OutOfMemory = refl
picture_unread (vision.Image reason) = refl
picture_unread vision.SizesDiffer = refl
picture_unread (vision.BadSeed index) = refl
picture_unread vision.TooManyLevels = refl
picture_unread (vision.PairNotRegular pair alpha beta) = refl
picture_unread vision.LabelCostInSwap = refl
picture_unread vision.Workers = refl
picture_unread vision.BadOptions = refl
picture_unread (vision.Write failed) = refl

-- nothing that an input has is a writer's
as_told : (e told : VisionError) → e ≡ told → (¬ IsWrite told) → ¬ IsWrite e
as_told e told is other = λ writes. other (subst IsWrite is writes)

reason_not_write : (reason : PgmError) → ¬ IsWrite (image_error reason)
reason_not_write image.OutOfMemory = λ w. w
reason_not_write image.NotPgm = λ w. w
reason_not_write (image.BadHeader at) = λ w. w
reason_not_write image.ZeroSize = λ w. w
reason_not_write image.TooLarge = λ w. w
reason_not_write image.BadMaxval = λ w. w
reason_not_write image.Truncated = λ w. w
reason_not_write (image.SampleAboveMax index) = λ w. w
reason_not_write (image.BadSample at) = λ w. w

run_not_write : (error : MoveError) (e : VisionError) → TellsRun error e → ¬ IsWrite e
run_not_write move.OutOfMemory e is = as_told e vision.OutOfMemory is (λ w. w)
run_not_write move.LabelCostInSwap e is = as_told e vision.LabelCostInSwap is (λ w. w)
run_not_write (move.PairNotRegular pair alpha beta) e is = as_told e (vision.PairNotRegular pair alpha beta) is (λ w. w)
run_not_write move.Workers e is = as_told e vision.Workers is (λ w. w)
run_not_write move.BadOptions e is = as_told e vision.BadOptions is (λ w. w)
run_not_write move.NoSuchLabel e is = absurd is
run_not_write move.NoBound e is = absurd is

image_not_write : (Refused : PgmError → Type 0) (e : VisionError) → HasNoImage Refused e → ¬ IsWrite e
image_not_write Refused e has = as_told e (image_error has.0) has.2 (reason_not_write has.0)

pair_not_write : (input : List ℕ) (e : VisionError) → HasPairError input e → ¬ IsWrite e
pair_not_write input e (inl has) = image_not_write (λ reason. RefusesFront input reason ⊎ RefusesSecond input reason) e has
pair_not_write input e (inr has) = as_told e vision.SizesDiffer has.1 (λ w. w)

job_error : (refuses : SolveError → Type 0) (job : Job) (e : VisionError) → HasRunError refuses job e → ¬ IsWrite e
job_error refuses job e (inl is) = as_told e vision.OutOfMemory is (λ w. w)
job_error refuses job e (inr has) = run_not_write has.0 e has.3

job_not_write : (refuses : SolveError → Type 0) (IsJob : Job → Type 0) (e : VisionError) → HasJobError refuses IsJob e → ¬ IsWrite e
job_not_write refuses IsJob e has = job_error refuses has.0 e has.2

restore_not_write : (refuses : SolveError → Type 0) (o : RestoreOptions) (input : List ℕ) (e : VisionError) → HasRestoreError refuses o input e → ¬ IsWrite e
restore_not_write refuses o input e (inl has) = image_not_write (RefusesFront input) e has
restore_not_write refuses o input e (inr (inl has)) = as_told e vision.TooManyLevels has.1 (λ w. w)
restore_not_write refuses o input e (inr (inr has)) = job_not_write refuses (IsRestoreJob o input) e has

stereo_not_write : (refuses : SolveError → Type 0) (o : StereoOptions) (input : List ℕ) (e : VisionError) → HasStereoError refuses o input e → ¬ IsWrite e
stereo_not_write refuses o input e (inl has) = pair_not_write input e has
stereo_not_write refuses o input e (inr has) = job_not_write refuses (IsStereoJob o input) e has

segment_not_write : (refuses : SolveError → Type 0) (o : SegmentOptions) (input : List ℕ) (e : VisionError) → HasSegmentError refuses o input e → ¬ IsWrite e
segment_not_write refuses o input e (inl has) = pair_not_write input e has
segment_not_write refuses o input e (inr (inl has)) = as_told e (vision.BadSeed has.0) has.2 (λ w. w)
segment_not_write refuses o input e (inr (inr has)) = job_not_write refuses (IsSegmentJob o input) e has

pub error_not_write : (refuses : SolveError → Type 0) (o : PictureOptions) (input : List ℕ) (e : VisionError) → HasPictureError refuses o input e → ¬ IsWrite e
error_not_write refuses (Restore o) input e has = restore_not_write refuses o input e has
error_not_write refuses (Stereo o) input e has = stereo_not_write refuses o input e has
error_not_write refuses (Segment o) input e has = segment_not_write refuses o input e has

-- what a fault tells of is of its kind
told : {E : Type 0} (P : Fault → Type 0) (tell : E → Fault) (Holds : E → Type 0) (fault : Fault) → ((e : E) → P (tell e))
    → TellsError tell Holds fault → P fault
told P tell Holds fault each h = same P fault (tell h.0) h.2 (each h.0)

pub cut_fault_plain : (refuses : SolveError → Type 0) (fault : Fault) → IsCutFault refuses fault → IsPlain fault
cut_fault_plain refuses fault (inl is) = same IsPlain fault _ is (refl, (refl, refl))
cut_fault_plain refuses fault (inr h) = told IsPlain cut_fault refuses fault cut_plain h

pub cut_unread : (refuses : SolveError → Type 0) (fault : Fault) → IsCutFault refuses fault → is_failed_read fault ≡ false
cut_unread refuses fault h = (cut_fault_plain refuses fault h).0

unsolved_own : (refuses : SolveError → Type 0) (e : YesNoEnergy) (fault : Fault) → IsUnsolved refuses e fault → IsOwn fault
unsolved_own refuses e fault (inl h) = same IsOwn fault _ h.2 (refl, refl)
unsolved_own refuses e fault (inr h) = (cut_fault_plain refuses fault h.1).1

file_own : (input : List ℕ) (fault : Fault) → HasFileFault input fault → IsOwn fault
file_own input fault (inl h) = told IsOwn read_fault (IsReadRefusal input) fault read_own h
file_own input fault (inr h) = (told IsPlain energy_fault (HasFault input) fault energy_plain h.1).1

energy_own : (refuses : SolveError → Type 0) (input : List ℕ) (fault : Fault) → HasEnergyFault refuses input fault → IsOwn fault
energy_own refuses input fault (inl h) = file_own input fault h
energy_own refuses input fault (inr h) = unsolved_own refuses h.0 fault h.2

pub run_fault_plain : (refuses : SolveError → Type 0) (p : Problem) (fault : Fault) → IsRunFault refuses p fault → IsPlain fault
run_fault_plain refuses p fault (inl is) = same IsPlain fault _ is (refl, (refl, refl))
run_fault_plain refuses p fault (inr h) = move_plain h.0 fault h.3

pub run_unread : (refuses : SolveError → Type 0) (p : Problem) (fault : Fault) → IsRunFault refuses p fault → is_failed_read fault ≡ false
run_unread refuses p fault h = (run_fault_plain refuses p fault h).0

reading_own : (input : List ℕ) (fault : Fault) → HasReadingFault input fault → IsOwn fault
reading_own input fault (inl h) = told IsOwn read_fault (IsReadRefusal input) fault read_own h
reading_own input fault (inr h) = (told IsPlain label_fault (HasProblemFault input) fault label_plain h.1).1

labels_own : (refuses : SolveError → Type 0) (input : List ℕ) (fault : Fault) → HasLabelFault refuses input fault → IsOwn fault
labels_own refuses input fault (inl h) = reading_own input fault h
labels_own refuses input fault (inr h) = (run_fault_plain refuses h.0 fault h.2).1

picture_own : (refuses : SolveError → Type 0) (o : PictureOptions) (input : List ℕ) (fault : Fault) → HasPictureFault refuses o input fault → IsOwn fault
picture_own refuses o input fault (inl h) = told IsOwn read_fault (IsReadRefusal input) fault read_own h
picture_own refuses o input fault (inr h) = same IsOwn fault _ h.1.2 (picture_plain h.1.0 (error_not_write refuses o input h.1.0 h.1.1)).1

-- a fault that an input has is no writer's and of no option
pub task_own : (refuses : SolveError → Type 0) (task : Task) (input : List ℕ) (fault : Fault) → HasFaultFor refuses task input fault → IsOwn fault
task_own refuses Energy input fault h = energy_own refuses input fault h
task_own refuses (Label bound) input fault h = labels_own refuses input fault h
task_own refuses (Picture o) input fault h = picture_own refuses o input fault h
