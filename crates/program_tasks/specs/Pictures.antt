-- What the image commands are.
use Rattle.std.specs.Prelude.{◌≡◌, ◌≤◌, ◌⊎◌, ℕ, Bool, false, List, length, Option, IsTrue}
use Rattle.std.specs.Prelude.{is_some, unsigned_abs}
use Rattle.command_line.specs.declared.task.PictureOptions.{PictureOptions}
use Rattle.command_line.specs.declared.task.PictureOptions.TheVariants.{Restore, Stereo, Segment}
use Rattle.byte_streams.specs.Input.{IsReadRefusal, input_limit}
use Rattle.label_energies.specs.Energies.{data_energy, energy, label_energy, labelling}
use Rattle.label_energies.specs.Energies.{smooth_energy}
use Rattle.moves.specs.Runs.{TellsBound}
use Rattle.moves.specs.declared.bound.Bound.{Bound}
use Rattle.cut_ways.specs.declared.solve_error.SolveError.{SolveError}
use Rattle.pgm_image.specs.Written.{written_form}
use Rattle.vision.specs.Jobs.{EndsAt, Job, picture_of}
use Rattle.vision.specs.Faults.{HasRestoreError, HasSegmentError, HasStereoError}
use Rattle.vision.specs.Inputs.{IsRestoreJob, IsSegmentJob, IsStereoJob}
use Rattle.vision.specs.declared.error.VisionError.{VisionError}
use Rattle.vision.specs.declared.report.Report.{Report}
use Rattle.program_tasks.specs.Bounds.{near_of_bound}
use Rattle.program_tasks.specs.Faults.{picture_fault}
use Rattle.program_texts.specs.Faults.{TellsError, read_fault}
use Rattle.program_texts.specs.Lines.{picture_lines}
use Rattle.program_texts.specs.declared.fault.Fault.{Fault}
use Rattle.program_texts.specs.declared.lines.EnergyParts.{EnergyParts}

-- the energy of labels, and its parts
abbrev pub parts_at : Job → List ℕ → EnergyParts
parts_at job labels = record {
  energy = energy job.problem (labelling labels);
  «data» = data_energy job.problem (labelling labels);
  smooth = smooth_energy job.problem (labelling labels);
  label = label_energy job.problem (labelling labels);
}

-- those that a report tells
abbrev pub report_parts : Report → EnergyParts
report_parts report = record {
  energy = unsigned_abs report.energy;
  «data» = unsigned_abs report.data_part;
  smooth = unsigned_abs report.smooth_part;
  label = unsigned_abs report.label_part;
}

-- the text is the picture of the labels where the chain of the job ends, and what is said beside it
-- tells their energy, the part of the labels where it is to be told, and where that is asked for
-- how near the energy is to the least
pub record AnswersJob (tells : Bool) (job : Job) (text said : List ℕ) : Type 0 where
  pub labels : List ℕ
  pub ends : EndsAt job labels
  pub bound : Option Bound
  pub near : IsTrue job.bound → TellsBound job.problem job.moves labels ends.settled bound
  pub is : text ≡ written_form (picture_of job labels)
  pub says : said ≡ picture_lines tells job.bound (parts_at job labels) (near_of_bound bound)

-- the job that the options of an image command and an input name
abbrev pub IsPictureJob : PictureOptions → List ℕ → Job → Type 0
IsPictureJob (Restore o) input job = IsRestoreJob o input job
IsPictureJob (Stereo o) input job = IsStereoJob o input job
IsPictureJob (Segment o) input job = IsSegmentJob o input job

-- the error that the input has for these options
abbrev pub HasPictureError : (SolveError → Type 0) → PictureOptions → List ℕ → VisionError → Type 0
HasPictureError refuses (Restore o) input error = HasRestoreError refuses o input error
HasPictureError refuses (Stereo o) input error = HasStereoError refuses o input error
HasPictureError refuses (Segment o) input error = HasSegmentError refuses o input error

-- whether the part of the labels is to be told: where restoring is asked for with a cost of the
-- labels
abbrev pub tells_labels : PictureOptions → Bool
tells_labels (Restore o) = is_some o.label_cost
tells_labels (Stereo o) = false
tells_labels (Segment o) = false

-- whether a bound is asked for
abbrev pub asks_bound : PictureOptions → Bool
asks_bound (Restore o) = o.bound
asks_bound (Stereo o) = o.bound
asks_bound (Segment o) = false

-- the text is the answer to the job that the pictures of the input name
abbrev pub AnswersPicture : PictureOptions → List ℕ → List ℕ → List ℕ → Type 0
AnswersPicture o input text said =
    (length input ≤ input_limit)
    × ((job : Job) × IsPictureJob o input job × AnswersJob (tells_labels o) job text said)

-- the fault that the input has: it was not read, or its pictures have it
abbrev pub HasPictureFault : (SolveError → Type 0) → PictureOptions → List ℕ → Fault → Type 0
HasPictureFault refuses o input fault = TellsError read_fault (IsReadRefusal input) fault
    ⊎ ((length input ≤ input_limit)
    × TellsError picture_fault (HasPictureError refuses o input) fault)
