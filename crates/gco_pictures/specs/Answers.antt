-- What a call answers.
use Rattle.std.specs.Prelude.{◌≡◌, ℕ, List, length, take, drop, Option, Some, None}
use Rattle.moves.specs.declared.bound.Bound.{Bound}
use Rattle.pgm_image.specs.Written.{written_form}
use Rattle.vision.specs.Jobs.{EndsAt, Job, Reports, picture_of}
use Rattle.vision.specs.declared.report.Report.{Report}
use Rattle.gco_pictures.specs.declared.told.GcoPictureTold.{GcoPictureTold}

-- the bytes are the written form of the picture of the labels where the chain of such a job ends,
-- and the report tells their energy
pub record IsPictureMade (IsJob : Job → Type 0) (bytes : List ℕ) (report : Report) : Type 0 where
  pub job : Job
  pub is_job : IsJob job
  pub labels : List ℕ
  pub ends : EndsAt job labels
  pub bytes_are : bytes ≡ written_form (picture_of job labels)
  pub tells : Reports job labels ends.settled report

-- the two numbers of a bound, or 0 and 0
abbrev pub bound_pair : Option Bound → ℕ × ℕ
bound_pair None = (0, 0)
bound_pair (Some bound) = (bound.vmin, bound.vmax)

-- a report and the length of a picture are told, and nothing else
abbrev pub report_told : Report → ℕ → GcoPictureTold
report_told report bytes = record {
  energy = report.energy;
  «data» = report.data_part;
  smooth = report.smooth_part;
  label = report.label_part;
  bytes = bytes;
  place = 0;
  vmin = (bound_pair report.bound).0;
  vmax = (bound_pair report.bound).1;
  alpha = 0;
  beta = 0;
}

-- the front of the buffer holds these bytes, and what stands behind them is as it was; the report
-- and their length are told
pub record IsHandedOver (bytes : List ℕ) (report : Report) (old new : List ℕ)
    (told : GcoPictureTold) : Type 0 where
  pub front : take (length bytes) new ≡ bytes
  pub rest : drop (length bytes) new ≡ drop (length bytes) old
  pub told_is : told ≡ report_told report (length bytes)

-- so is a picture that was made of such a job
pub record IsPictureTold (IsJob : Job → Type 0) (old new : List ℕ)
    (told : GcoPictureTold) : Type 0 where
  pub bytes : List ℕ
  pub report : Report
  pub made : IsPictureMade IsJob bytes report
  pub handed : IsHandedOver bytes report old new told
