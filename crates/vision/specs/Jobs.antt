-- What a command does with the problem that its pictures and options name.
use Rattle.std.specs.Prelude.{◌≡◌, ℕ, ◌-◌, max, Bool, false, IsTrue, IsFalse, IfSome, ◌≤◌, List}
use Rattle.std.specs.Prelude.{replicate, None, pos, Err}
use Rattle.byte_streams.specs.Streams.{Stops, Stream, Takes}
use Rattle.label_energies.specs.declared.change.Move.{Move}
use Rattle.label_energies.specs.Energies.{Instance, labelling, data_energy, smooth_energy}
use Rattle.label_energies.specs.Energies.{label_energy}
use Rattle.label_energies.specs.Energies.{energy}
use Rattle.label_energies.specs.Chains.{IsChain, moves_of}
use Rattle.moves.specs.Runs.{MayMake, TellsBound}
use Rattle.moves.specs.Problems.{IsRunOfCycles}
use Rattle.one_move.specs.declared.error.MoveError.{MoveError}
use Rattle.one_move.specs.declared.error.MoveError.TheVariants.{LabelCostInSwap}
use Rattle.pgm_image.specs.Picture.{Picture, picture, IsPicture}
use Rattle.pgm_image.specs.Written.{written_form}
use Rattle.run_options.specs.Limits.{greatest_smooth_cost}
use Rattle.label_energies.specs.declared.cycles.Moves.{Moves}
use Rattle.label_energies.specs.declared.cycles.Moves.TheVariants.{Expansion}
use Rattle.run_options.specs.declared.options.RestoreOptions.{RestoreOptions}
use Rattle.run_options.specs.declared.options.StereoOptions.{StereoOptions}
use Rattle.run_options.specs.declared.options.SegmentOptions.{SegmentOptions}
use Rattle.vision.specs.Problems.{restore_problem, stereo_problem, segment_problem}
use Rattle.vision.specs.declared.job.Finished.{Finished}
use Rattle.vision.specs.declared.report.Report.{Report}

-- a problem, the kind of moves, the most cycles, whether a bound is asked for, and the sizes and
-- the maxval of the picture that is made
pub record Job : Type 0 where
  pub problem : Instance
  pub moves : Moves
  pub cycles : ℕ
  pub bound : Bool
  pub width : ℕ
  pub height : ℕ
  pub maxval : ℕ

-- the job of a problem on the pixels of a picture
abbrev pub job_of : Instance → Moves → ℕ → Bool → Picture → ℕ → Job
job_of problem moves cycles bound p maxval = record {
  problem = problem;
  moves = moves;
  cycles = cycles;
  bound = bound;
  width = p.width;
  height = p.height;
  maxval = maxval;
}

-- restore: the grey levels of the picture
abbrev pub restore_job : RestoreOptions → Picture → Job
restore_job o p = job_of (restore_problem o p) o.moves o.cycles o.bound p p.maxval

-- stereo: the greatest shift is white
abbrev pub stereo_job : StereoOptions → Picture → Picture → Job
stereo_job o left right =
    job_of (stereo_problem o left right) o.moves o.cycles o.bound left (max (o.labels - 1) 1)

-- segment: label 1 is white, and no bound is told
abbrev pub segment_job : SegmentOptions → Picture → Picture → Job
segment_job o p seeds = job_of (segment_problem o p seeds) Expansion o.cycles false p 1

-- the moves of a cycle
abbrev pub job_moves : Job → List Move
job_moves job = moves_of job.moves job.problem.labels

-- the labelling that gives each site the label 0
abbrev pub all_zero : Job → List ℕ
all_zero job = replicate job.problem.sites 0

-- the picture that these labels make
abbrev pub picture_of : Job → List ℕ → Picture
picture_of job labels = picture job.width job.height job.maxval labels

-- the chain of best moves from all 0 ends at these labels, which make a picture; swaps are made
-- only where no label costs anything by itself
pub record EndsAt (job : Job) (labels : List ℕ) : Type 0 where
  pub cycles : ℕ
  pub settled : Bool
  pub chain : IsChain job.problem (job_moves job) job.cycles (all_zero job) labels cycles settled
  pub may_make : MayMake job.problem job.moves
  pub is_picture : IsPicture (picture_of job labels)

-- the report tells the energy of these labels and its three parts, and, where it is asked for, how
-- near they are to the least energy: a bound exactly where a run that ended so has one, of numbers
-- in the range of smooth costs
pub record Reports (job : Job) (labels : List ℕ) (settled : Bool) (report : Report) : Type 0 where
  pub energy_is : report.energy ≡ pos (energy job.problem (labelling labels))
  pub data_is : report.data_part ≡ pos (data_energy job.problem (labelling labels))
  pub smooth_is : report.smooth_part ≡ pos (smooth_energy job.problem (labelling labels))
  pub label_is : report.label_part ≡ pos (label_energy job.problem (labelling labels))
  pub bound_is : IsTrue job.bound → TellsBound job.problem job.moves labels settled report.bound
  pub bound_none : IsFalse job.bound → report.bound ≡ None
  pub bound_most : IfSome report.bound (λ bound. bound.vmax ≤ greatest_smooth_cost)

-- the writer took exactly the written form of the picture of the chain's last labels, of which the
-- report tells
pub record WritesPicture (job : Job) (old new : Stream) (report : Report) : Type 0 where
  pub labels : List ℕ
  pub ends : EndsAt job labels
  pub took : Takes old new (written_form (picture_of job labels))
  pub tells : Reports job labels ends.settled report

-- the writer took exactly the first so many bytes of that written form, and not all; this is what
-- would have been told
pub record StopsAfter (job : Job) (old new : Stream) (count : ℕ) : Type 0 where
  pub labels : List ℕ
  pub ends : EndsAt job labels
  pub took : Stops old new (written_form (picture_of job labels)) count
  pub report : Report
  pub tells : Reports job labels ends.settled report

-- the next move of the chain, from the labels that the run had come to, is refused so, and swaps
-- for what a label costs by itself
abbrev pub RefusesMove : Job → MoveError → Type 0
RefusesMove job e =
    (reached : List ℕ) × IsRunOfCycles job.problem (job_moves job) job.cycles
    (all_zero job) reached (Err e)
    × (e ≡ LabelCostInSwap → ¬ MayMake job.problem job.moves)

-- what is ready to be written: the picture of the chain's last labels, and their report
pub record IsReadyToWrite (job : Job) (f : Finished) : Type 0 where
  pub ends : EndsAt job f.image.samples
  pub image_is : f.image ≡ picture_of job f.image.samples
  pub tells : Reports job f.image.samples ends.settled f.report
