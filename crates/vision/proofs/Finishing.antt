-- From a run to what is written.
use Rattle.std.proofs.Common.{◌≡◌, ◌∙◌, ℕ, ◌+◌, ◌≤◌, ℤ, pos, ◌+ℤ◌, ◌≤ℤ◌, Bool, true, false, List, Option, Some, None, IfSome, IsTrue, IsFalse, replicate, Ok, Err, if◌then◌else◌, inr, refl, sym, ap, subst, arith}
use Rattle.std.proofs.lemmas.Int.{ints}
use Rattle.label_energies.specs.Energies.{Instance, labelling, data_energy, smooth_energy, label_energy}
use Rattle.moves.specs.Runs.{AnswersRun, TellsBound}
use Rattle.moves.specs.declared.tables.Run.{Run}
use Rattle.moves.specs.declared.bound.Bound.{Bound}
use Rattle.one_move.specs.declared.error.MoveError.{MoveError}
use Rattle.cut_ways.specs.declared.solve_error.SolveError.{SolveError}
use Rattle.moves.specs.Problems.{IsRunRefusal}
use Rattle.pgm_image.specs.Picture.{Picture, picture, IsPicture}
use Rattle.label_energies.specs.declared.cycles.Moves.{Moves}
use Rattle.vision.specs.Faults.{HasRunError, TellsRun}
use Rattle.vision.specs.declared.error.VisionError.{VisionError}
use Rattle.vision.specs.Jobs.{Job, job_of, EndsAt, Reports, IsReadyToWrite}
use Rattle.vision.specs.declared.job.Finished.{Finished}
use Rattle.vision.specs.declared.report.Report.{Report}

all_three : (x y z : ℤ) (a b c : ℕ) → x ≡ pos a → y ≡ pos b → z ≡ pos c → (x +ℤ y) +ℤ z ≡ pos ((a + b) + c)
all_three x y z a b c is_x is_y is_z = rw (is_x, is_y, is_z) refl

-- what is told of a bound, where it is asked for, and where not
told_if : (m : Instance) (moves : Moves) (labels : List ℕ) (settled asked : Bool) (bound : Option Bound) → IsTrue asked → TellsBound m moves labels settled bound
    → TellsBound m moves labels settled (if asked then bound else None)
told_if m moves labels settled true bound asks told = told
told_if m moves labels settled false bound asks told = absurd (cc)

none_if : (asked : Bool) (bound : Option Bound) → IsFalse asked → (if asked then bound else None) ≡ None
none_if true bound not = absurd (cc)
none_if false bound not = refl

most_of : (bound : Option Bound) → IfSome bound (λ (b : Bound). pos b.vmax ≤ℤ pos 10000) → IfSome bound (λ (b : Bound). b.vmax ≤ 10000)
most_of None small = tt
most_of (Some b) small = omega (arith, ints, small)

most_if : (asked : Bool) (bound : Option Bound) → IfSome bound (λ (b : Bound). pos b.vmax ≤ℤ pos 10000)
    → IfSome (if asked then bound else None) (λ (b : Bound). b.vmax ≤ 10000)
most_if true bound small = most_of bound small
most_if false bound small = tt

-- the report of a run
abbrev pub report_of : Bool → Run → Report
report_of asked run = record {
  energy = (run.«data» +ℤ run.smooth) +ℤ run.label;
  data_part = run.«data»;
  smooth_part = run.smooth;
  label_part = run.label;
  bound = if asked then run.bound else None;
}

abbrev EndsAndTells : Job → Report → List ℕ → Type 0
EndsAndTells job report labels = (ends : EndsAt job labels) × Reports job labels ends.settled report

report_tells : (m : Instance) (moves : Moves) (cycles : ℕ) (asked : Bool) (p : Picture) (maxval : ℕ) (start : List ℕ) (run : Run)
    → AnswersRun m moves cycles start (Ok run) → IfSome run.bound (λ (b : Bound). pos b.vmax ≤ℤ pos 10000)
    → Reports (job_of m moves cycles asked p maxval) run.labelling.at run.ended.settled (report_of asked run)
report_tells m moves cycles asked p maxval start run ran small =
    let f = labelling run.labelling.at in
    record {
      energy_is = all_three run.«data» run.smooth run.label (data_energy m f) (smooth_energy m f) (label_energy m f) ran.1 ran.2 ran.3;
      data_is = ran.1;
      smooth_is = ran.2;
      label_is = ran.3;
      bound_is = λ asks. told_if m moves run.labelling.at run.ended.settled asked run.bound asks ran.4;
      bound_none = λ not. none_if asked run.bound not;
      bound_most = most_if asked run.bound small;
    }

-- where a run ended is what the job makes
pub finished : (m : Instance) (moves : Moves) (cycles : ℕ) (asked : Bool) (p : Picture) (maxval : ℕ) (start : List ℕ) (run : Run) (f : Finished)
    → start ≡ replicate m.sites 0 → AnswersRun m moves cycles start (Ok run) → IfSome run.bound (λ (b : Bound). pos b.vmax ≤ℤ pos 10000) → IsPicture f.image
    → f.image ≡ picture p.width p.height maxval run.labelling.at → f.report ≡ report_of asked run
    → IsReadyToWrite (job_of m moves cycles asked p maxval) f
finished m moves cycles asked p maxval start run f zeros ran small valid image_is report_is =
    let job = job_of m moves cycles asked p maxval in
    let samples : f.image.samples ≡ run.labelling.at = ap (λ (q : Picture). q.samples) image_is in
    let A : List ℕ → Type 0 = λ s. AnswersRun m moves cycles s (Ok run) in
    let at_zero = subst A zeros ran in
    let P : Picture → Type 0 = λ q. IsPicture q in
    let R : Report → Type 0 = λ r. Reports job run.labelling.at run.ended.settled r in
    let ends : EndsAt job run.labelling.at = record {
      cycles = run.ended.cycles;
      settled = run.ended.settled;
      chain = at_zero.0;
      may_make = at_zero.5;
      is_picture = subst P image_is valid;
    } in
    let both : EndsAndTells job f.report f.image.samples =
    subst (EndsAndTells job f.report) (sym samples)
    (ends, subst R (sym report_is) (report_tells m moves cycles asked p maxval start run ran small)) in
    record {
      ends = both.0;
      image_is = image_is ∙ ap (λ xs. picture p.width p.height maxval xs) (sym samples);
      tells = both.1;
    }

-- a refused run is an error of the job
pub refused : (refuses : SolveError → Type 0) (m : Instance) (moves : Moves) (cycles : ℕ) (asked : Bool) (p : Picture) (maxval : ℕ) (start : List ℕ)
    (error : MoveError) (e : VisionError) → start ≡ replicate m.sites 0 → IsRunRefusal refuses error → AnswersRun m moves cycles start (Err error)
    → TellsRun error e → HasRunError refuses (job_of m moves cycles asked p maxval) e
refused refuses m moves cycles asked p maxval start error e zeros may ran told =
    let A : List ℕ → Type 0 = λ s. AnswersRun m moves cycles s (Err error) in inr (error, may, subst A zeros ran, told)
