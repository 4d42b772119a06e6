-- What a call for a stretch of a run is lent, what it tells and what it hands back.
use Rattle.std.specs.Prelude.{◌≡◌, ◌≢◌, ◌⊎◌, ◌+◌, ◌<◌, ◌==◌, ℕ, not, List, length, None, Err}
use Rattle.std.specs.Prelude.{false, replicate}
use Rattle.std.specs.List.{All}
use Rattle.label_energies.specs.Chains.{moves_of}
use Rattle.label_energies.specs.declared.cycles.Moves.{Moves}
use Rattle.cut_ways.specs.declared.solve_error.SolveError.TheVariants.{OutOfMemory as NoMemory}
use Rattle.one_move.specs.declared.error.MoveError.{MoveError}
use Rattle.run_steps.specs.declared.bookmark.Mark.{Mark}
use Rattle.moves.specs.Bookmarks.{WasLeftAt, IsPastEnd, LeadAtMost, moves_to}
use Rattle.moves.specs.Courses.{IsBegun}
use Rattle.moves.specs.Problems.{IsRunRefusal}
use Rattle.moves.specs.Runs.{AnswersRun, MayMake}
use Rattle.gco_arrays.specs.Calls.{CallArrays, IsGiven, instance_given}
use Rattle.gco_arrays.specs.Refusals.{IsGivenRefusal}
use Rattle.gco_arrays.specs.declared.refusal.Refusal.{Refusal}
use Rattle.gco_arrays.specs.declared.refusal.Refusal.TheVariants as why
use Rattle.gco_calls.specs.Calls.{moves_number}
use Rattle.gco_calls.specs.Outcomes.{energy_told, run_told}
use Rattle.gco_calls.specs.Refusals.{IsTold, move_refusal}
use Rattle.gco_calls.specs.declared.course.GcoCourse.{GcoCourse}
use Rattle.gco_calls.specs.declared.outcome.GcoOutcome.{GcoOutcome}

-- what a call is lent of a run, and hands back: its labels, where it stands, and of each site and
-- of each label the number of an expansion
pub record LentArrays : Type 0 where
  pub labels : List ℕ
  pub course : GcoCourse
  pub stamps : List ℕ
  pub made : List ℕ

abbrev pub lent_arrays : List ℕ → GcoCourse → List ℕ → List ℕ → LentArrays
lent_arrays labels course stamps made = record {
  labels = labels;
  course = course;
  stamps = stamps;
  made = made;
}

-- where the run stands
abbrev pub mark_of : GcoCourse → Mark
mark_of course = record {
  cycles = course.cycles;
  place = course.place;
  last = course.last;
  changed = not (course.changed == 0);
  noted = course.noted;
}

-- the run of these moves from the start of the arrays was left there: what is lent of it is what a
-- call handed back, or is of a run that begins
pub record IsRunLeft (a : CallArrays) (number : ℕ) (run : LentArrays) : Type 0 where
  pub below : All (λ label. label < a.label_count) a.start
  pub sites : length a.start ≡ length run.labels
  pub moves : Moves
  pub numbered : number ≡ moves_number moves
  pub left : WasLeftAt (instance_given a) moves a.start run.labels (mark_of run.course)
      run.stamps run.made

-- where a run stands before its first move
abbrev pub first_course : GcoCourse
first_course = record { cycles = 0; place = 0; last = 0; changed = 0; noted = 0 }

-- numbers that are all 0 are those of a run that begins: it was left at its start
abbrev pub ZerosBegin : Type 0
ZerosBegin =
    (a : CallArrays) (moves : Moves) → All (λ label. label < a.label_count) a.start
    → IsRunLeft a (moves_number moves) (lent_arrays a.start first_course
    (replicate (length a.start) 0) (replicate a.label_count 0))

-- what was given is in order, the labels are where a beginning of the chain from the start ends,
-- so many moves further than a course, the run can go on from what is handed back, and the outcome
-- tells how many cycles were whole, the three parts of the energy, and nothing else
pub record IsPauseTold (a : CallArrays) (number cycles : ℕ) (course : GcoCourse) (most : ℕ)
    (run : LentArrays) (told : GcoOutcome) : Type 0 where
  pub given : IsGiven a
  pub run_left : IsRunLeft a number run
  pub begun : IsBegun (instance_given a) (moves_of run_left.moves a.label_count) cycles
      run.course.cycles a.start run.labels
  pub further : moves_to (moves_of run_left.moves a.label_count) (mark_of run.course)
      ≡ moves_to (moves_of run_left.moves a.label_count) (mark_of course) + most
  pub may : MayMake (instance_given a) run_left.moves
  pub told_is : told
      ≡ run_told (energy_told (instance_given a) run.labels) run.course.cycles false None

-- the labels are where at most so many moves of the chain lead after those before the course
pub record EndsWithin (a : CallArrays) (number : ℕ) (course : GcoCourse) (most : ℕ)
    (labels : List ℕ) : Type 0 where
  pub moves : Moves
  pub numbered : number ≡ moves_number moves
  pub lead : LeadAtMost (instance_given a) (moves_of moves a.label_count)
      (moves_to (moves_of moves a.label_count) (mark_of course)) most a.start labels

-- what is lent is of other sizes, or is past the end of its cycles
abbrev pub IsCourseRefusal : CallArrays → Moves → ℕ → LentArrays → Type 0
IsCourseRefusal a moves cycles run =
    (length run.stamps ≢ length run.labels) ⊎ (length run.made ≢ a.label_count)
    ⊎ IsPastEnd (moves_of moves a.label_count) cycles (mark_of run.course)

-- the arrays with another start
abbrev pub arrays_from : CallArrays → List ℕ → CallArrays
arrays_from a start = record a { start = start }

-- why a stretch is refused: what it was given, what it was lent, or the chain's next move
abbrev pub IsStretchRefusal : CallArrays → Moves → ℕ → ℕ → LentArrays → Refusal → Type 0
IsStretchRefusal a moves number cycles run refusal =
    IsGivenRefusal a refusal
    ⊎ (IsGiven a × (refusal ≡ why.NoSuchCourse) × IsCourseRefusal a moves cycles run)
    ⊎ (IsGiven a × ((error : MoveError) × IsRunRefusal (λ e. e ≡ NoMemory) error
    × (refusal ≡ move_refusal error)
    × ((start : List ℕ) → IsRunLeft (arrays_from a start) number run
    → AnswersRun (instance_given (arrays_from a start)) moves cycles start (Err error))))

-- the status and the outcome tell a refusal, and its cause holds: the number names no moves, or
-- what a stretch of the moves that it names refuses
pub record IsStretchRefusalTold (a : CallArrays) (number cycles : ℕ) (run : LentArrays) (status : ℕ)
    (told : GcoOutcome) : Type 0 where
  pub refusal : Refusal
  pub is_told : IsTold refusal status told
  pub cause : ((refusal ≡ why.NoSuchMoves) × (number ≢ 0) × (number ≢ 1))
      ⊎ ((moves : Moves) × (number ≡ moves_number moves)
      × IsStretchRefusal a moves number cycles run refusal)
