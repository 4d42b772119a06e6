-- What `gco label` is.
use Rattle.std.specs.Prelude.{◌≡◌, ◌≤◌, ◌⊎◌, ◌+◌, ⊤, ℕ, Bool, List, length, Ok, Err, IsUtf8}
use Rattle.std.specs.Prelude.{is_some, unsigned_abs}
use Rattle.byte_streams.specs.Input.{IsReadRefusal, input_limit}
use Rattle.problem_files.specs.Names.{Problem, problem_in}
use Rattle.problem_files.specs.StatedLabels.{TextStatesProblem}
use Rattle.problem_files.specs.declared.label_fault.LabelFault.{LabelFault}
use Rattle.problem_files.specs.declared.label_fault.LabelFault.TheVariants as label
use Rattle.moves.specs.Problems.{IsRunRefusal}
use Rattle.one_move.specs.declared.error.MoveError.{MoveError}
use Rattle.cut_ways.specs.declared.solve_error.SolveError.{SolveError}
use Rattle.program_tasks.specs.Instances.{instance_named}
use Rattle.moves.specs.Runs.{AnswersRun}
use Rattle.moves.specs.declared.tables.Run.{Run}
use Rattle.program_texts.specs.declared.fault.Fault.{Fault}
use Rattle.program_texts.specs.declared.fault.Fault.TheVariants.{OutOfMemory}
use Rattle.program_tasks.specs.Faults.{TellsMove}
use Rattle.program_texts.specs.Faults.{TellsError, label_fault, read_fault}
use Rattle.program_tasks.specs.Bounds.{near_of_bound}
use Rattle.program_texts.specs.Lines.{label_text}
use Rattle.program_texts.specs.declared.lines.EnergyParts.{EnergyParts}

-- the energy of a run, which is the sum of its parts
abbrev pub parts_of : Run → EnergyParts
parts_of run = record {
  energy = unsigned_abs run.«data» + unsigned_abs run.smooth + unsigned_abs run.label;
  «data» = unsigned_abs run.«data»;
  smooth = unsigned_abs run.smooth;
  label = unsigned_abs run.label;
}

-- the energy with its parts, the label of each site, and the bound where it is asked for
abbrev pub run_text : Bool → Bool → Run → List ℕ
run_text tells asked run =
    label_text tells asked (parts_of run) run.labelling.at (near_of_bound run.bound)

-- the input is not too long, names this problem, and states it
abbrev pub HoldsProblem : List ℕ → Problem → Type 0
HoldsProblem input p =
    (length input ≤ input_limit) × IsUtf8 input × (problem_in input ≡ Ok p)
    × TextStatesProblem input p

-- the text tells where a run of the problem's moves from its start ends: the part of the labels
-- where the problem has costs of labels, and the bound where it is asked for
pub record AnswersProblem (p : Problem) (asked : Bool) (text : List ℕ) : Type 0 where
  pub run : Run
  pub ended : AnswersRun (instance_named p) p.moves p.cycles p.start.at (Ok run)
  pub is : text ≡ run_text (is_some p.label_costs) asked run

-- the text is the answer to the problem that the input names
abbrev pub AnswersLabels : Bool → List ℕ → List ℕ → Type 0
AnswersLabels asked input text = (p : Problem) × HoldsProblem input p × AnswersProblem p asked text

-- the input is no TOML text, or a text with this first fault
abbrev pub HasProblemFault : List ℕ → LabelFault → Type 0
HasProblemFault input label.OutOfMemory = ⊤
HasProblemFault input label.BadToml = IsUtf8 input → problem_in input ≡ Err label.BadToml
HasProblemFault input fault = IsUtf8 input × (problem_in input ≡ Err fault)

-- a run of the problem's moves from its start has this fault: memory may always be refused, and a
-- move for a pair or for its cut
abbrev pub IsRunFault : (SolveError → Type 0) → Problem → Fault → Type 0
IsRunFault refuses p fault = (fault ≡ OutOfMemory)
    ⊎ ((error : MoveError) × IsRunRefusal refuses error
    × AnswersRun (instance_named p) p.moves p.cycles p.start.at (Err error) × TellsMove error fault)

-- the fault that the reading of the input has: it was not read, or its text has a fault
abbrev pub HasReadingFault : List ℕ → Fault → Type 0
HasReadingFault input fault = TellsError read_fault (IsReadRefusal input) fault
    ⊎ ((length input ≤ input_limit) × TellsError label_fault (HasProblemFault input) fault)

-- the fault that the input has: one of its reading, or the run of the problem that it names has it
abbrev pub HasLabelFault : (SolveError → Type 0) → List ℕ → Fault → Type 0
HasLabelFault refuses input fault = HasReadingFault input fault
    ⊎ ((p : Problem) × HoldsProblem input p × IsRunFault refuses p fault)
