-- What the reading of a problem of labels refuses is a fault that its bytes have.
use Rattle.std.proofs.Common.{◌≡◌, ◌≢◌, ◌≤◌, ℕ, List, IfSome, Err, inl, inr, length, refl, subst}
use Rattle.std.specs.Prelude.{IsUtf8}
use Rattle.byte_streams.specs.Input.{IsReadRefusal, input_limit}
use Rattle.byte_streams.specs.Streams.{Stream}
use Rattle.byte_streams.specs.declared.input.ReadError.{ReadError}
use Rattle.program_texts.specs.declared.fault.Fault.{Fault}
use Rattle.problem_files.specs.Names.{Problem, problem_in}
use Rattle.problem_files.specs.declared.label_fault.LabelFault.{LabelFault}
use Rattle.problem_files.specs.declared.label_fault.LabelFault.TheVariants.{OutOfMemory, BadToml, BadField, BadElement, CostRange, NoSuchSite, SamePair, TooManyPairs, WeightRange, NoSuchLabel}
use Rattle.moves.specs.Runs.{AnswersRun}
use Rattle.moves.specs.Problems.{IsRunRefusal}
use Rattle.one_move.specs.declared.error.MoveError.{MoveError}
use Rattle.cut_ways.specs.declared.solve_error.SolveError.{SolveError}
use Rattle.program_tasks.specs.Instances.{instance_named}
use Rattle.program_tasks.proofs.InputLemmas.{IsWhole, of_read, of_refusal}
use Rattle.program_tasks.specs.Label.{HasLabelFault, HasProblemFault, HasReadingFault, HoldsProblem, IsRunFault}
use Rattle.program_tasks.specs.Faults.{TellsMove}
use Rattle.program_texts.specs.Faults.{label_fault, read_fault}
use Rattle.program_tasks.specs.Inputs.{OfSomeInput}

both : (bytes : List ℕ) (fault : LabelFault) → fault ≢ OutOfMemory → fault ≢ BadToml
    → (fault ≢ OutOfMemory → IsUtf8 bytes → problem_in bytes ≡ Err fault) → (fault ≢ OutOfMemory → fault ≢ BadToml → IsUtf8 bytes)
    → IsUtf8 bytes × (problem_in bytes ≡ Err fault)
both bytes fault memory toml refused text = (text memory toml, refused memory (text memory toml))

has_fault : (bytes : List ℕ) (fault : LabelFault) → (fault ≢ OutOfMemory → IsUtf8 bytes → problem_in bytes ≡ Err fault)
    → (fault ≢ OutOfMemory → fault ≢ BadToml → IsUtf8 bytes) → HasProblemFault bytes fault
has_fault bytes OutOfMemory refused text = tt
has_fault bytes BadToml refused text = refused (λ e. cc)
has_fault bytes (BadField field) refused text = both bytes (BadField field) (λ e. cc) (λ e. cc) refused text
has_fault bytes (BadElement field place) refused text = both bytes (BadElement field place) (λ e. cc) (λ e. cc) refused text
has_fault bytes (CostRange field place) refused text = both bytes (CostRange field place) (λ e. cc) (λ e. cc) refused text
has_fault bytes (NoSuchSite pair) refused text = both bytes (NoSuchSite pair) (λ e. cc) (λ e. cc) refused text
has_fault bytes (SamePair pair) refused text = both bytes (SamePair pair) (λ e. cc) (λ e. cc) refused text
has_fault bytes TooManyPairs refused text = both bytes TooManyPairs (λ e. cc) (λ e. cc) refused text
has_fault bytes (WeightRange pair) refused text = both bytes (WeightRange pair) (λ e. cc) (λ e. cc) refused text
has_fault bytes (NoSuchLabel site) refused text = both bytes (NoSuchLabel site) (λ e. cc) (λ e. cc) refused text

pub label_stands : (bytes items : List ℕ) (source : Stream) (fault : LabelFault) → bytes ≡ items
    → IsWhole items source → length items ≤ input_limit → (fault ≢ OutOfMemory → IsUtf8 bytes → problem_in bytes ≡ Err fault)
    → (fault ≢ OutOfMemory → fault ≢ BadToml → IsUtf8 bytes) → OfSomeInput source (λ input. HasReadingFault input (label_fault fault))
label_stands bytes items source fault is whole limit refused text =
    of_read source items (λ input. HasReadingFault input (label_fault fault)) whole
    (inr (limit, (fault, subst (λ (xs : List ℕ). HasProblemFault xs fault) is (has_fault bytes fault refused text), refl)))

-- an input that was not read
pub unread_label : (source : Stream) (error : ReadError) → IfSome source.bytes (λ input. IsReadRefusal input error)
    → OfSomeInput source (λ input. HasReadingFault input (read_fault error))
unread_label source error is = let h = of_refusal source error is in (h.0, h.1, inl (error, h.2, refl))

-- a refused run is a fault of the problem
pub run_fault : (cut : SolveError → Type 0) (p : Problem) (error : MoveError) (fault : Fault) → AnswersRun (instance_named p) p.moves p.cycles p.start.at (Err error)
    → IsRunRefusal cut error → TellsMove error fault → IsRunFault cut p fault
run_fault cut p error fault answers refused tells = inr (error, refused, answers, tells)

-- a fault of the reading is one of the command
pub read_stands : (cut : SolveError → Type 0) (source : Stream) (f : Fault) → OfSomeInput source (λ input. HasReadingFault input f)
    → OfSomeInput source (λ input. HasLabelFault cut input f)
read_stands cut source f h = (h.0, h.1, inl h.2)

-- so is the fault of a run of the problem that the input names
pub run_stands : (cut : SolveError → Type 0) (source : Stream) (p : Problem) (f : Fault) → OfSomeInput source (λ input. HoldsProblem input p)
    → IsRunFault cut p f → OfSomeInput source (λ input. HasLabelFault cut input f)
run_stands cut source p f h is = (h.0, h.1, inr (p, h.2, is))
