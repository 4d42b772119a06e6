-- What each command is: the answer that is due to an input, and the faults that an input has.
use Rattle.std.specs.Prelude.{◌≡◌, ℕ, List, []}
use Rattle.byte_streams.specs.Streams.{Stream}
use Rattle.command_line.specs.declared.task.Task.{Task}
use Rattle.command_line.specs.declared.task.Task.TheVariants.{Energy, Label, Picture}
use Rattle.cut_ways.specs.declared.solve_error.SolveError.{SolveError}
use Rattle.program_texts.specs.declared.fault.Fault.{Fault}
use Rattle.program_tasks.specs.Energy.{AnswersInput, HasEnergyFault}
use Rattle.program_tasks.specs.Label.{AnswersLabels, HasLabelFault}
use Rattle.program_tasks.specs.Pictures.{AnswersPicture, HasPictureFault}
use Rattle.program_tasks.specs.Inputs.{OfSomeInput}

-- the command of a task writes this text for this input, and says this beside it
abbrev pub IsAnswer : Task → List ℕ → List ℕ → List ℕ → Type 0
IsAnswer Energy input text said = AnswersInput input text × (said ≡ [])
IsAnswer (Label bound) input text said = AnswersLabels bound input text × (said ≡ [])
IsAnswer (Picture o) input text said = AnswersPicture o input text said

-- the input has this fault for the command of a task, whose cuts may be refused so
abbrev pub HasFaultFor : (SolveError → Type 0) → Task → List ℕ → Fault → Type 0
HasFaultFor refuses Energy input fault = HasEnergyFault refuses input fault
HasFaultFor refuses (Label bound) input fault = HasLabelFault refuses input fault
HasFaultFor refuses (Picture o) input fault = HasPictureFault refuses o input fault

-- the same of some input that the source may give
abbrev pub IsDueFor : Task → Stream → List ℕ → List ℕ → Type 0
IsDueFor task source text said = OfSomeInput source (λ input. IsAnswer task input text said)

abbrev pub IsFaultFor : (SolveError → Type 0) → Task → Stream → Fault → Type 0
IsFaultFor refuses task source fault =
    OfSomeInput source (λ input. HasFaultFor refuses task input fault)
