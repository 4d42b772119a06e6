-- What the end of a run says, and what is written where the words have no task.
use Rattle.std.specs.Prelude.{◌≡◌, ◌<◌, ℕ, List, [], length, Result, Ok, Err, string_bytes}
use Rattle.command_line.specs.declared.task.NoTask.{NoTask}
use Rattle.command_line.specs.declared.task.NoTask.TheVariants.{OutOfMemory, Help, Refused}
use Rattle.command_line.specs.declared.task.NoTask.TheVariants.{BadOption}
use Rattle.byte_streams.specs.Streams.{Stream, Took}
use Rattle.program_texts.specs.FaultLine.{fault_line}
use Rattle.program_texts.specs.Writing.{IsCut, Writes}
use Rattle.program_texts.specs.declared.fault.Fault.TheVariants as fault
use Rattle.program_texts.specs.declared.refusal.Refusal.{Refusal}
use Rattle.program_texts.specs.declared.refusal.Refusal.TheVariants.{Fault, Words}

-- this help, which is not empty, and nothing is said beside it
abbrev pub TellsHelp : List ℕ → List ℕ → List ℕ → Type 0
TellsHelp help text said = (text ≡ help) × (0 < length text) × (said ≡ [])

-- help was asked for, and the text that the words were answered with was written
abbrev pub ShowsHelp : NoTask → Stream → Stream → List ℕ → Type 0
ShowsHelp (Help text) old new said = Writes (TellsHelp (string_bytes text)) old new said
ShowsHelp OutOfMemory old new said = ⊥
ShowsHelp (Refused text) old new said = ⊥
ShowsHelp (BadOption option) old new said = ⊥

-- the sink failed within this help
abbrev pub IsCutHelp : List ℕ → Stream → Stream → Refusal → Type 0
IsCutHelp help old new (Fault fault) = IsCut (TellsHelp help) old new fault
IsCutHelp help old new (Words text) = ⊥

-- words without a task are refused for this: help was cut, or nothing was written
abbrev pub IsRefusalOf : NoTask → Stream → Stream → Refusal → Type 0
IsRefusalOf OutOfMemory old new refusal = (refusal ≡ Fault fault.OutOfMemory) × (new ≡ old)
IsRefusalOf (Help text) old new refusal = IsCutHelp (string_bytes text) old new refusal
IsRefusalOf (Refused text) old new refusal = (refusal ≡ Words text) × (new ≡ old)
IsRefusalOf (BadOption option) old new refusal =
    (refusal ≡ Fault (fault.BadOption option)) × (new ≡ old)

-- what is said of a refusal: the line of its fault, or the text that the words were refused with
abbrev pub SaysRefusal : Stream → Stream → Refusal → Type 0
SaysRefusal old new (Fault fault) = Took old new (fault_line fault)
SaysRefusal old new (Words text) = Took old new (string_bytes text)

-- the exit status
abbrev pub exit_status : {T : Type 0} → Result T Refusal → ℕ
exit_status (Ok said) = 0
exit_status (Err (Fault fault)) = 1
exit_status (Err (Words text)) = 2

-- the text was said, and this is the exit status
pub record IsSaid (old new : Stream) (text : List ℕ) (due status : ℕ) : Type 0 where
  pub told : Took old new text
  pub ended : status ≡ due
