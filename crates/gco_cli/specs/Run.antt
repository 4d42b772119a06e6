-- What a run answers and leaves.
use Rattle.std.specs.Prelude.{◌≡◌, ◌≢◌, ◌⊎◌, ◌<◌, ◌≤◌, ℕ, true, List, [], length}
use Rattle.std.specs.Prelude.{String, string_bytes, codes}
use Rattle.std.specs.declared.alloc.Global.{Global}
use Rattle.std.specs.declared.io.ErrorKind.{ErrorKind}
use Rattle.std.specs.declared.io.ErrorKind.TheVariants.{InvalidData}
use Rattle.command_line.specs.Task.{Asks, AsksForHelp, IsNoTaskFor, NamesBadOption}
use Rattle.command_line.specs.declared.task.NoTask.TheVariants.{Refused}
use Rattle.command_line.specs.declared.task.OptionName.{OptionName}
use Rattle.command_line.specs.declared.task.Request.{Request}
use Rattle.program_texts.specs.FaultLine.{fault_line}
use Rattle.program_texts.specs.Refusals.{IsSaid}
use Rattle.program_texts.specs.Writing.{Writes}
use Rattle.program_texts.specs.declared.fault.Fault.{Fault}
use Rattle.program_texts.specs.declared.fault.Fault.TheVariants.{OutOfMemory, BadOption}
use Rattle.program_tasks.specs.Commands.{IsDueFor}
use Rattle.program_tasks.specs.Refusals.{Refuses, is_bad_option, is_failed_read}
use Rattle.gco_cli.specs.Asked.{StandsForAsked}
use Rattle.byte_streams.specs.Streams.{Stream, Took, failures_after}

-- what a run of these words writes, and says beside it: help that was asked for, which is not
-- empty, or the answer of a command
abbrev pub IsDue : List (List ℕ) → Stream → List ℕ → List ℕ → Type 0
IsDue words source text said = (AsksForHelp words × (0 < length text) × (said ≡ []))
    ⊎ ((request : Request) × Asks words request × IsDueFor request.task source text said)

-- the fault is one of a run of these words: memory may always be refused, the words may name a bad
-- option, and a command has its faults
abbrev pub IsFaultOf : List (List ℕ) → Stream → Fault → Type 0
IsFaultOf words source fault = (fault ≡ OutOfMemory)
    ⊎ (((option : OptionName) × NamesBadOption words option × (fault ≡ BadOption option))
    ⊎ ((request : Request) × Asks words request × StandsForAsked request source fault))

-- in a refused run a call of the source failed exactly where its fault says so, and nothing was
-- read where an option was refused
pub record LeavesSource (old new : Stream) (fault : Fault) : Type 0 where
  pub failed : new.failures ≡ failures_after (is_failed_read fault) old.failures
  pub unread : is_bad_option fault ≡ true → new ≡ old

-- the streams of a run
pub record Streams : Type 0 where
  pub source : Stream
  pub sink : Stream
  pub faults : Stream

abbrev pub streams : Stream → Stream → Stream → Streams
streams source sink faults = record { source = source; sink = sink; faults = faults }

-- status 0: what is due was written whole, and what is due beside it said
pub record IsDone (words : List (List ℕ)) (old new : Streams) : Type 0 where
  pub said : List ℕ
  pub written : Writes (IsDue words old.source) old.sink new.sink said
  pub told : Took old.faults new.faults said
  pub read : new.source.failures ≡ old.source.failures

-- status 1: the run was refused, and the line of its fault said
pub record IsRefused (words : List (List ℕ)) (old new : Streams) : Type 0 where
  pub fault : Fault
  pub stands : Refuses (IsDue words old.source) (IsFaultOf words old.source) old.sink new.sink fault
  pub told : Took old.faults new.faults (fault_line fault)
  pub read : LeavesSource old.source new.source fault

-- status 2: the words were refused with a text that is not empty, it was said, and nothing was read
-- or written
pub record IsRejected (words : List (List ℕ)) (old new : Streams) : Type 0 where
  pub text : String Global
  pub refused : IsNoTaskFor words (Refused text)
  pub some : 0 < length (string_bytes text)
  pub told : Took old.faults new.faults (string_bytes text)
  pub read : new.source ≡ old.source
  pub written : new.sink ≡ old.sink

-- one whole run of these words: what its exit status says
pub record IsRun (words : List (List ℕ)) (old new : Streams) (status : ℕ) : Type 0 where
  pub done : status ≡ 0 → IsDone words old new
  pub refused : status ≡ 1 → IsRefused words old new
  pub rejected : status ≡ 2 → IsRejected words old new
  pub range : status ≤ 2

-- The words could not be had, for an error of this kind: one of them is no text, or memory was
-- refused. That was said, and nothing was read or written.
pub record IsUnread (kind : ErrorKind) (old new : Streams) (status : ℕ) : Type 0 where
  pub no_text : kind ≡ InvalidData
      → IsSaid old.faults new.faults (codes "error: an argument is not text\n") 2 status
  pub no_memory : kind ≢ InvalidData
      → IsSaid old.faults new.faults (fault_line OutOfMemory) 1 status
  pub read : new.source ≡ old.source
  pub written : new.sink ≡ old.sink
