-- How a command is refused.
use Rattle.std.specs.Prelude.{◌≡◌, ◌⊎◌, ℕ, Bool, true, false, List, Result, Ok, Err}
use Rattle.byte_streams.specs.Streams.{Stream, failures_after}
use Rattle.program_texts.specs.Writing.{IsCut}
use Rattle.program_texts.specs.declared.fault.Fault.{Fault}
use Rattle.program_texts.specs.declared.fault.Fault.TheVariants.{Write, BadOption, ReadFailed}

-- the fault says that a call of a sink failed
abbrev pub is_write : Fault → Bool
is_write (Write failed) = true
is_write fault = false

-- the fault says that an option's value is no name that it takes
abbrev pub is_bad_option : Fault → Bool
is_bad_option (BadOption option) = true
is_bad_option fault = false

-- the fault says that the source failed
abbrev pub is_failed_read : Fault → Bool
is_failed_read ReadFailed = true
is_failed_read fault = false

-- nothing was written, and the fault stands; or the sink failed within the due text
abbrev pub Refuses : (List ℕ → List ℕ → Type 0) → (Fault → Type 0) → Stream
    → Stream → Fault → Type 0
Refuses Due Is old new fault =
    (Is fault × (is_write fault ≡ false) × (new ≡ old)) ⊎ IsCut Due old new fault

-- a call of the source failed on the way, one, exactly where the answer says so
abbrev pub TellsRead : {T : Type 0} → Stream → Stream → Result T Fault → Type 0
TellsRead old new (Ok x) = new.failures ≡ old.failures
TellsRead old new (Err fault) = new.failures ≡ failures_after (is_failed_read fault) old.failures
