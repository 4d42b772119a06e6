-- What a call of a source does to its stream, and what reading a whole input answers.
use Rattle.std.specs.Prelude.{◌≡◌, ◌<◌, ◌≤◌, ℕ, Bool, true, false, List, length, Result, Ok, Err}
use Rattle.std.specs.Prelude.{IfOk, is_err, Vec, ⊤}
use Rattle.std.specs.Io.KnownBytes.{ReadConsumes}
use Rattle.std.specs.declared.alloc.Global.{Global}
use Rattle.byte_streams.specs.Streams.{Stream, failures_after}
use Rattle.byte_streams.specs.declared.input.ReadError.{ReadError}
use Rattle.byte_streams.specs.declared.input.ReadError.TheVariants.{OutOfMemory, ReadFailed}
use Rattle.byte_streams.specs.declared.input.ReadError.TheVariants.{InputTooLong}

-- the most bytes that an input may have: 256 MiB
abbrev pub input_limit : ℕ
input_limit = 268435456

-- why this input was not read: it is too long; or memory or the source failed
abbrev pub IsReadRefusal : List ℕ → ReadError → Type 0
IsReadRefusal input InputTooLong = input_limit < length input
IsReadRefusal input ReadFailed = ⊤
IsReadRefusal input OutOfMemory = ⊤

-- the whole input, which is within the limit; or why it was not read
abbrev pub IsReadOr : List ℕ → Result (Vec ℕ Global) ReadError → Type 0
IsReadOr input (Ok v) = (v.items ≡ input) × (length input ≤ input_limit)
IsReadOr input (Err error) = IsReadRefusal input error

-- the stream gave as many bytes as the call answers, and none only at its end or to a buffer
-- without room; and it counts the call exactly where it answered a fault
abbrev pub Gives : {E : Type 0} → Stream → Stream → Result ℕ E → List ℕ → Type 0
Gives old new r buffer = ReadConsumes old.bytes new.bytes r buffer
    × (new.failures ≡ failures_after (is_err r) old.failures)

-- a call that gives no byte to a buffer with room tells the end
abbrev pub NotesEnd : {E : Type 0} → Bool → Result ℕ E → List ℕ → Type 0
NotesEnd ended r buffer = IfOk r (λ count. count ≡ 0 → 0 < length buffer → ended ≡ true)

-- the error says that the source failed
abbrev pub is_fault : ReadError → Bool
is_fault ReadFailed = true
is_fault InputTooLong = false
is_fault OutOfMemory = false

-- a call failed on the way, one, exactly where the answer says so
abbrev pub TellsFault : {T : Type 0} → Stream → Stream → Result T ReadError → Type 0
TellsFault old new (Ok x) = new.failures ≡ old.failures
TellsFault old new (Err error) = new.failures ≡ failures_after (is_fault error) old.failures
