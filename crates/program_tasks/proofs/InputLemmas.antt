-- The inputs that a source may give: what was read is one, and so is one that is refused.
use Rattle.std.proofs.Common.{◌≡◌, ◌<◌, ◌≤◌, ◌+◌, ℕ, List, [], Option, Some, None, IfSome, length, replicate, refl, arith}
use Rattle.std.proofs.lemmas.List.{length-replicate}
use Rattle.byte_streams.specs.Input.{IsReadRefusal, input_limit}
use Rattle.byte_streams.specs.Streams.{Stream}
use Rattle.byte_streams.specs.declared.input.ReadError.{ReadError}
use Rattle.byte_streams.specs.declared.input.ReadError.TheVariants.{OutOfMemory, ReadFailed, InputTooLong}
use Rattle.program_tasks.specs.Inputs.{OfSomeInput}

-- these bytes are the input, where it is source
abbrev pub IsWhole : List ℕ → Stream → Type 0
IsWhole items source = IfSome source.bytes (λ input. (items ≡ input) × (length input ≤ input_limit))

known_whole : (known : Option (List ℕ)) (items : List ℕ) → IfSome known (λ input. (items ≡ input) × (length input ≤ input_limit))
    → IfSome known (λ bytes. items ≡ bytes)
known_whole None items whole = tt
known_whole (Some bytes) items whole = whole.0

-- what holds of all that was read holds of some input
pub of_read : (source : Stream) (items : List ℕ) (P : List ℕ → Type 0) → IsWhole items source → P items → OfSomeInput source P
of_read source items P whole holds = (items, known_whole source.bytes items whole, holds)

-- there is an input that is longer
longer : (n : ℕ) → (input : List ℕ) × (n < length input)
longer n = (replicate (n + 1) 0, rw length-replicate (omega arith))

refused_so : (known : Option (List ℕ)) (error : ReadError) → IfSome known (λ input. IsReadRefusal input error)
    → (input : List ℕ) × IfSome known (λ bytes. input ≡ bytes) × IsReadRefusal input error
refused_so (Some bytes) error is = (bytes, refl, is)
refused_so None InputTooLong is = let long = longer input_limit in (long.0, tt, long.1)
refused_so None ReadFailed is = ([], tt, tt)
refused_so None OutOfMemory is = ([], tt, tt)

-- some input is refused so
pub of_refusal : (source : Stream) (error : ReadError) → IfSome source.bytes (λ input. IsReadRefusal input error)
    → OfSomeInput source (λ input. IsReadRefusal input error)
of_refusal source error is = refused_so source.bytes error is
