-- What a call of a sink does to its stream.
use Rattle.std.specs.Prelude.{◌≡◌, ◌==◌, ◌&&◌, nat_lt, ℕ, Bool, true, List, length, Result, Ok, Err}
use Rattle.std.specs.Io.KnownBytes.{WriteAppends}
use Rattle.byte_streams.specs.Streams.{Stream, failures_after}

-- a call failed exactly where it answered a fault, or took nothing of a piece that was not empty
abbrev pub fails : {E : Type 0} → Result ℕ E → List ℕ → Bool
fails (Ok n) piece = (n == 0) && nat_lt 0 (length piece)
fails (Err e) piece = true

-- the stream took as many bytes of the piece's front as the call answers, none where it answers a
-- fault, and counts the call where it failed
abbrev pub Puts : {E : Type 0} → Stream → Stream → Result ℕ E → List ℕ → Type 0
Puts old new r piece = WriteAppends old.bytes new.bytes r piece
    × (new.failures ≡ failures_after (fails r piece) old.failures)
