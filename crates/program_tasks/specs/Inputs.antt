-- The inputs that a source may give.
use Rattle.std.specs.Prelude.{◌≡◌, ℕ, List, IfSome}
use Rattle.byte_streams.specs.Streams.{Stream}

-- this holds of some input that the source may give: of its known bytes, where they are known
abbrev pub OfSomeInput : Stream → (List ℕ → Type 0) → Type 0
OfSomeInput source P = (input : List ℕ) × IfSome source.bytes (λ bytes. input ≡ bytes) × P input
