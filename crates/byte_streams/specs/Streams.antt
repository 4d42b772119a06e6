-- A stream of bytes, and what happens to it.
use Rattle.std.specs.Prelude.{◌≡◌, ◌⊎◌, ◌<◌, ◌+◌, ◌%◌, ◌^◌, ℕ, Bool, true, false, List, length}
use Rattle.std.specs.Prelude.{Option, take}
use Rattle.std.specs.Io.KnownBytes.{Appends}

-- the bytes that a stream has still to give, or has taken, where they are known; and how many of
-- its calls have failed, counted in 64 bits, where one more failure is always another number
pub record Stream : Type 0 where
  pub bytes : Option (List ℕ)
  pub failures : ℕ

-- the count of failures after a call, which failed or did not
abbrev pub failures_after : Bool → ℕ → ℕ
failures_after true failures = (failures + 1) % 2 ^ 64
failures_after false failures = failures

-- the stream took the whole text, and no call failed
abbrev pub Takes : Stream → Stream → List ℕ → Type 0
Takes old new text = Appends old.bytes new.bytes text × (new.failures ≡ old.failures)

-- one call failed within the text, of which the stream took the first `count` bytes
abbrev pub Stops : Stream → Stream → List ℕ → ℕ → Type 0
Stops old new text count = (count < length text) × Appends old.bytes new.bytes (take count text)
    × (new.failures ≡ failures_after true old.failures)

-- the stream took the whole text, or one call failed within it
abbrev pub Took : Stream → Stream → List ℕ → Type 0
Took old new text = Takes old new text ⊎ ((count : ℕ) × Stops old new text count)
