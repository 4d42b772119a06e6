-- How much memory a search for a bound takes, and why it is refused.
use Rattle.std.specs.Prelude.{◌≡◌, ℕ, ◌+◌, ◌*◌, ◌<◌, ◌≤◌, length}
use Rattle.label_energies.specs.Energies.{Instance}
use Rattle.dual_bound.specs.declared.error.BoundError.{BoundError}
use Rattle.dual_bound.specs.declared.error.BoundError.TheVariants.{TooLarge, OutOfMemory}

-- for each label 8 bytes a site, where its costs are counted, and 4 a pair, for its message
abbrev pub bytes_of : Instance → ℕ
bytes_of m = (8 * m.sites + 4 * length m.pairs) * m.labels

-- it takes more bytes than are allowed, and these are told, or memory was wanting
abbrev pub IsBoundRefusal : Instance → ℕ → BoundError → Type 0
IsBoundRefusal m allowed (TooLarge bytes) = (bytes ≡ bytes_of m) × (allowed < bytes)
IsBoundRefusal m allowed OutOfMemory = bytes_of m ≤ allowed
