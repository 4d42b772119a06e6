-- What a book of turns says.
use Rattle.std.specs.Prelude.{◌≡◌, ℕ, ◌+◌, Bool, true, not, List, replicate, slice_set, slice_get}
use Rattle.std.specs.Prelude.{Some}

-- how many turns are left and how many were drawn; and of each block whether it is marked busy
pub record Turns : Type 0 where
  pub left : ℕ
  pub drawn : ℕ
  pub busy : List Bool

-- of a new book no turn is drawn, and each block is marked busy
abbrev pub new_turns : ℕ → ℕ → Turns
new_turns turns blocks = record { left = turns; drawn = 0; busy = replicate blocks true }

-- one turn was moved from those that are left to those that were drawn, and nothing else was
-- changed
pub record DrawsOne (old new : Turns) : Type 0 where
  pub left : old.left ≡ new.left + 1
  pub drawn : new.drawn ≡ old.drawn + 1
  pub busy : new.busy ≡ old.busy

-- the book with the mark of one block set
abbrev pub with_mark : Turns → ℕ → Bool → Turns
with_mark turns block idle = record turns { busy = slice_set turns.busy block (not idle) }

-- some block is marked busy
abbrev pub HasBusy : Turns → Type 0
HasBusy turns = (block : ℕ) × (slice_get turns.busy block ≡ Some true)
