-- What a run remembers of its moves: their numbers, those of the last that changed each site, and
-- those of the last at each place. The place of an expansion is its label.
use Rattle.std.specs.Prelude.{◌≡◌, ◌⊎◌, ℕ, ◌+◌, ◌-◌, ◌^◌, ◌<◌, ◌≤◌, Bool, cond, [], length}
use Rattle.std.specs.Prelude.{slice_index, slice_set}
use Rattle.label_energies.specs.Energies.{Instance}
use Rattle.near_changes.specs.declared.changes.Changes.{Changes}
use Rattle.near_changes.specs.Fresh.{WasExpanded}
use Rattle.near_changes.specs.Looking.{changed_since}

-- the greatest number of a move: that of a `u32`
abbrev pub move_limit : ℕ
move_limit = 2 ^ 32 - 1

-- the number of the last move at a place, 0 where none is remembered
abbrev pub made_of : Changes → ℕ → ℕ
made_of changes a = slice_index changes.made.items a

-- did the site change after the last move at a place?
abbrev pub changed_after : Changes → ℕ → ℕ → Bool
changed_after changes a = changed_since changes.stamps.items (made_of changes a)

-- each label whose expansion is remembered was expanded before f came, and each site that changed
-- since has the number of a later move
pub record AreStamped (m : Instance) (f : ℕ → ℕ) (changes : Changes) : Type 0 where
  pub sites : 0 < length changes.made.items → length changes.stamps.items ≡ m.sites
  pub made : (a : ℕ) → made_of changes a ≤ changes.count
  pub known : (a : ℕ) → 0 < made_of changes a → WasExpanded m a (changed_after changes a) f

-- a move at a place is noted: its number is the next one, which the place has now, and so has each
-- site that it changed
pub record IsNoted (a : ℕ) (took : ℕ → Bool) (old new : Changes) : Type 0 where
  pub within : a < length old.made.items
  pub count : new.count ≡ old.count + 1
  pub made : new.made.items ≡ slice_set old.made.items a new.count
  pub sites : length new.stamps.items ≡ length old.stamps.items
  pub stamps : (p : ℕ) → p < length old.stamps.items
      → slice_index new.stamps.items p ≡ cond (took p) new.count (slice_index old.stamps.items p)

-- all is forgotten, since the place is not one of those that are remembered, or the numbers are at
-- their end
pub record IsForgotten (a : ℕ) (old new : Changes) : Type 0 where
  pub none : new.made.items ≡ []
  pub cause : (length old.made.items ≤ a) ⊎ (old.count ≡ move_limit)

-- what noting a move does
abbrev pub IsNotedMove : ℕ → (ℕ → Bool) → Changes → Changes → Type 0
IsNotedMove a took old new = IsNoted a took old new ⊎ IsForgotten a old new
