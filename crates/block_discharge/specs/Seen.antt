-- The ways of a block, as the block sees them.
use Rattle.std.specs.Prelude.{◌≡◌, ℕ, Bool, true, cond, ◌==◌, List, [], ◌∷◌, ◌++◌, Option, Some}
use Rattle.block_events.specs.declared.message.Message.{Message}
use Rattle.block_discharge.specs.declared.letter.Letter.{Letter}

-- one more message at the end of what was put for a block, or taken from it
abbrev pub add_to : (ℕ → List Message) → ℕ → Message → ℕ → List Message
add_to logs c m x = cond (x == c) (logs x ++ m ∷ []) (logs x)

-- what was put for each block and what was taken from it since the beginning, in order; where room
-- was seen, and what was seen in front. There may be more room, and more in front, than was seen
pub record WaysView : Type 0 where
  pub sent : ℕ → List Message
  pub taken : ℕ → List Message
  pub room : ℕ → Bool
  pub front : ℕ → Option Letter

-- nothing was put and nothing taken, and what was seen stays so
pub record IsLook (old new : WaysView) : Type 0 where
  pub sent : (c : ℕ) → new.sent c ≡ old.sent c
  pub taken : (c : ℕ) → new.taken c ≡ old.taken c
  pub room : (c : ℕ) → old.room c ≡ true → new.room c ≡ true
  pub front : (c : ℕ) (l : Letter) → old.front c ≡ Some l → new.front c ≡ Some l

-- the message was put for a block
pub record IsPut (to : ℕ) (m : Message) (old new : WaysView) : Type 0 where
  pub sent : (c : ℕ) → new.sent c ≡ add_to old.sent to m c
  pub taken : (c : ℕ) → new.taken c ≡ old.taken c
  pub front : (c : ℕ) (l : Letter) → old.front c ≡ Some l → new.front c ≡ Some l

-- the message was taken from a block
pub record IsTake (from : ℕ) (m : Message) (old new : WaysView) : Type 0 where
  pub sent : (c : ℕ) → new.sent c ≡ old.sent c
  pub taken : (c : ℕ) → new.taken c ≡ add_to old.taken from m c
  pub room : (c : ℕ) → old.room c ≡ true → new.room c ≡ true
