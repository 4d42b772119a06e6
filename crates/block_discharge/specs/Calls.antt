-- What a call of a block did to the block and its ways.
use Rattle.std.specs.Prelude.{◌≡◌, ◌⊎◌, ℕ, Some}
use Rattle.block_net.specs.Views.{CellsView}
use Rattle.block_discharge.specs.declared.letter.Letter.{Letter}
use Rattle.block_discharge.specs.Seen.{WaysView, IsLook}
use Rattle.block_discharge.specs.Steps.{Step, Accept, Refuse, Settle, IsStepEnabled, turn_view}
use Rattle.block_discharge.specs.Steps.{turn_after}

-- the event was enabled, and led from what the block held with its ways to what it holds now
pub record Performs (b : CellsView) (s : WaysView) (e : Step) (b' : CellsView)
    (s' : WaysView) : Type 0 where
  pub enabled : IsStepEnabled b e
  pub effect : turn_view b' s' ≡ turn_after (turn_view b s) e

-- the block is as it was, and nothing was put on its ways or taken from them
pub record IsUnchanged (b : CellsView) (s : WaysView) (b' : CellsView)
    (s' : WaysView) : Type 0 where
  pub block : b' ≡ b
  pub look : IsLook s s'

-- the letter stands in front of the way from block c, where one was seen there
abbrev pub IsFront : WaysView → ℕ → Letter → Type 0
IsFront s c l = (seen : Letter) → s.front c ≡ Some seen → seen ≡ l

-- the parcel of the letter was taken or sent back
abbrev pub TakesParcel : CellsView → WaysView → ℕ → Letter → CellsView → WaysView → Type 0
TakesParcel b s c l b' s' = Performs b s (Accept c l) b' s' ⊎ Performs b s (Refuse c l) b' s'

-- the parcel in front from block c was taken or sent back
abbrev pub HasReceived : CellsView → WaysView → ℕ → CellsView → WaysView → Type 0
HasReceived b s c b' s' = (l : Letter) × IsFront s c l × TakesParcel b s c l b' s'

-- the answer in front from block c was taken
abbrev pub HasSettled : CellsView → WaysView → ℕ → CellsView → WaysView → Type 0
HasSettled b s c b' s' = (l : Letter) × IsFront s c l × Performs b s (Settle c l) b' s'
