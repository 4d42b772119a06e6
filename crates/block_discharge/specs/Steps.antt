-- A block's own events: when each is enabled, and what it does to the block, with what it puts and
-- takes.
use Rattle.std.specs.Prelude.{◌≡◌, ℕ, ◌+◌, ◌<◌, ◌≤◌, true, min, List, [], ◌∷◌, length, Some, None}
use Rattle.block_events.specs.declared.message.Message.{Message}
use Rattle.block_events.specs.declared.message.Message.TheVariants.{Parcel, Accepted, Refused}
use Rattle.block_events.specs.Directions.{opposite}
use Rattle.block_events.specs.Workers.{IsFair}
use Rattle.block_net.specs.Views.{CellsView, excess_in, label_in, room_in, lane_in, border_in}
use Rattle.block_net.specs.Views.{first_lane, first_border, out_of, MayPush, MaySend}
use Rattle.block_net.specs.Views.{cells_after_push, cells_after_sink_push, cells_after_relabel}
use Rattle.block_net.specs.Views.{cells_after_send, cells_after_accept, cells_after_delivery}
use Rattle.block_net.specs.Views.{cells_after_return, parcel_of, highest}
use Rattle.block_discharge.specs.Active.{IsActiveInBlock}
use Rattle.block_discharge.specs.declared.letter.Letter.{Letter}
use Rattle.block_discharge.specs.Seen.{WaysView, add_to}

-- an event of the block: a node and the place of one of its directions, a node, or another block
-- and the letter in front from there
pub data Step : Type 0 where
  Push : ℕ → ℕ → Step
  Give : ℕ → Step
  Relabel : ℕ → Step
  Send : ℕ → ℕ → Step
  Accept : ℕ → Letter → Step
  Refuse : ℕ → Letter → Step
  Settle : ℕ → Letter → Step

-- ---- when each is enabled

-- a place of the directions of node v within the block
pub record IsOfNode (b : CellsView) (v j : ℕ) : Type 0 where
  pub low : first_lane b v ≤ j
  pub high : j < first_lane b (v + 1)

-- a place of its directions to other blocks
pub record IsBorderOfNode (b : CellsView) (v j : ℕ) : Type 0 where
  pub low : first_border b v ≤ j
  pub high : j < first_border b (v + 1)

-- a direction to block c stands at the place
pub record IsFrom (b : CellsView) (c j : ℕ) : Type 0 where
  pub place : j < length b.borders
  pub to : (border_in b j).to ≡ c

-- a parcel from block c comes against the direction at the place, from one label above its node,
-- and fits
abbrev pub MayAcceptAt : CellsView → ℕ → ℕ → Message → Type 0
MayAcceptAt b c j (Parcel x a d) =
    IsFrom b c j × (opposite (border_in b j).direction ≡ x) × IsFair (Parcel x a d)
    × (label_in b (border_in b j).near + 1 ≡ d) × (d ≤ b.top)
    × ((border_in b j).residual + out_of (border_in b j).flight + a ≤ (border_in b j).capacity)
MayAcceptAt b c j m = ⊥

-- a parcel from block c comes against the direction at the place, from a label no higher than its
-- node's
abbrev pub MayRefuseAt : CellsView → ℕ → ℕ → Message → Type 0
MayRefuseAt b c j (Parcel x a d) =
    IsFrom b c j × (opposite (border_in b j).direction ≡ x) × IsFair (Parcel x a d)
    × (d ≤ label_in b (border_in b j).near)
MayRefuseAt b c j m = ⊥

-- an answer from block c is to the parcel that is out on the direction at the place
abbrev pub MaySettleAt : CellsView → ℕ → ℕ → Message → Type 0
MaySettleAt b c j (Parcel x a d) = ⊥
MaySettleAt b c j (Accepted x a) =
    IsFrom b c j × ((border_in b j).direction ≡ x) × IsFair (Accepted x a)
    × (d : ℕ) × ((border_in b j).flight ≡ Some (record { amount = a; label = d }))
MaySettleAt b c j (Refused x a d told) =
    IsFrom b c j × ((border_in b j).direction ≡ x) × IsFair (Refused x a d told)
    × ((border_in b j).flight ≡ Some (record { amount = a; label = d })) × (told ≤ b.top)

-- the event is enabled, by what the block holds
abbrev pub IsStepEnabled : CellsView → Step → Type 0
IsStepEnabled b (Push v j) = IsActiveInBlock b v × IsOfNode b v j × MayPush b v j
IsStepEnabled b (Give v) = IsActiveInBlock b v × (0 < room_in b v) × (label_in b v ≡ 1)
IsStepEnabled b (Relabel v) = IsActiveInBlock b v × (label_in b v < highest b v)
IsStepEnabled b (Send v j) = IsActiveInBlock b v × IsBorderOfNode b v j × MaySend b v j
IsStepEnabled b (Accept c l) = MayAcceptAt b c l.place l.message
IsStepEnabled b (Refuse c l) = MayRefuseAt b c l.place l.message
IsStepEnabled b (Settle c l) = MaySettleAt b c l.place l.message

-- ---- what each does

-- the block, and all that it has put and taken
pub record TurnView : Type 0 where
  pub block : CellsView
  pub sent : ℕ → List Message
  pub taken : ℕ → List Message

abbrev pub turn_view : CellsView → WaysView → TurnView
turn_view b s = record { block = b; sent = s.sent; taken = s.taken }

abbrev pub turn_after_accept : TurnView → ℕ → ℕ → Message → TurnView
turn_after_accept h c j (Parcel x a d) = record {
  block = cells_after_accept h.block j a d;
  sent = add_to h.sent c (Accepted x a);
  taken = add_to h.taken c (Parcel x a d);
}
turn_after_accept h c j m = h

abbrev pub turn_after_refuse : TurnView → ℕ → ℕ → Message → TurnView
turn_after_refuse h c j (Parcel x a d) = record h {
  sent = add_to h.sent c (Refused x a d (label_in h.block (border_in h.block j).near));
  taken = add_to h.taken c (Parcel x a d);
}
turn_after_refuse h c j m = h

abbrev pub turn_after_settle : TurnView → ℕ → ℕ → Message → TurnView
turn_after_settle h c j (Parcel x a d) = h
turn_after_settle h c j (Accepted x a) =
    record h { block = cells_after_delivery h.block j; taken = add_to h.taken c (Accepted x a) }
turn_after_settle h c j (Refused x a d told) =
    record h {
      block = cells_after_return h.block j a told;
      taken =
          add_to h.taken c (Refused x a d told);
    }

-- what an event makes of it
abbrev pub turn_after : TurnView → Step → TurnView
turn_after h (Push v j) =
    record h {
      block = cells_after_push h.block v j
          (min (excess_in h.block v) (lane_in h.block j).residual);
    }
turn_after h (Give v) = record h
    { block = cells_after_sink_push h.block v (min (excess_in h.block v) (room_in h.block v)) }
turn_after h (Relabel v) = record h { block = cells_after_relabel h.block v (highest h.block v) }
turn_after h (Send v j) = record h {
  block = cells_after_send h.block v j (min (excess_in h.block v) (border_in h.block j).residual);
  sent = add_to h.sent (border_in h.block j).to (parcel_of h.block v j);
}
turn_after h (Accept c l) = turn_after_accept h c l.place l.message
turn_after h (Refuse c l) = turn_after_refuse h c l.place l.message
turn_after h (Settle c l) = turn_after_settle h c l.place l.message

-- one enabled event after another
abbrev pub IsRunOfSteps : TurnView → List Step → TurnView → Type 0
IsRunOfSteps h [] g = g ≡ h
IsRunOfSteps h (e ∷ es) g = IsStepEnabled h.block e × IsRunOfSteps (turn_after h e) es g

-- a list of so many events
abbrev pub DoesMany : TurnView → ℕ → TurnView → Type 0
DoesMany h n g = (es : List Step) × IsRunOfSteps h es g × (length es ≡ n)

-- ---- what is sure to be enabled

-- the event is enabled, room is seen for what it puts, and what it takes is seen in front
abbrev pub IsSure : CellsView → WaysView → Step → Type 0
IsSure b s (Push v j) = IsStepEnabled b (Push v j)
IsSure b s (Give v) = IsStepEnabled b (Give v)
IsSure b s (Relabel v) = IsStepEnabled b (Relabel v)
IsSure b s (Send v j) = IsStepEnabled b (Send v j) × (s.room (border_in b j).to ≡ true)
IsSure b s (Accept c l) = IsStepEnabled b (Accept c l) × (s.front c ≡ Some l) × (s.room c ≡ true)
IsSure b s (Refuse c l) = IsStepEnabled b (Refuse c l) × (s.front c ≡ Some l) × (s.room c ≡ true)
IsSure b s (Settle c l) = IsStepEnabled b (Settle c l) × (s.front c ≡ Some l)
