-- The events of one block, as a worker that holds the block sees them.
--
-- A state stands here for one block: of nodes and lanes only the block's own are read and written,
-- and the ways are what went through the block's ends of them. The way from b to c is what b put
-- for c so far, and the way from c to b is what b took from c so far: both only grow.
use Rattle.std.specs.Prelude.{◌≡◌, ℕ, ◌+◌, ◌≤◌, true, List, [], ◌∷◌, ◌++◌, Some}
use Rattle.flow_network.specs.Cut.{Network}
use Rattle.flow_network.specs.Preflow.{arc_at}
use Rattle.flow_network.specs.Progress.{top}
use Rattle.block_events.specs.declared.direction.Direction.{Direction}
use Rattle.block_events.specs.declared.message.Message.{Message}
use Rattle.block_events.specs.declared.message.Message.TheVariants.{Parcel, Accepted, Refused}
use Rattle.block_events.specs.declared.event.Event.{Event}
use Rattle.block_events.specs.declared.event.Event.TheVariants.{PushInner, PushSink, Relabel, Send}
use Rattle.block_events.specs.declared.event.Event.TheVariants.{Accept, Refuse, Settle, RaiseAll}
use Rattle.block_events.specs.Directions.{IsDirection, opposite}
use Rattle.block_events.specs.States.{State, way_at, residual_of, flight_of, block_of, near_block}
use Rattle.block_events.specs.States.{far_block, is_border}
use Rattle.block_events.specs.Events.{IsEnabled, MayAccept, MayRefuse, effect, after_accept}
use Rattle.block_events.specs.Events.{after_refuse, after_settle}
use Rattle.block_events.specs.Soundness.{amount_out}

-- ---- messages

-- the rule that every message obeys when it is put
abbrev pub IsFair : Message → Type 0
IsFair (Parcel x a d) = (1 ≤ a) × (1 ≤ d)
IsFair (Accepted x a) = 1 ≤ a
IsFair (Refused x a d told) = (1 ≤ a) × (1 ≤ d) × (d ≤ told)

-- a border direction from block b to block c
pub record IsBetween (net : Network) (blocks : ℕ) (x : Direction) (b c : ℕ) : Type 0 where
  pub direction : IsDirection net x
  pub border : is_border net blocks x ≡ true
  pub near : near_block net blocks x ≡ b
  pub far : far_block net blocks x ≡ c

-- a message that block b may put for block c: a parcel goes with its direction, an answer against
-- it
abbrev pub IsAddressed : Network → ℕ → ℕ → ℕ → Message → Type 0
IsAddressed net blocks b c (Parcel x a d) = IsBetween net blocks x b c
IsAddressed net blocks b c (Accepted x a) = IsBetween net blocks x c b
IsAddressed net blocks b c (Refused x a d told) = IsBetween net blocks x c b

-- block b may take the message from block c
pub record MayTake (s : State) (b c : ℕ) (m : Message) : Type 0 where
  pub addressed : IsAddressed s.net s.blocks c b m
  pub fair : IsFair m

-- a parcel fits within the labels and its arc, by what the block of its far end holds
abbrev pub FitsArc : State → Message → Type 0
FitsArc s (Parcel x a d) =
    (d ≤ top s.net)
    × (residual_of s (opposite x) + amount_out (flight_of s (opposite x)) + a
    ≤ (arc_at s.net x.arc).capacity)
FitsArc s (Accepted x a) = ⊥
FitsArc s (Refused x a d told) = ⊥

-- an answer fits the parcel that is out
abbrev pub FitsFlight : State → Message → Type 0
FitsFlight s (Parcel x a d) = ⊥
FitsFlight s (Accepted x a) = (d : ℕ) × (flight_of s x ≡ Some (record { amount = a; label = d }))
FitsFlight s (Refused x a d told) =
    (flight_of s x ≡ Some (record { amount = a; label = d })) × (told ≤ top s.net)

-- ---- events

-- the event is one of block b
abbrev pub IsEventOf : ℕ → State → Event → Type 0
IsEventOf b s (PushInner x) = near_block s.net s.blocks x ≡ b
IsEventOf b s (PushSink v) = block_of s.net s.blocks v ≡ b
IsEventOf b s (Relabel v) = block_of s.net s.blocks v ≡ b
IsEventOf b s (Send x) = near_block s.net s.blocks x ≡ b
IsEventOf b s (Accept c to) = to ≡ b
IsEventOf b s (Refuse c to) = to ≡ b
IsEventOf b s (Settle c to) = to ≡ b
IsEventOf b s RaiseAll = ⊥

-- what b took from c so far, with one more message, which also stands in front, where an event
-- looks for it: the event drops it there, and what is left is what b took
abbrev pub taken_with : State → ℕ → ℕ → Message → List Message
taken_with s b c m = m ∷ (way_at s.ways c b ++ m ∷ [])

-- block b does an event of its own, which leads from s to t. It takes a message that it may take so
-- and that fits in its own terms; or it takes none, and the event is enabled
abbrev pub DoesOwn : ℕ → State → Event → State → Type 0
DoesOwn b s (Accept c to) t =
    (to ≡ b) × (m : Message) × MayTake s b c m × MayAccept s (m ∷ []) × FitsArc s m
    × (t ≡ after_accept s c b (taken_with s b c m))
DoesOwn b s (Refuse c to) t =
    (to ≡ b) × (m : Message) × MayTake s b c m × MayRefuse s (m ∷ [])
    × (t ≡ after_refuse s c b (taken_with s b c m))
DoesOwn b s (Settle c to) t =
    (to ≡ b) × (m : Message) × MayTake s b c m × FitsFlight s m
    × (t ≡ after_settle s c b (taken_with s b c m))
DoesOwn b s e t = IsEventOf b s e × IsEnabled s e × (t ≡ effect s e)

-- events of block b, one after another, lead from s to t
abbrev pub IsHistory : ℕ → State → List Event → State → Type 0
IsHistory b s [] t = t ≡ s
IsHistory b s (e ∷ es) t = (mid : State) × DoesOwn b s e mid × IsHistory b mid es t

-- an event of block b that takes no message is enabled
abbrev pub MayStart : ℕ → State → Event → Type 0
MayStart b s (Accept c to) = ⊥
MayStart b s (Refuse c to) = ⊥
MayStart b s (Settle c to) = ⊥
MayStart b s e = IsEventOf b s e × IsEnabled s e
