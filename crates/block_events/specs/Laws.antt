-- The laws of the core, over the definitions alone.
use Rattle.std.specs.Prelude.{◌≡◌, ◌≢◌, ℕ, ◌+◌, ◌*◌, ◌<◌, ◌≤◌, ◌⊎◌, Bool, List, ◌∷◌, length, sum}
use Rattle.std.specs.Prelude.{Some}
use Rattle.flow_network.specs.Cut.{Network, nodes, IsNet, capacity_of, IsSmallestLeastCut}
use Rattle.flow_network.specs.Progress.{top}
use Rattle.block_events.specs.declared.event.Event.{Event}
use Rattle.block_events.specs.declared.event.Event.TheVariants.{RaiseAll}
use Rattle.flow_network.specs.Preflow.{arc_at, IsCertified}
use Rattle.block_events.specs.declared.direction.Direction.{Direction}
use Rattle.block_events.specs.declared.message.Message.{Message}
use Rattle.block_events.specs.declared.message.Message.TheVariants.{Parcel, Refused}
use Rattle.block_events.specs.Directions.{far, opposite}
use Rattle.block_events.specs.States.{State, way_at, label_of, excess_of, residual_of, flight_of}
use Rattle.block_events.specs.Reach.{IsReachOf}
use Rattle.block_events.specs.Flows.{shown_flow}
use Rattle.block_events.specs.Events.{IsQuiet, IsEnabled, Happens, IsRunOfEvents, steps}
use Rattle.block_events.specs.Soundness.{IsSound, IsFinished, opening_state, borders, unit}
use Rattle.block_events.specs.Soundness.{potential, room_between, amount_out, carries}

-- an event leads to one state
abbrev pub HasOneEffect : Type 0
HasOneEffect = (s t u : State) (e : Event) → Happens s e t → Happens s e u → t ≡ u

-- each event keeps what is sound
abbrev pub EventKeeps : Type 0
EventKeeps = (s t : State) (e : Event) → IsSound s → Happens s e t → IsSound t

-- each event but `RaiseAll` lowers the count
abbrev pub EventLowers : Type 0
EventLowers = (s t : State) (e : Event) → IsSound s → Happens s e t → e ≢ RaiseAll
    → potential t < potential s

-- and `RaiseAll` does not raise it
abbrev pub RaiseNeverRaises : Type 0
RaiseNeverRaises = (s t : State) → IsSound s → Happens s RaiseAll t → potential t ≤ potential s

-- the opening state is sound
abbrev pub OpeningIsSound : Type 0
OpeningIsSound = (net : Network) (blocks : ℕ) → IsNet net → 1 ≤ blocks
    → IsSound (opening_state net blocks)

-- its count is N * (n + B) * (4 * N * U + B + 1)
abbrev pub OpeningCount : Type 0
OpeningCount = (net : Network) (blocks : ℕ) → IsNet net → 1 ≤ blocks
    → potential (opening_state net blocks)
    ≡ top net * (nodes net + borders (opening_state net blocks)) * unit (opening_state net blocks)

-- a list of events from the opening leads to a sound state, and has at most as many events other
-- than `RaiseAll` as the count of the opening
pub record IsRunOf (net : Network) (blocks : ℕ) (es : List Event) (t : State) : Type 0 where
  pub sound : IsSound t
  pub few : steps es + potential t ≤ potential (opening_state net blocks)

abbrev pub EveryList : Type 0
EveryList =
    (net : Network) (blocks : ℕ) (es : List Event) (t : State) → IsNet net → 1 ≤ blocks
    → IsRunOfEvents (opening_state net blocks) es t → IsRunOf net blocks es t

-- a sound state is finished or has an enabled event other than `RaiseAll`
abbrev pub GoesOn : Type 0
GoesOn = (s : State) → IsSound s → ((e : Event) × (e ≢ RaiseAll) × IsEnabled s e) ⊎ IsFinished s

-- in a sound and finished state the nodes that reach the sink are the smallest least cut, and the
-- sink got its capacity
pub record IsSmallestAndFullIn (s : State) (side : ℕ → Bool) : Type 0 where
  pub smallest : IsSmallestLeastCut s.net side
  pub full : s.got ≡ capacity_of s.net side

abbrev pub FinishedIsSmallest : Type 0
FinishedIsSmallest =
    (s : State) (side : ℕ → Bool) → IsSound s → IsFinished s → IsReachOf s side
    → IsSmallestAndFullIn s side

-- and the flow that the state shows certifies that cut, with what the sink got as its value
abbrev pub FinishedIsCertified : Type 0
FinishedIsCertified =
    (s : State) (side : ℕ → Bool) → IsSound s → IsFinished s → IsReachOf s side
    → IsCertified s.net (shown_flow s) side s.got

-- a way has at most as many messages as directions lie between its blocks
abbrev pub WayFits : Type 0
WayFits =
    (s : State) (b c : ℕ) → IsSound s → b < s.blocks → c < s.blocks
    → length (way_at s.ways b c) ≤ room_between s.net s.blocks b c

-- a parcel that is to be taken fits in the receiver's own terms: its label is within the labels,
-- and its amount within the arc beside the residual and the flight of the opposite direction
abbrev pub AcceptFits : Type 0
AcceptFits =
    (s : State) (b c : ℕ) (x : Direction) (a d : ℕ) (rest : List Message) → IsSound s
    → way_at s.ways b c ≡ Parcel x a d ∷ rest
    → label_of s (far s.net x) + 1 ≡ d
    → (d ≤ top s.net) × (residual_of s (opposite x) + amount_out (flight_of s (opposite x)) + a
    ≤ (arc_at s.net x.arc).capacity)

-- a refusal in front fits in the sender's own terms
abbrev pub SettleFits : Type 0
SettleFits =
    (s : State) (b c : ℕ) (x : Direction) (a d told : ℕ) (rest : List Message) → IsSound s
    → way_at s.ways b c ≡ Refused x a d told ∷ rest
    → (told ≤ top s.net) × (flight_of s x ≡ Some (record { amount = a; label = d }))
    × (residual_of s x + a ≤ (arc_at s.net x.arc).capacity)

-- an excess and what a message in front carries are within what the source sends
abbrev pub ExcessFits : Type 0
ExcessFits =
    (s : State) (b c v : ℕ) (m : Message) (rest : List Message) → IsSound s
    → way_at s.ways b c ≡ m ∷ rest
    → v < nodes s.net
    → excess_of s v + carries m ≤ sum s.net.sources

-- where no message is on the way, what the sink got is at most the capacity of each cut
abbrev pub SinkGotAtMostEachCut : Type 0
SinkGotAtMostEachCut = (s : State) (side : ℕ → Bool) → IsSound s → IsQuiet s
    → s.got ≤ capacity_of s.net side
