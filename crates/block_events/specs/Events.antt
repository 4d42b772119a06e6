-- The eight events: when each is enabled, and what it does.
use Rattle.std.specs.Prelude.{◌≡◌, ℕ, zero, suc, ◌+◌, ◌<◌, ◌≤◌, Bool, true, false, cond, ◌==◌, ◌&&◌}
use Rattle.std.specs.Prelude.{◌||◌, nat_lt, min, List, [], ◌∷◌, length, None}
use Rattle.std.specs.Option.{is_some}
use Rattle.flow_network.specs.Cut.{nodes}
use Rattle.flow_network.specs.Progress.{top}
use Rattle.block_events.specs.declared.direction.Direction.{Direction}
use Rattle.block_events.specs.declared.message.Message.{Message}
use Rattle.block_events.specs.declared.message.Message.TheVariants.{Parcel, Accepted, Refused}
use Rattle.block_events.specs.declared.event.Event.{Event}
use Rattle.block_events.specs.declared.event.Event.TheVariants.{PushInner, PushSink, Relabel, Send}
use Rattle.block_events.specs.declared.event.Event.TheVariants.{Accept, Refuse, Settle, RaiseAll}
use Rattle.block_events.specs.Directions.{IsDirection, near, far, forward, backward}
use Rattle.block_events.specs.States.{State, way_at, put_way, put_message, excess_of, label_of}
use Rattle.block_events.specs.States.{room_of, residual_of, known_of, flight_of, near_block}
use Rattle.block_events.specs.States.{far_block, is_border, seen_label, IsWay}
use Rattle.block_events.specs.Effects as effects
use Rattle.block_events.specs.Effects.{state_of, view_of, blocks_with_known_labels}
use Rattle.block_events.specs.Reach.{AreExact}

-- the node has excess, and is not cut off
pub record IsActive (s : State) (v : ℕ) : Type 0 where
  pub node : v < nodes s.net
  pub excess : 0 < excess_of s v
  pub below : label_of s v < top s.net

-- ---- what each event does

-- an amount goes along a direction to the far end
abbrev pub after_push : State → Direction → ℕ → State
after_push s x a = state_of (effects.blocks_after_push (view_of s) x a) s.ways s.got

-- an amount goes to the sink
abbrev pub after_sink_push : State → ℕ → ℕ → State
after_sink_push s v a = state_of (effects.blocks_after_sink_push (view_of s) v a) s.ways (s.got + a)

abbrev pub after_relabel : State → ℕ → ℕ → State
after_relabel s v d = state_of (effects.blocks_after_relabel (view_of s) v d) s.ways s.got

-- an amount leaves in a parcel
abbrev pub after_send : State → Direction → ℕ → State
after_send s x a =
    let parcel = Parcel x a (label_of s (near s.net x)) in
    state_of (effects.blocks_after_send (view_of s) x a)
    (put_message s.ways (near_block s.net s.blocks x) (far_block s.net s.blocks x) parcel) s.got

-- the parcel in front is taken
abbrev pub after_accept : State → ℕ → ℕ → List Message → State
after_accept s b c (Parcel x a d ∷ rest) =
    state_of (effects.blocks_after_accept (view_of s) x a d)
    (put_message (put_way s.ways b c rest) c b (Accepted x a)) s.got
after_accept s b c way = s

-- the parcel in front is sent back, with the label that stands against it
abbrev pub after_refuse : State → ℕ → ℕ → List Message → State
after_refuse s b c (Parcel x a d ∷ rest) = record s {
  ways = put_message (put_way s.ways b c rest) c b (Refused x a d (label_of s (far s.net x)));
}
after_refuse s b c way = s

-- the answer in front ends the flight
abbrev pub after_settle : State → ℕ → ℕ → List Message → State
after_settle s b c (Accepted x a ∷ rest) =
    state_of (effects.blocks_after_delivery (view_of s) x) (put_way s.ways b c rest) s.got
after_settle s b c (Refused x a d told ∷ rest) =
    state_of (effects.blocks_after_return (view_of s) x a told) (put_way s.ways b c rest) s.got
after_settle s b c way = s

-- new labels for all nodes, which each border direction knows; inner directions know nothing
abbrev pub after_raise_all : State → List ℕ → State
after_raise_all s labels =
    state_of (blocks_with_known_labels (record (view_of s) { labels = labels })) s.ways s.got

-- ---- the new label

-- the least of z and n numbers
abbrev pub least_below : ℕ → (ℕ → ℕ) → ℕ → ℕ
least_below zero f z = z
least_below (suc n) f z = min (least_below n f z) (f n)

-- a direction counts for the label of its near end: it is residual, or at a border in flight
abbrev pub is_open_direction : State → Direction → Bool
is_open_direction s x = nat_lt 0 (residual_of s x)
    || (is_border s.net s.blocks x && is_some (flight_of s x))

-- the highest label of v that the direction allows
abbrev pub allowed_label : State → ℕ → Direction → ℕ
allowed_label s v x = cond ((near s.net x == v) && is_open_direction s x)
    (seen_label s x + 1) (top s.net)

-- the highest label that v may have: the least of N, 1 where it can give the sink, and 1 more than
-- the label seen over each open direction
abbrev pub highest_label : State → ℕ → ℕ
highest_label s v =
    least_below (length s.net.arcs)
    (λ k. min (allowed_label s v (forward k)) (allowed_label s v (backward k)))
    (cond (nat_lt 0 (room_of s v)) 1 (top s.net))

-- ---- when each event is enabled

abbrev pub MayAccept : State → List Message → Type 0
MayAccept s (Parcel x a d ∷ rest) = label_of s (far s.net x) + 1 ≡ d
MayAccept s way = ⊥

abbrev pub MayRefuse : State → List Message → Type 0
MayRefuse s (Parcel x a d ∷ rest) = d ≤ label_of s (far s.net x)
MayRefuse s way = ⊥

abbrev pub MaySettle : List Message → Type 0
MaySettle (Accepted x a ∷ rest) = Unit {0}
MaySettle (Refused x a d told ∷ rest) = Unit {0}
MaySettle way = ⊥

-- no message is on the way
abbrev pub IsQuiet : State → Type 0
IsQuiet s = (b c : ℕ) → b < s.blocks → c < s.blocks → way_at s.ways b c ≡ []

abbrev pub IsEnabled : State → Event → Type 0
IsEnabled s (PushInner x) =
    IsDirection s.net x × (is_border s.net s.blocks x ≡ false) × IsActive s (near s.net x)
    × (0 < residual_of s x) × (label_of s (near s.net x) ≡ label_of s (far s.net x) + 1)
IsEnabled s (PushSink v) = IsActive s v × (0 < room_of s v) × (label_of s v ≡ 1)
IsEnabled s (Relabel v) = IsActive s v × (label_of s v < highest_label s v)
IsEnabled s (Send x) =
    IsDirection s.net x × (is_border s.net s.blocks x ≡ true) × IsActive s (near s.net x)
    × (0 < residual_of s x) × (label_of s (near s.net x) ≡ known_of s x + 1)
    × (flight_of s x ≡ None)
IsEnabled s (Accept b c) = IsWay s b c × MayAccept s (way_at s.ways b c)
IsEnabled s (Refuse b c) = IsWay s b c × MayRefuse s (way_at s.ways b c)
IsEnabled s (Settle b c) = IsWay s b c × MaySettle (way_at s.ways b c)
IsEnabled s RaiseAll = IsQuiet s

-- what an event other than `RaiseAll` makes of the state
abbrev pub effect : State → Event → State
effect s (PushInner x) = after_push s x (min (excess_of s (near s.net x)) (residual_of s x))
effect s (PushSink v) = after_sink_push s v (min (excess_of s v) (room_of s v))
effect s (Relabel v) = after_relabel s v (highest_label s v)
effect s (Send x) = after_send s x (min (excess_of s (near s.net x)) (residual_of s x))
effect s (Accept b c) = after_accept s b c (way_at s.ways b c)
effect s (Refuse b c) = after_refuse s b c (way_at s.ways b c)
effect s (Settle b c) = after_settle s b c (way_at s.ways b c)
effect s RaiseAll = s

-- t is what the event makes of s
abbrev pub IsEffect : State → Event → State → Type 0
IsEffect s RaiseAll t = (labels : List ℕ) × AreExact s labels × (t ≡ after_raise_all s labels)
IsEffect s e t = t ≡ effect s e

-- the event is enabled in s and leads to t
pub record Happens (s : State) (e : Event) (t : State) : Type 0 where
  pub enabled : IsEnabled s e
  pub effect : IsEffect s e t

-- one event after another
abbrev pub IsRunOfEvents : State → List Event → State → Type 0
IsRunOfEvents s [] t = t ≡ s
IsRunOfEvents s (e ∷ es) t = (mid : State) × Happens s e mid × IsRunOfEvents mid es t

-- how many events are not `RaiseAll`
abbrev pub steps : List Event → ℕ
steps [] = 0
steps (RaiseAll ∷ es) = steps es
steps (e ∷ es) = 1 + steps es
