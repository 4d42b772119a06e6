-- What every reachable state keeps.
use Rattle.std.specs.Prelude.{◌≡◌, ℕ, ◌+◌, ◌*◌, ◌-◌, ◌<◌, ◌≤◌, true, cond, ◌==◌, ◌&&◌, ◌||◌, Bool}
use Rattle.std.specs.Prelude.{List, [], length, slice_index, slice_index_or, sum, Option, Some}
use Rattle.std.specs.Prelude.{None, All, replicate}
use Rattle.std.specs.List.{AllPairs}
use Rattle.sums.specs.Sums.{sum_below, count_if}
use Rattle.flow_network.specs.Cut.{Network, nodes, IsNet}
use Rattle.flow_network.specs.Preflow.{arc_at}
use Rattle.flow_network.specs.Progress.{top}
use Rattle.block_events.specs.declared.direction.Direction.{Direction}
use Rattle.block_events.specs.declared.message.Message.{Message}
use Rattle.block_events.specs.declared.message.Message.TheVariants.{Parcel, Accepted, Refused}
use Rattle.block_events.specs.Directions.{IsDirection, near, far, opposite, forward, backward}
use Rattle.block_events.specs.Directions.{is_same, sum_leaving, over_directions}
use Rattle.block_events.specs.States.{State, Lanes, Flight, lane_at, way_at, over_messages}
use Rattle.block_events.specs.States.{excess_of, label_of, room_of, residual_of, known_of}
use Rattle.block_events.specs.States.{flight_of, near_block, far_block, is_border, seen_label}
use Rattle.block_events.specs.Effects.{state_of, opening_blocks}
use Rattle.block_events.specs.Events.{IsQuiet}
use Rattle.block_events.specs.Reach.{ReachesSink}

-- ---- messages

abbrev pub direction_of : Message → Direction
direction_of (Parcel x a d) = x
direction_of (Accepted x a) = x
direction_of (Refused x a d told) = x

-- the amount that is on the way in the message
abbrev pub carries : Message → ℕ
carries (Parcel x a d) = a
carries (Accepted x a) = 0
carries (Refused x a d told) = a

-- what a message carries along the arc
abbrev pub carries_on : ℕ → Message → ℕ
carries_on k m = count_if ((direction_of m).arc == k) (carries m)

-- 1 where the message names the direction, else 0
abbrev pub names : Direction → Message → ℕ
names x m = count_if (is_same (direction_of m) x) 1

-- 1 where a parcel is out, else 0
abbrev pub out : Option Flight → ℕ
out (Some f) = 1
out None = 0

-- the amount of the parcel that is out
abbrev pub amount_out : Option Flight → ℕ
amount_out (Some f) = f.amount
amount_out None = 0

-- a parcel of this amount and label is out on a border direction from block b to block c
pub record IsOut (net : Network) (blocks : ℕ) (lanes : Lanes) (x : Direction)
    (a d b c : ℕ) : Type 0 where
  pub direction : IsDirection net x
  pub border : is_border net blocks x ≡ true
  pub near : near_block net blocks x ≡ b
  pub far : far_block net blocks x ≡ c
  pub some : 1 ≤ a
  pub flight : (lane_at lanes x).flight ≡ Some (record { amount = a; label = d })

-- the message belongs into the way from block b to block c: it is of a parcel that is out, a parcel
-- goes with its direction and an answer against it, and a refusal tells a label that stands against
-- the parcel
abbrev pub Belongs : Network → ℕ → Lanes → List ℕ → ℕ → ℕ → Message → Type 0
Belongs net blocks lanes labels b c (Parcel x a d) = IsOut net blocks lanes x a d b c
Belongs net blocks lanes labels b c (Accepted x a) = (d : ℕ) × IsOut net blocks lanes x a d c b
Belongs net blocks lanes labels b c (Refused x a d told) =
    IsOut net blocks lanes x a d c b × (d ≤ told) × (told ≤ slice_index labels (far net x))

-- a parcel that stands before the answer that the opposite direction's parcel was taken lies below
-- the label of the node that it goes to
abbrev pub IsBehind : Network → List ℕ → Message → Message → Type 0
IsBehind net labels (Parcel x a d) (Accepted y n) = y ≡ opposite x
    → d < slice_index labels (far net x)
IsBehind net labels (Parcel x a d) m = Unit {0}
IsBehind net labels (Accepted x a) m = Unit {0}
IsBehind net labels (Refused x a d told) m = Unit {0}

-- ---- sizes

pub record IsSquare (n : ℕ) (ways : List (List (List Message))) : Type 0 where
  pub rows : length ways ≡ n
  pub columns : (b : ℕ) → b < n → length (slice_index_or ways b []) ≡ n

pub record IsSized (s : State) : Type 0 where
  pub net : IsNet s.net
  pub excess : length s.excess ≡ nodes s.net
  pub labels : length s.labels ≡ nodes s.net
  pub rooms : length s.rooms ≡ nodes s.net
  pub forth : length s.lanes.forth ≡ length s.net.arcs
  pub back : length s.lanes.back ≡ length s.net.arcs
  pub blocks : 1 ≤ s.blocks
  pub ways : IsSquare s.blocks s.ways

-- ---- soundness

-- the residual of a direction before any flow
abbrev pub first_residual : Network → Direction → ℕ
first_residual net x = cond x.back 0 (arc_at net x.arc).capacity

-- no flow is lost: what left the source is at the nodes, on the way or in the sink
pub record ConservesFlow (s : State) : Type 0 where
  -- the residuals of an arc and what is on the way on it are its capacity
  pub arcs : (k : ℕ) → k < length s.net.arcs
      → residual_of s (forward k) + residual_of s (backward k) + over_messages (carries_on k) s.ways
      ≡ (arc_at s.net k).capacity
  -- all excess, what is on the way and what the sink got are what the source sent
  pub total : sum s.excess + over_messages carries s.ways + s.got ≡ sum s.net.sources
  -- the sink got what the rooms lack
  pub got : s.got + sum s.rooms ≡ sum s.net.sinks
  pub rooms : (v : ℕ) → v < nodes s.net → room_of s v ≤ slice_index s.net.sinks v
  -- the excess is what the net and the residuals say, an amount on the way counted as sent by its
  -- near end
  pub balance : (v : ℕ) → v < nodes s.net
      → excess_of s v + slice_index s.net.sinks v + sum_leaving s.net v (first_residual s.net)
      ≡ slice_index s.net.sources v + room_of s v + sum_leaving s.net v (residual_of s)

-- a valid labelling: along a direction that can carry more, the label falls by at most 1
pub record HasValidLabels (s : State) : Type 0 where
  pub top : (v : ℕ) → v < nodes s.net → label_of s v ≤ top s.net
  pub sink : (v : ℕ) → v < nodes s.net → 0 < room_of s v → label_of s v ≤ 1
  -- by the label that is seen of the far end, which across a border is the one known
  pub steep : (x : Direction) → IsDirection s.net x → 0 < residual_of s x
      → label_of s (near s.net x) ≤ seen_label s x + 1
  -- and no label is below what is known of it
  pub known : (x : Direction) → IsDirection s.net x → is_border s.net s.blocks x ≡ true
      → known_of s x ≤ label_of s (far s.net x)

-- the messages on the way are those of the parcels that are out
pub record HasMessages (s : State) : Type 0 where
  -- a parcel is out exactly where one message names the direction
  pub named : (x : Direction) → IsDirection s.net x
      → over_messages (names x) s.ways ≡ out (flight_of s x)
  pub belong : (b c : ℕ) → All (Belongs s.net s.blocks s.lanes s.labels b c) (way_at s.ways b c)
  pub order : (b c : ℕ) → AllPairs (IsBehind s.net s.labels) (way_at s.ways b c)

-- a preflow with a valid labelling, of which some is on the way in messages
pub record IsSound (s : State) : Type 0 where
  pub sized : IsSized s
  pub flow : ConservesFlow s
  pub labels : HasValidLabels s
  -- where a parcel is out, on a border direction, its label and the label seen are those that it
  -- was sent by
  pub flights : (x : Direction) → IsDirection s.net x → (f : Flight) → flight_of s x ≡ Some f
      → (is_border s.net s.blocks x ≡ true) × (label_of s (near s.net x) ≡ known_of s x + 1)
      × (label_of s (near s.net x) ≡ f.label)
  pub messages : HasMessages s

-- no message is on the way, and no node with excess reaches the sink
pub record IsFinished (s : State) : Type 0 where
  pub quiet : IsQuiet s
  pub ended : (v : ℕ) → v < nodes s.net → 0 < excess_of s v → ¬ ReachesSink s v

-- ---- the opening

abbrev pub opening_state : Network → ℕ → State
opening_state net blocks =
    state_of (opening_blocks net blocks) (replicate blocks (replicate blocks [])) 0

-- ---- the count

-- how many border directions
abbrev pub borders : State → ℕ
borders s = over_directions (length s.net.arcs) (λ x. count_if (is_border s.net s.blocks x) 1)

-- how far labels and known labels can still rise
abbrev pub labels_to_rise : State → ℕ
labels_to_rise s =
    sum_below (nodes s.net) (λ v. top s.net - label_of s v)
    + over_directions (length s.net.arcs)
    (λ x. count_if (is_border s.net s.blocks x) (top s.net - known_of s x))

abbrev pub weight : Message → ℕ
weight (Parcel x a d) = 4 * (a * d) - 1
weight (Accepted x a) = 1
weight (Refused x a d told) = 4 * (a * d) - 2

-- how high excess and parcels stand
abbrev pub height : State → ℕ
height s = sum_below (nodes s.net) (λ v. 4 * (excess_of s v * label_of s v))
    + over_messages weight s.ways

-- more than the height can grow where a label rises by 1
abbrev pub unit : State → ℕ
unit s = 4 * (top s.net * sum s.net.sources) + borders s + 1

abbrev pub potential : State → ℕ
potential s = labels_to_rise s * unit s + height s

-- ---- room

-- do the direction's ends lie in these two blocks?
abbrev pub joins : Network → ℕ → ℕ → ℕ → Direction → Bool
joins net blocks b c x =
    ((near_block net blocks x == b) && (far_block net blocks x == c))
    || ((near_block net blocks x == c) && (far_block net blocks x == b))

-- how many directions lie between two blocks: as many messages the ways between them can have
abbrev pub room_between : Network → ℕ → ℕ → ℕ → ℕ
room_between net blocks b c =
    over_directions (length net.arcs) (λ x. count_if (joins net blocks b c x) 1)
