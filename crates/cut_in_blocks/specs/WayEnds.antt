-- One block's ends of the core's ways.
use Rattle.std.specs.Prelude.{◌≡◌, ◌≢◌, ℕ, ◌+◌, ◌*◌, ◌-◌, ◌<◌, ◌≤◌, Bool, not, cond, ◌==◌, ◌&&◌}
use Rattle.std.specs.Prelude.{nat_lt, List, [], ◌∷◌, ◌++◌, length, take, drop, slice_index, Option}
use Rattle.std.specs.Prelude.{Some, None}
use Rattle.block_events.specs.declared.direction.Direction.{Direction}
use Rattle.block_events.specs.declared.message.Message.{Message}
use Rattle.block_events.specs.declared.message.Message.TheVariants.{Parcel, Accepted, Refused}
use Rattle.block_events.specs.Directions.{opposite}
use Rattle.block_events.specs.States.{way_at}
use Rattle.block_net.specs.Limits.{arc_limit}
use Rattle.block_state.specs.AllWays.{AllWaysView, room_at}
use Rattle.block_discharge.specs.declared.letter.Letter.{Letter}
use Rattle.block_discharge.specs.Seen.{WaysView}
use Rattle.cut_in_blocks.specs.TurnEvents.{IsTurned}

-- which of how many blocks the ends are of, the ways when they were made and now, and of each
-- direction of so many arcs its place in its block
pub record WayEndsView : Type 0 where
  pub block : ℕ
  pub blocks : ℕ
  pub first : AllWaysView
  pub now : AllWaysView
  pub slots : List ℕ
  pub arcs : ℕ

abbrev pub way_ends_view : ℕ → ℕ → AllWaysView → AllWaysView → List ℕ → ℕ → WayEndsView
way_ends_view block blocks first now slots arcs =
    record { block = block; blocks = blocks; first = first; now = now; slots = slots; arcs = arcs }

-- the ways to and from block c, when the ends were made and now
abbrev pub first_to : WayEndsView → ℕ → List Message
first_to e c = way_at e.first.messages e.block c

abbrev pub now_to : WayEndsView → ℕ → List Message
now_to e c = way_at e.now.messages e.block c

abbrev pub first_from : WayEndsView → ℕ → List Message
first_from e c = way_at e.first.messages c e.block

abbrev pub now_from : WayEndsView → ℕ → List Message
now_from e c = way_at e.now.messages c e.block

-- another block
abbrev pub is_other_block : WayEndsView → ℕ → Bool
is_other_block e c = nat_lt c e.blocks && not (c == e.block)

-- the direction of a message, or its opposite: that which leaves the block that takes the message
abbrev pub outward_direction : Message → Direction
outward_direction (Parcel x a d) = opposite x
outward_direction (Accepted x a) = x
outward_direction (Refused x a d told) = x

-- the place of a direction in its block
abbrev pub place_in : WayEndsView → Direction → ℕ
place_in e x = cond (nat_lt x.arc e.arcs)
    (slice_index e.slots (cond x.back (e.arcs + x.arc) x.arc)) 0

-- the letter in front of a way
abbrev pub letter_of : WayEndsView → List Message → Option Letter
letter_of e [] = None
letter_of e (m ∷ rest) = Some (record { message = m; place = place_in e (outward_direction m) })

-- what was put beyond the ways as they were, what they lost in front, where room is left, and what
-- is in front
abbrev pub seen_by : WayEndsView → WaysView
seen_by e = record {
  sent = λ c. drop (length (first_to e c)) (now_to e c);
  taken = λ c. take (length (first_from e c) - length (now_from e c)) (first_from e c);
  room = λ c. is_other_block e c && nat_lt (length (now_to e c)) (room_at e.now.rooms e.block c);
  front = λ c. cond (is_other_block e c) (letter_of e (now_from e c)) None;
}

-- the ways differ from what they were by what was put and taken
pub record IsEnds (e : WayEndsView) : Type 0 where
  pub block : e.block < e.blocks
  pub slots : length e.slots ≡ 2 * e.arcs
  pub arcs : e.arcs ≤ arc_limit
  pub rooms : e.now.rooms ≡ e.first.rooms
  pub turned : IsTurned e.blocks e.block (seen_by e).sent (now_from e)
      e.first.messages e.now.messages
  pub takes : (c : ℕ) → c < e.blocks → e.block ≢ c
      → first_from e c ≡ (seen_by e).taken c ++ now_from e c
