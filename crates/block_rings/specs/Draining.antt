-- What is left in rings goes to ways.
use Rattle.std.specs.Prelude.{◌≡◌, ◌≢◌, ℕ, ◌+◌, ◌<◌, ◌≤◌, List, ◌++◌, length}
use Rattle.block_events.specs.declared.message.Message.{Message}
use Rattle.block_events.specs.States.{way_at, put_way}
use Rattle.block_events.specs.Soundness.{IsSquare}
use Rattle.block_state.specs.AllWays.{room_at}
use Rattle.block_rings.specs.Left.{AreKeptByWays}
use Rattle.block_rings.specs.Links.{Link, AreLinks, down, up, left_in}

-- the ways have room for what is left in the rings of a link, and keep it
pub record IsFitting (rooms : List (List ℕ)) (ways : List (List (List Message)))
    (l : Link) : Type 0 where
  pub room_down : length (way_at ways l.first l.second) + length (down l)
      ≤ room_at rooms l.first l.second
  pub room_up : length (way_at ways l.second l.first) + length (up l)
      ≤ room_at rooms l.second l.first
  pub arcs_down : AreKeptByWays (down l)
  pub arcs_up : AreKeptByWays (up l)

-- what is left in the rings of a link goes to the ends of the ways
abbrev pub ways_after_drain : Link → List (List (List Message)) → List (List (List Message))
ways_after_drain l ways =
    put_way (put_way ways l.first l.second
    (way_at ways l.first l.second ++ down l)) l.second l.first
    (way_at ways l.second l.first ++ up l)

-- the ways have room for what is left in the rings, and keep it
pub record HaveRoom (blocks : ℕ) (rooms : List (List ℕ)) (links : List Link) : Type 0 where
  pub room : (b c : ℕ) → b < blocks → c < blocks → b ≢ c
      → length (left_in links b c) ≤ room_at rooms b c
  pub arcs : (b c : ℕ) → b < blocks → c < blocks → b ≢ c → AreKeptByWays (left_in links b c)

-- what was left in the rings is on the ways, but for what is left in the rings of these links
pub record AreDraining (blocks : ℕ) (first links : List Link) (ways : List (List (List Message)))
    : Type 0 where
  pub square : IsSquare blocks ways
  pub linked : AreLinks blocks links
  pub whole : (b c : ℕ) → b < blocks → c < blocks
      → way_at ways b c ++ left_in links b c ≡ left_in first b c
