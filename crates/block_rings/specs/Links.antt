-- What is seen of the rings between blocks.
use Rattle.std.specs.Prelude.{◌≡◌, ℕ, ◌+◌, ◌<◌, ◌≤◌, ◌==◌, ◌&&◌, Bool, cond, List, [], ◌∷◌, ◌++◌}
use Rattle.std.specs.Prelude.{length, map}
use Rattle.std.specs.Prelude.{Option, Some, None}
use Rattle.block_events.specs.declared.message.Message.{Message}
use Rattle.block_workers.specs.declared.port.Port.{Port}
use Rattle.block_workers.specs.Ports.{other, letters_put, letters_taken, capacity}
use Rattle.block_workers.specs.Seeing.{messages}
use Rattle.block_rings.specs.Left.{rest_of}
use Rattle.block_rings.specs.declared.pair.PortPair.{PortPair}

-- what was put into a port and taken from it so far, and how many letters the ring that is put into
-- has room for
pub record Traffic : Type 0 where
  pub sent : List Message
  pub taken : List Message
  pub room : ℕ

abbrev pub traffic : Port → Traffic
traffic p = record {
  sent = messages (letters_put p);
  taken = messages (letters_taken p);
  room = capacity p;
}

-- what went through a port; nothing where there is none
abbrev pub traffic_of : Option Traffic → Traffic
traffic_of None = record { sent = []; taken = []; room = 0 }
traffic_of (Some t) = t

-- two blocks that have ports to one another, and what went through the port of each
pub record Link : Type 0 where
  pub first : ℕ
  pub second : ℕ
  pub of_first : Traffic
  pub of_second : Traffic

-- each port leads to the other one's block
abbrev pub link : PortPair → Link
link p = record {
  first = other p.second;
  second = other p.first;
  of_first = traffic p.first;
  of_second = traffic p.second;
}

abbrev pub links_of : List PortPair → List Link
links_of pairs = map (λ (p : PortPair). link p) pairs

abbrev pub is_link_of : Link → ℕ → ℕ → Bool
is_link_of l b c = (b == l.first) && (c == l.second)

-- what went through the port of block b to block c, where there is one
abbrev pub link_in : List Link → ℕ → ℕ → Option Traffic
link_in [] b c = None
link_in (l ∷ links) b c =
    cond (is_link_of l b c) (Some l.of_first)
    (cond (is_link_of l c b) (Some l.of_second) (link_in links b c))

-- each link is of two blocks below `blocks`, the higher number first, and no two are of the same
-- blocks
abbrev pub AreLinks : ℕ → List Link → Type 0
AreLinks blocks [] = Unit {0}
AreLinks blocks (l ∷ links) =
    (l.second < l.first) × (l.first < blocks) × (link_in links l.first l.second ≡ None)
    × AreLinks blocks links

-- what is left in the ring from the first block to the second, and in that back
abbrev pub down : Link → List Message
down l = rest_of l.of_first.sent l.of_second.taken

abbrev pub up : Link → List Message
up l = rest_of l.of_second.sent l.of_first.taken

-- in the rings of a link, what was put is what was taken, followed by what is left, for which there
-- is room
pub record IsLinkSeen (l : Link) : Type 0 where
  pub down : l.of_first.sent ≡ l.of_second.taken ++ down l
  pub up : l.of_second.sent ≡ l.of_first.taken ++ up l
  pub few_down : length l.of_first.sent ≤ length l.of_second.taken + l.of_first.room
  pub few_up : length l.of_second.sent ≤ length l.of_first.taken + l.of_second.room

-- what is left in the ring from block b to block c
abbrev pub left_in : List Link → ℕ → ℕ → List Message
left_in links b c = rest_of (traffic_of (link_in links b c)).sent
    (traffic_of (link_in links c b)).taken

-- the rings between so many blocks
pub record RingsView : Type 0 where
  pub blocks : ℕ
  pub links : List Link

-- what block b put for block c so far
abbrev pub sent_in : RingsView → ℕ → ℕ → List Message
sent_in rings b c = (traffic_of (link_in rings.links b c)).sent

-- what block b took from block c so far
abbrev pub taken_in : RingsView → ℕ → ℕ → List Message
taken_in rings b c = (traffic_of (link_in rings.links b c)).taken

-- how many messages the ring from block b to block c has room for
abbrev pub ring_room : RingsView → ℕ → ℕ → ℕ
ring_room rings b c = (traffic_of (link_in rings.links b c)).room

-- no ring has more than it has room for
abbrev pub AreWithinRoom : RingsView → Type 0
AreWithinRoom rings = (b c : ℕ)
    → length (sent_in rings b c) ≤ length (taken_in rings c b) + ring_room rings b c
