-- Ports that are paired, one pair after another.
use Rattle.std.specs.Prelude.{◌≡◌, ℕ, ◌+◌, ◌*◌, ◌<◌, ◌≤◌, List, [], length, slice_index_or}
use Rattle.std.specs.Prelude.{Option, Some, None}
use Rattle.block_workers.specs.declared.port.Port.{Port}
use Rattle.block_workers.specs.Ports.{other}
use Rattle.block_workers.specs.Seeing.{AreRising}
use Rattle.block_rings.specs.Joined.{port_to}
use Rattle.block_rings.specs.declared.pair.PortPair.{PortPair}
use Rattle.block_rings.specs.Mated.{AreMated, ports_in}
use Rattle.block_rings.specs.Links.{Link, Traffic, traffic, link_in, AreLinks}

-- what went through a port, where there is one
abbrev pub option_traffic : Option Port → Option Traffic
option_traffic None = None
option_traffic (Some p) = Some (traffic p)

-- no port leads to a block from `top` on, and there is room for all pairs
pub record IsReadyToPair (blocks top : ℕ) (lists : List (List Port))
    (count capacity : ℕ) : Type 0 where
  pub mated : AreMated blocks lists
  pub low : (b c : ℕ) → top ≤ c → port_to lists b c ≡ None
  pub room : ports_in lists + 2 * count ≤ 2 * capacity

-- a port of block b, and the port that it leads to, were taken out
pub record IsTakenOut (blocks b : ℕ) (old new : List (List Port)) (p : PortPair) : Type 0 where
  pub block : other p.second ≡ b
  pub lower : other p.first < b
  pub there : port_to old b (other p.first) ≡ Some p.first
  pub back : port_to old (other p.first) b ≡ Some p.second
  pub gone_there : port_to new b (other p.first) ≡ None
  pub gone_back : port_to new (other p.first) b ≡ None
  pub rest : (x y : ℕ) → (x ≡ b → y ≡ other p.first → ⊥) → (x ≡ other p.first → y ≡ b → ⊥)
      → port_to new x y ≡ port_to old x y
  pub len : length new ≡ length old
  pub rising : (x : ℕ) → AreRising blocks (slice_index_or new x [])
  pub fewer : ports_in new + 2 ≡ ports_in old
  pub row : length (slice_index_or new b []) + 1 ≡ length (slice_index_or old b [])

-- of the ports that there were at first those of these links were taken out, and these lists are
-- left
pub record ArePaired (blocks : ℕ) (first lists : List (List Port))
    (links : List Link) : Type 0 where
  pub linked : AreLinks blocks links
  pub taken : (b c : ℕ) (t : Traffic) → link_in links b c ≡ Some t
      → (option_traffic (port_to first b c) ≡ Some t) × (port_to lists b c ≡ None)
  pub rest : (b c : ℕ) → link_in links b c ≡ None → port_to lists b c ≡ port_to first b c

-- ports that were paired still are, and what is left of the lists is what the links leave
abbrev pub Pairs : ℕ → List (List Port) → List Link → List (List Port) → List Link → Type 0
Pairs blocks lists links new_lists new_links =
    (first : List (List Port)) → ArePaired blocks first lists links
    → ArePaired blocks first new_lists new_links
