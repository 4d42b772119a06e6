-- The two directions of each arc of a net.
use Rattle.std.specs.Prelude.{ℕ, ◌+◌, ◌<◌, Bool, true, false, not, cond, ◌==◌, ◌&&◌, length}
use Rattle.sums.specs.Sums.{sum_below, count_if}
use Rattle.flow_network.specs.Cut.{Network}
use Rattle.flow_network.specs.Preflow.{arc_at}
use Rattle.block_events.specs.declared.direction.Direction.{Direction}

-- from the arc's tail to its head
abbrev pub forward : ℕ → Direction
forward k = record { arc = k; back = false }

-- from the arc's head to its tail
abbrev pub backward : ℕ → Direction
backward k = record { arc = k; back = true }

abbrev pub opposite : Direction → Direction
opposite x = record { arc = x.arc; back = not x.back }

abbrev pub alike : Bool → Bool → Bool
alike true b = b
alike false b = not b

-- are they one direction?
abbrev pub is_same : Direction → Direction → Bool
is_same x y = (x.arc == y.arc) && alike x.back y.back

-- the net has the direction
abbrev pub IsDirection : Network → Direction → Type 0
IsDirection net x = x.arc < length net.arcs

-- the node that the direction leaves
abbrev pub near : Network → Direction → ℕ
near net x = cond x.back (arc_at net x.arc).to (arc_at net x.arc).from

-- the node that it leads to
abbrev pub far : Network → Direction → ℕ
far net x = cond x.back (arc_at net x.arc).from (arc_at net x.arc).to

-- the sum over both directions of each of m arcs
abbrev pub over_directions : ℕ → (Direction → ℕ) → ℕ
over_directions m f = sum_below m (λ k. f (forward k) + f (backward k))

-- the sum over the directions that leave a node
abbrev pub sum_leaving : Network → ℕ → (Direction → ℕ) → ℕ
sum_leaving net v f = over_directions (length net.arcs) (λ x. count_if (near net x == v) (f x))
