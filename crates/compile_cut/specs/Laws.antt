-- What is true of every net that shows the values of an energy.
use Rattle.std.specs.Prelude.{◌≡◌, ℕ, ◌≤◌, Bool, ℤ, pos, ◌+ℤ◌}
use Rattle.pseudo_bool.specs.Energies.{Energy, value_at}
use Rattle.flow_network.specs.Cut.{Network, nodes, capacity_of, IsSmallestLeastCut}
use Rattle.compile_cut.specs.Shown.{Shows, ShowsValues, IsSmallestLeastAssignment}

-- the assignment that a smallest least cut shows is a least one, its ones are among the ones of
-- every least assignment, and its value is the cut's capacity and the constant (Kolmogorov and
-- Zabih 2004, section 3)
abbrev pub SmallestCutIsSmallestAssignment : Type 0
SmallestCutIsSmallestAssignment =
    (e : Energy) (net : Network) (constant : ℤ) (side x : ℕ → Bool) → e.variables ≤ nodes net
    → ShowsValues net constant e
    → IsSmallestLeastCut net side → Shows e.variables x side
    → IsSmallestLeastAssignment e x × (value_at e x ≡ pos (capacity_of net side) +ℤ constant)
