-- The laws of swaps that are made once more, over the definitions alone.
use Rattle.std.specs.Prelude.{◌≡◌, ◌≢◌, ℕ, ◌<◌, Bool, true, cond}
use Rattle.std.specs.List.{All}
use Rattle.label_energies.specs.declared.change.Move.TheVariants.{Swap}
use Rattle.label_energies.specs.Energies.{Instance, IsInstance}
use Rattle.label_energies.specs.Moves.{IsAllowed}
use Rattle.move_energy.specs.MoveValues.{move_value}
use Rattle.near_changes.specs.Fresh.{AreFresh, HoldsFresh}
use Rattle.near_swaps.specs.Swaps.{kept_values, WasSwapped, KeepsOutside, IsClosedAt}
use Rattle.near_swaps.specs.Swaps.{AreLeastBetween, may_turn_at}
use Rattle.site_bounds.specs.Decisions.{IsSmallestLeast}

-- where each site outside t keeps its label by the least values, each does outside a set that holds
-- the fresh sites of t, and from which no pair leads to another site of t. No site has the label
-- `none`, so each that changed is fresh, and each beside one that did
abbrev pub ClosedSetHoldsChanges : Type 0
ClosedSetHoldsChanges =
    (m : Instance) (a b none : ℕ) (f : ℕ → ℕ) (changed fresh s t set : ℕ → Bool)
    → IsInstance m → WasSwapped m a b changed f
    → ((p : ℕ) → p < m.sites → f p ≢ none) → AreFresh m none f changed fresh
    → IsSmallestLeast m.sites (move_value m (Swap a b) f) s → KeepsOutside m.sites b f t s
    → All (IsClosedAt t set) m.pairs → HoldsFresh m.sites fresh t set
    → KeepsOutside m.sites b f set s

-- where both bounds are the same in such a set of the sites that may turn, the least values with
-- the fewest ones are these bounds there, and all else keeps its label
abbrev pub ClosedSetEndsSwap : Type 0
ClosedSetEndsSwap =
    (m : Instance) (a b none : ℕ) (f : ℕ → ℕ) (changed fresh lower upper set x : ℕ → Bool)
    → IsInstance m → IsAllowed m (Swap a b) f → WasSwapped m a b changed f
    → ((p : ℕ) → p < m.sites → f p ≢ none) → AreFresh m none f changed fresh
    → AreLeastBetween m.sites (move_value m (Swap a b) f) lower upper
    → All (IsClosedAt (may_turn_at b f lower upper) set) m.pairs
    → HoldsFresh m.sites fresh (may_turn_at b f lower upper) set
    → ((p : ℕ) → p < m.sites → set p ≡ true → lower p ≡ upper p)
    → ((p : ℕ) → p < m.sites → x p ≡ cond (set p) (lower p) (kept_values b f p))
    → IsSmallestLeast m.sites (move_value m (Swap a b) f) x
