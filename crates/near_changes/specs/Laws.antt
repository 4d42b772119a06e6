-- The laws of stages, over the definitions alone.
use Rattle.std.specs.Prelude.{◌≡◌, ℕ, ◌<◌, Bool, false, List}
use Rattle.std.specs.List.{All}
use Rattle.move_energy.specs.declared.choice.Choice.{Choice}
use Rattle.label_energies.specs.declared.change.Move.TheVariants.{Expand}
use Rattle.label_energies.specs.Energies.{Instance, IsInstance, AreLabelsFree, labelling}
use Rattle.label_energies.specs.Moves.{IsAllowed, IsBest}
use Rattle.site_bounds.specs.Decisions.{IsSmallestLeast}
use Rattle.move_energy.specs.MoveValues.{move_value}
use Rattle.persistency.specs.Fixing.{with_choices, fixed_value, AreLeastZeros, OnesLieWithin}
use Rattle.persistency.specs.Fixing.{IsLeftOpen}
use Rattle.near_changes.specs.Fresh.{WasExpanded, AreFresh, HoldsNoFresh, HoldsFresh, IsApart}
use Rattle.near_changes.specs.Fresh.{IsPartOf}
use Rattle.near_changes.specs.declared.changes.Changes.{Changes}
use Rattle.near_changes.specs.Changes.{AreStamped, IsNotedMove}

-- ---- of the labellings that an expansion makes

-- of the sites that take the label, a part that stands by itself and holds no fresh site is empty
abbrev pub PartWithoutFreshIsEmpty : Type 0
PartWithoutFreshIsEmpty =
    (m : Instance) (a : ℕ) (f : ℕ → ℕ) (changed fresh s part : ℕ → Bool)
    → IsInstance m → WasExpanded m a changed f → AreFresh m a f changed fresh
    → IsSmallestLeast m.sites (move_value m (Expand a) f) s
    → IsPartOf m a f s part → HoldsNoFresh m.sites fresh part
    → (p : ℕ) → p < m.sites → part p ≡ false

-- where the sites that take the label lie within t, they lie within each set that holds the fresh
-- sites of t, and from which no pair leads to others of t that could take the label
abbrev pub ClosedSetHoldsLeast : Type 0
ClosedSetHoldsLeast =
    (m : Instance) (a : ℕ) (f : ℕ → ℕ) (changed fresh s t set : ℕ → Bool)
    → IsInstance m → WasExpanded m a changed f → AreFresh m a f changed fresh
    → IsSmallestLeast m.sites (move_value m (Expand a) f) s → OnesLieWithin m.sites s t
    → All (IsApart a f t set) m.pairs → HoldsFresh m.sites fresh t set → OnesLieWithin m.sites s set

-- where the sites that take the label lie within a set of open sites, and the set is a part of what
-- takes it while the others are fixed, the set is what takes the label
abbrev pub ClosedSetIsLeast : Type 0
ClosedSetIsLeast =
    (m : Instance) (a : ℕ) (f : ℕ → ℕ) (choice : ℕ → Choice) (s z set : ℕ → Bool)
    → IsInstance m → IsSmallestLeast m.sites (move_value m (Expand a) f) s
    → IsSmallestLeast m.sites (fixed_value (move_value m (Expand a) f) choice) z
    → OnesLieWithin m.sites s set → IsPartOf m a f (with_choices choice z) set
    → IsLeftOpen m.sites choice set
    → IsSmallestLeast m.sites (move_value m (Expand a) f) set

-- a set of open sites that is a part of what takes the label while the others are fixed, and holds
-- the fresh sites of that, is what takes the label
abbrev pub ClosedStageEndsMove : Type 0
ClosedStageEndsMove =
    (m : Instance) (a : ℕ) (f : ℕ → ℕ) (changed fresh : ℕ → Bool) (choice : ℕ → Choice)
    (z set : ℕ → Bool)
    → IsInstance m → IsAllowed m (Expand a) f
    → WasExpanded m a changed f → AreFresh m a f changed fresh
    → AreLeastZeros m.sites (move_value m (Expand a) f) choice
    → IsSmallestLeast m.sites (fixed_value (move_value m (Expand a) f) choice) z
    → IsPartOf m a f (with_choices choice z) set
    → HoldsFresh m.sites fresh (with_choices choice z) set
    → IsLeftOpen m.sites choice set → IsSmallestLeast m.sites (move_value m (Expand a) f) set

-- ---- of what a run of expansions remembers

-- an expansion that is noted, with what took its label, leaves what is remembered true of the
-- labels that it made
abbrev pub NotedMoveIsStamped : Type 0
NotedMoveIsStamped =
    (m : Instance) (a : ℕ) (f g : List ℕ) (took : ℕ → Bool) (old new : Changes)
    → AreLabelsFree m → IsBest m (Expand a) f g
    → ((p : ℕ) → p < m.sites → took p ≡ false → labelling g p ≡ labelling f p)
    → IsNotedMove a took old new
    → AreStamped m (labelling f) old → AreStamped m (labelling g) new
