-- What is true of variables that are decided one after another.
use Rattle.std.specs.Prelude.{◌≡◌, ℕ, ◌<◌, ◌≤◌, Bool, List, ℤ}
use Rattle.compile_cut.specs.Shown.{Hides}
use Rattle.label_energies.specs.declared.change.Move.{Move}
use Rattle.label_energies.specs.Energies.{Instance, IsInstance}
use Rattle.label_energies.specs.Moves.{IsAllowed}
use Rattle.site_bounds.specs.Decisions.{Decision, with_decisions, Passes, HavePassed, IsForced}
use Rattle.site_bounds.specs.Decisions.{AreForced}
use Rattle.move_energy.specs.Assignments.{IsSubmodular, IsOver}
use Rattle.site_bounds.specs.Decisions.{IsSmallestLeast, IsRest}
use Rattle.move_energy.specs.MoveValues.{move_value}

-- what passes the test is forced, in a function whose rises fall
abbrev pub PassingIsForced : Type 0
PassingIsForced =
    (E : (ℕ → Bool) → ℤ) (ds : List Decision) (i : ℕ) (b : Bool) → IsSubmodular E
    → Passes E ds i b → IsForced E ds i b

-- so what passed it, one after another, is forced
abbrev pub PassedAreForced : Type 0
PassedAreForced =
    (E : (ℕ → Bool) → ℤ) (ds : List Decision) → IsSubmodular E → HavePassed E ds → AreForced E ds

-- the least assignment with the fewest ones of a function that hides variables is, on those that
-- are not hidden, that of what it is least to
abbrev pub HidingIsLeast : Type 0
HidingIsLeast =
    (n r : ℕ) (E F : (ℕ → Bool) → ℤ) (z : ℕ → Bool) → n ≤ r → Hides n E F
    → IsSmallestLeast r F z → IsSmallestLeast n E z

-- the rises of the energies that a move makes fall, if its terms are regular
abbrev pub MoveIsSubmodular : Type 0
MoveIsSubmodular =
    (m : Instance) (move : Move) (f : ℕ → ℕ) → IsInstance m → IsAllowed m move f
    → IsSubmodular (move_value m move f)

-- these energies depend on the sites alone
abbrev pub MoveIsOverSites : Type 0
MoveIsOverSites =
    (m : Instance) (move : Move) (f : ℕ → ℕ) → IsInstance m → IsOver m.sites (move_value m move f)

-- each forced variable has its value in the least assignment with the fewest ones
abbrev pub ForcedIsLeast : Type 0
ForcedIsLeast =
    (n : ℕ) (E : (ℕ → Bool) → ℤ) (ds : List Decision) (x : ℕ → Bool) (i : ℕ) → AreForced E ds
    → IsSmallestLeast n E x → i < n → with_decisions ds x i ≡ x i

-- the least assignment with the fewest ones of what is left, put together with the forced values,
-- is that of the whole
abbrev pub RestAndForcedIsLeast : Type 0
RestAndForcedIsLeast =
    (n : ℕ) (E : (ℕ → Bool) → ℤ) (ds : List Decision) (r : ℕ) (R : (ℕ → Bool) → ℤ)
    (number variable : ℕ → ℕ)
    (z : ℕ → Bool)
    → IsOver n E → AreForced E ds → IsRest n E ds r R number variable → IsSmallestLeast r R z
    → IsSmallestLeast n E (with_decisions ds (λ i. z (number i)))

-- in a move whose terms are regular, the sites that passed the test are forced
abbrev pub PassedSitesAreForced : Type 0
PassedSitesAreForced =
    (m : Instance) (move : Move) (f : ℕ → ℕ) (ds : List Decision) → IsInstance m
    → IsAllowed m move f
    → HavePassed (move_value m move f) ds → AreForced (move_value m move f) ds
