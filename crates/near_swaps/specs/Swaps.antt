-- A swap of two labels that is made once more, after some sites changed (Boykov, Veksler, Zabih,
-- PAMI 2001, for what a swap is): which of its sites can get another label. What labels cost by
-- themselves is left out: a swap is made only where they cost nothing.
use Rattle.std.specs.Prelude.{◌≡◌, ◌≢◌, ◌==◌, ℕ, ◌<◌, Bool, true, false, not, ℤ}
use Rattle.label_field.specs.declared.pair.Pair.{Pair}
use Rattle.label_energies.specs.declared.change.Move.{Move}
use Rattle.label_energies.specs.declared.change.Move.TheVariants.{Swap}
use Rattle.label_energies.specs.Energies.{Instance}
use Rattle.move_energy.specs.MoveValues.{move_value}
use Rattle.move_energy.specs.declared.choice.Choice.{Choice}
use Rattle.near_changes.specs.Fresh.{AreChangesMarked, AreFresh}
use Rattle.persistency.specs.Fixing.{OnesLieWithin, AreLeastZeros}
use Rattle.site_bounds.specs.Decisions.{IsSmallestLeast}

-- the values by which the sites of a swap keep their labels: those of label b have 1
abbrev pub kept_values : ℕ → (ℕ → ℕ) → ℕ → Bool
kept_values b f p = f p == b

-- of all values, those that keep the labels are the least with the fewest ones
abbrev pub IsSettled : Instance → ℕ → ℕ → (ℕ → ℕ) → Type 0
IsSettled m a b f = IsSmallestLeast m.sites (move_value m (Swap a b) f) (kept_values b f)

-- the swap was made before f came: the labelling after it was settled, and each site whose label is
-- another in f is marked
pub record WasSwapped (m : Instance) (a b : ℕ) (changed : ℕ → Bool) (f : ℕ → ℕ) : Type 0 where
  pub old : ℕ → ℕ
  pub settled : IsSettled m a b old
  pub marked : AreChangesMarked m.sites changed old f

-- each of n sites outside the set keeps its label
abbrev pub KeepsOutside : ℕ → ℕ → (ℕ → ℕ) → (ℕ → Bool) → (ℕ → Bool) → Type 0
KeepsOutside n b f set x = (p : ℕ) → p < n → set p ≡ false → x p ≡ kept_values b f p

-- the pair does not lead from the set to another site of t
abbrev pub IsClosedAt : (ℕ → Bool) → (ℕ → Bool) → Pair → Type 0
IsClosedAt t set pair =
    (set pair.first ≡ true → t pair.second ≡ true → set pair.second ≡ true)
    × (set pair.second ≡ true → t pair.first ≡ true → set pair.first ≡ true)

-- the least values with the fewest ones lie between a lower and an upper bound
pub record AreLeastBetween (n : ℕ) (E : (ℕ → Bool) → ℤ) (lower upper : ℕ → Bool) : Type 0 where
  pub below : (s : ℕ → Bool) → IsSmallestLeast n E s → OnesLieWithin n lower s
  pub above : (s : ℕ → Bool) → IsSmallestLeast n E s → OnesLieWithin n s upper

-- may a site get another label, if it has 1 now or 0, and these bounds?
abbrev pub may_turn : Bool → Bool → Bool → Bool
may_turn true lower upper = not lower
may_turn false lower upper = upper

-- the sites that may
abbrev pub may_turn_at : ℕ → (ℕ → ℕ) → (ℕ → Bool) → (ℕ → Bool) → ℕ → Bool
may_turn_at b f lower upper p = may_turn (kept_values b f p) (lower p) (upper p)

-- where the swap was made before, each site that changed since is fresh and each beside one that
-- did, and what is chosen to be 0 is 0 in them, x are the least values with the fewest ones
abbrev pub IsEndOfSwap : Instance → Move → (ℕ → ℕ) → ℕ → (ℕ → Bool) → (ℕ → Choice) → (ℕ → Bool)
    → Type 0
IsEndOfSwap m move f b fresh choice x =
    (a none : ℕ) (changed : ℕ → Bool) → move ≡ Swap a b → WasSwapped m a b changed f
    → ((p : ℕ) → p < m.sites → f p ≢ none) → AreFresh m none f changed fresh
    → AreLeastZeros m.sites (move_value m move f) choice
    → IsSmallestLeast m.sites (move_value m move f) x
