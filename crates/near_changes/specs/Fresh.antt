-- An expansion of a label that is made once more, after some sites changed: which of its sites can
-- be first to take the label, and which sets of sites stand by themselves. As in what a move
-- decides, what labels cost by themselves is left out: a stage is for problems whose labels cost
-- nothing by themselves.
use Rattle.std.specs.Prelude.{◌≡◌, ◌≢◌, ℕ, ◌<◌, ◌≤◌, Bool, true, false}
use Rattle.std.specs.List.{All}
use Rattle.label_field.specs.declared.pair.Pair.{Pair}
use Rattle.label_energies.specs.declared.change.Move.TheVariants.{Expand}
use Rattle.label_energies.specs.Energies.{Instance, plain_energy}
use Rattle.label_energies.specs.Moves.{labelling_made}
use Rattle.persistency.specs.Fixing.{OnesLieWithin}

-- no expansion of the label makes labels that cost the sites and the pairs less than f
abbrev pub LowersNothing : Instance → ℕ → (ℕ → ℕ) → Type 0
LowersNothing m a f = (x : ℕ → Bool)
    → plain_energy m f ≤ plain_energy m (labelling_made (Expand a) f x)

-- each site whose label is another now is marked
abbrev pub AreChangesMarked : ℕ → (ℕ → Bool) → (ℕ → ℕ) → (ℕ → ℕ) → Type 0
AreChangesMarked n changed old new = (p : ℕ) → p < n → changed p ≡ false → new p ≡ old p

-- the label was expanded before f came: from the labelling after that no expansion of the label
-- lowers anything, and each site whose label is another in f is marked
pub record WasExpanded (m : Instance) (a : ℕ) (changed : ℕ → Bool) (f : ℕ → ℕ) : Type 0 where
  pub old : ℕ → ℕ
  pub lowest : LowersNothing m a old
  pub marked : AreChangesMarked m.sites changed old f

-- an end of the pair is fresh, if it could take the label and the other end changed
abbrev pub IsFreshAcross : ℕ → (ℕ → ℕ) → (ℕ → Bool) → (ℕ → Bool) → Pair → Type 0
IsFreshAcross a f changed fresh pair =
    (f pair.first ≢ a → changed pair.second ≡ true → fresh pair.first ≡ true)
    × (f pair.second ≢ a → changed pair.first ≡ true → fresh pair.second ≡ true)

-- among the fresh sites are those that changed and those beside them, of all that could take the
-- label
pub record AreFresh (m : Instance) (a : ℕ) (f : ℕ → ℕ) (changed fresh : ℕ → Bool) : Type 0 where
  pub own : (p : ℕ) → p < m.sites → f p ≢ a → changed p ≡ true → fresh p ≡ true
  pub beside : All (IsFreshAcross a f changed fresh) m.pairs

-- the set holds no fresh site
abbrev pub HoldsNoFresh : ℕ → (ℕ → Bool) → (ℕ → Bool) → Type 0
HoldsNoFresh n fresh set = (p : ℕ) → p < n → set p ≡ true → fresh p ≡ false

-- the set holds the fresh sites of t
abbrev pub HoldsFresh : ℕ → (ℕ → Bool) → (ℕ → Bool) → (ℕ → Bool) → Type 0
HoldsFresh n fresh t set = (p : ℕ) → p < n → fresh p ≡ true → t p ≡ true → set p ≡ true

-- the pair does not lead from the part to a site of t beside it that could take the label
abbrev pub IsApart : ℕ → (ℕ → ℕ) → (ℕ → Bool) → (ℕ → Bool) → Pair → Type 0
IsApart a f t part pair =
    (part pair.first ≡ true → t pair.second ≡ true → f pair.second ≢ a → part pair.second ≡ true)
    × (part pair.second ≡ true → t pair.first ≡ true → f pair.first ≢ a → part pair.first ≡ true)

-- the sites of the part are as in t, and no pair leads from it to others of t that could take the
-- label
pub record IsPartOf (m : Instance) (a : ℕ) (f : ℕ → ℕ) (t part : ℕ → Bool) : Type 0 where
  pub within : OnesLieWithin m.sites part t
  pub apart : All (IsApart a f t part) m.pairs
