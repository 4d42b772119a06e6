-- Where an expansion of a label that is made once more looks, stage after stage.
use Rattle.move_energy.specs.Ends.{AreEnds}
use Rattle.std.specs.Prelude.{◌≡◌, ◌≢◌, ◌⊎◌, ◌↔◌, ℕ, ◌<◌, Bool, true, false, List, length, nat_lt}
use Rattle.std.specs.Prelude.{slice_index, slice_index_or}
use Rattle.std.specs.List.{All, Contains}
use Rattle.label_field.specs.declared.pair.Pair.{Pair}
use Rattle.label_field.specs.PairLists.{PairList}
use Rattle.label_energies.specs.Energies.{Instance}
use Rattle.move_energy.specs.declared.choice.Choice.{Choice}
use Rattle.near_changes.specs.declared.stage.Stage.{Stage}
use Rattle.persistency.specs.Fixing.{OnesLieWithin, IsLeftOpen}
use Rattle.near_changes.specs.Fresh.{AreFresh, HoldsFresh, IsApart}

-- is the site marked?
abbrev pub is_marked : List Bool → ℕ → Bool
is_marked flags p = slice_index_or flags p false

-- is the site's stamp, the number of the move that last changed it, above this number?
abbrev pub changed_since : List ℕ → ℕ → ℕ → Bool
changed_since stamps since p = nat_lt since (slice_index stamps p)

-- a pair of the list has these two sites as its ends
abbrev pub AreBeside : PairList → ℕ → ℕ → Type 0
AreBeside pairs p q = (pair : Pair) × Contains pairs.list pair × AreEnds pair p q

-- the site changed, or is beside one that did
abbrev pub IsNearChange : PairList → (ℕ → Bool) → ℕ → Type 0
IsNearChange pairs changed p =
    (changed p ≡ true) ⊎ ((q : ℕ) × (changed q ≡ true) × AreBeside pairs q p)

-- the fresh sites of the stage are those of an expansion of a from f, of which some sites changed,
-- and no others; the marked ones are listed
pub record AreFreshSites (pairs : PairList) (a : ℕ) (f : ℕ → ℕ) (changed : ℕ → Bool)
    (stage : Stage) : Type 0 where
  pub count : length stage.fresh.items ≡ pairs.sites
  pub fresh : (m : Instance) → m.sites ≡ pairs.sites → m.pairs ≡ pairs.list
      → AreFresh m a f changed (is_marked stage.fresh.items)
  pub only : (p : ℕ) → is_marked stage.fresh.items p ≡ true
      → (f p ≢ a) × IsNearChange pairs changed p
  pub listed : (p : ℕ) → p < pairs.sites → is_marked stage.fresh.items p ≡ true
      → Contains stage.fresh_sites.items p
  pub inside : All (λ p. p < pairs.sites) stage.fresh_sites.items

-- the sites that take the label are listed, and so are sites to open next
pub record AreTaking (n : ℕ) (stage : Stage) : Type 0 where
  pub count : length stage.taken.items ≡ n
  pub listed : (p : ℕ) → p < n
      → is_marked stage.taken.items p ≡ true ↔ Contains stage.taking.items p
  pub inside : All (λ p. p < n) stage.taking.items
  pub front : All (λ p. p < n) stage.front.items

-- what takes the label is a closed part of t, whose sites were all looked at: no pair leads from it
-- to another site of t, and it holds the fresh sites of t. It is so whatever the labels: a site
-- that has the label is 0 in t
pub record IsClosedIn (pairs : PairList) (t : ℕ → Bool) (choice : ℕ → Choice)
    (taken fresh : ℕ → Bool) : Type 0 where
  pub within : OnesLieWithin pairs.sites taken t
  pub apart : (a : ℕ) (f : ℕ → ℕ) → All (IsApart a f t taken) pairs.list
  pub holds_fresh : HoldsFresh pairs.sites fresh t taken
  pub left_open : IsLeftOpen pairs.sites choice taken
