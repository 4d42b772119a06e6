-- What is kept while a stage marks, opens and takes sites.
use Rattle.std.specs.Prelude.{◌≡◌, ◌≢◌, ◌↔◌, ◌⊎◌, ℕ, ◌<◌, ◌≤◌, Bool, true, cond, List, [], ◌∷◌}
use Rattle.std.specs.Prelude.{◌++◌, length, slice_index}
use Rattle.std.specs.List.{All, Contains}
use Rattle.move_energy.specs.declared.by_site.Neighbours.{Neighbours}
use Rattle.label_field.specs.declared.pair.Pair.{Pair}
use Rattle.label_field.specs.PairLists.{PairList}
use Rattle.move_energy.specs.BySite.{degree, pair_of}
use Rattle.move_energy.specs.declared.choice.Choice.{Choice}
use Rattle.move_energy.specs.declared.choice.Choice.TheVariants.{Open, Zero, One}
use Rattle.move_energy.specs.Choices.{choice_at, open_at, value_of, open_count, IsNumbering}
use Rattle.near_changes.specs.declared.closing.StageCut.{StageCut}
use Rattle.near_changes.specs.declared.opening.Window.{Window}
use Rattle.near_changes.specs.declared.stage.Stage.{Stage}
use Rattle.near_changes.specs.Looking.{is_marked}

-- a site is marked too
pub record IsMarkedToo (site : ℕ) (old new : List Bool) : Type 0 where
  pub count : length new ≡ length old
  pub each : (p : ℕ) → is_marked new p ≡ true ↔ ((is_marked old p ≡ true) ⊎ (p ≡ site))

-- and it is listed, where it was not marked
abbrev pub IsListedToo : ℕ → List Bool → List ℕ → List ℕ → Type 0
IsListedToo site flags old new = new ≡ old ++ cond (is_marked flags site) [] (site ∷ [])

-- of each of n sites there is a mark, and the marked ones are listed
pub record AreSiteMarks (n : ℕ) (flags : List Bool) (sites : List ℕ) : Type 0 where
  pub count : length flags ≡ n
  pub listed : (p : ℕ) → p < n → is_marked flags p ≡ true ↔ Contains sites p
  pub inside : All (λ p. p < n) sites

-- the marks and the list of the fresh sites
abbrev pub AreFreshMarks : ℕ → Stage → Type 0
AreFreshMarks n stage = AreSiteMarks n stage.fresh.items stage.fresh_sites.items

-- each marked site stays marked
abbrev pub StaysMarked : List Bool → List Bool → Type 0
StaysMarked old new = (p : ℕ) → is_marked old p ≡ true → is_marked new p ≡ true

-- the other end of the pair is fresh, if it could take the label
abbrev pub IsMarkedAcross : ℕ → (ℕ → ℕ) → ℕ → (ℕ → Bool) → Pair → Type 0
IsMarkedAcross a f site fresh pair =
    (pair.first ≡ site → f pair.second ≢ a → fresh pair.second ≡ true)
    × (pair.second ≡ site → f pair.first ≢ a → fresh pair.first ≡ true)

-- the site and those beside it are fresh, of all that could take the label
pub record IsMarkedAround (pairs : PairList) (ends : Neighbours) (a : ℕ) (f : ℕ → ℕ) (site : ℕ)
    (fresh : ℕ → Bool) : Type 0 where
  pub own : f site ≢ a → fresh site ≡ true
  pub beside : (k : ℕ) → k < degree ends site → IsMarkedAcross a f site fresh (pair_of ends site k)

-- ---- opening

-- the same sites are at 0
pub record KeepsZeros (old new : List Choice) : Type 0 where
  pub count : length new ≡ length old
  pub each : (p : ℕ) → p < length old → choice_at new p ≡ Zero ↔ choice_at old p ≡ Zero

-- each open site is one of the window's
abbrev pub LieWithin : Window → List Choice → Type 0
LieWithin window choices =
    (p : ℕ) → open_at choices p ≡ true → (window.from ≤ p) × (p < window.to)

-- the site was looked at: it is open, or at 0
abbrev pub WasLookedAt : List Choice → ℕ → Type 0
WasLookedAt choices p = choice_at choices p ≢ One

-- those of the sites that are of the window were looked at
abbrev pub AreLookedAt : Window → List ℕ → List Choice → Type 0
AreLookedAt window sites choices =
    All (λ p. window.from ≤ p → p < window.to → WasLookedAt choices p) sites

-- sites of the window may be opened, and the same sites are at 0
pub record OpensWithin (window : Window) (old new : List Choice) : Type 0 where
  pub zeros : KeepsZeros old new
  pub within : LieWithin window old → LieWithin window new
  pub looked : (p : ℕ) → WasLookedAt old p → WasLookedAt new p

-- ---- taking

-- the open sites are numbered, and the cut has a bit for each of them
pub record HasBits (cut : StageCut) : Type 0 where
  pub numbering : IsNumbering cut.choices.now cut.numbers.now
  pub bits : length cut.bits.now ≡ open_count cut.choices.now

-- the fresh sites and the open ones stay as they are
abbrev pub KeepsFresh : Stage → Stage → Type 0
KeepsFresh old new = (new.fresh ≡ old.fresh) × (new.fresh_sites ≡ old.fresh_sites)
    × (new.opened ≡ old.opened)

-- what takes the label are open sites that the cut showed at 1
pub record AreShown (choices : List Choice) (bits : List Bool) (stage : Stage) : Type 0 where
  pub marks : AreSiteMarks (length choices) stage.taken.items stage.taking.items
  pub shown : (p : ℕ) → p < length choices → is_marked stage.taken.items p ≡ true
      → (choice_at choices p ≡ Open) × (value_of choices bits p ≡ true)
  pub front : All (λ p. p < length choices) stage.front.items

-- what takes the label stays, each site at its place of the list, and so do the sites to open next
pub record IsWider (old new : Stage) : Type 0 where
  pub taken : StaysMarked old.taken.items new.taken.items
  pub more : length old.taking.items ≤ length new.taking.items
  pub same : (k : ℕ) → k < length old.taking.items
      → slice_index new.taking.items k ≡ slice_index old.taking.items k
  pub front : length old.front.items ≤ length new.front.items

-- where no site is to be opened, the site takes the label if it is at 1
abbrev pub IsSiteSeen : List Choice → List Bool → ℕ → Stage → Type 0
IsSiteSeen choices bits site stage =
    length stage.front.items ≡ 0 → value_of choices bits site ≡ true
    → is_marked stage.taken.items site ≡ true

-- the other end of the pair was seen
abbrev pub IsSeenAcross : List Choice → List Bool → ℕ → Pair → Stage → Type 0
IsSeenAcross choices bits site pair stage =
    (pair.first ≡ site → IsSiteSeen choices bits pair.second stage)
    × (pair.second ≡ site → IsSiteSeen choices bits pair.first stage)

-- the sites beside a site were seen
abbrev pub AreSeenAround : PairList → Neighbours → List Choice → List Bool → ℕ → Stage → Type 0
AreSeenAround pairs ends choices bits site stage = (k : ℕ) → k < degree ends site
    → IsSeenAcross choices bits site (pair_of ends site k) stage
