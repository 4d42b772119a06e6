-- What is kept while sites are decided.
use Rattle.std.specs.Prelude.{◌≡◌, ◌≢◌, ◌⊎◌, ℕ, ◌+◌, ◌-◌, ◌*◌, ◌<◌, ◌≤◌, Bool, true, false, List}
use Rattle.std.specs.Prelude.{length, slice_index_or, slice_set}
use Rattle.std.specs.Prelude.{unsigned_abs, ◌^◌, ℤ, pos, ◌+ℤ◌, ◌-ℤ◌, ◌≤ℤ◌, ◌<ℤ◌}
use Rattle.std.specs.List.{All, Contains}
use Rattle.sums.specs.Sums.{sum_below, count_if}
use Rattle.compile_cut.specs.Weights.{weights_size}
use Rattle.move_energy.specs.declared.by_site.Neighbours.{Neighbours}
use Rattle.label_field.specs.declared.pair.Pair.{Pair}
use Rattle.label_energies.specs.declared.change.Move.{Move}
use Rattle.label_energies.specs.Energies.{Instance}
use Rattle.move_energy.specs.declared.choice.Choice.{Choice}
use Rattle.move_energy.specs.declared.choice.Choice.TheVariants.{Open}
use Rattle.move_energy.specs.BySite.{degree}
use Rattle.move_energy.specs.Choices.{bit_of, choice_at, is_open, AreAllOpen}
use Rattle.move_energy.specs.Limits.{surplus_limit}
use Rattle.move_energy.specs.Weights.{open_weights}
use Rattle.move_energy.specs.Assignments.{set_bit, rise}
use Rattle.move_energy.specs.MoveValues.{move_value, pair_rise}
use Rattle.site_bounds.specs.Limits.{bound_limit}
use Rattle.site_bounds.specs.Decisions.{Decision, with_decisions, HavePassed}
use Rattle.site_bounds.specs.declared.bounds.Bounds.{Bounds}

-- the bound of a site
abbrev pub bound_at : List ℤ → ℕ → ℤ
bound_at bounds u = slice_index_or bounds u (pos 0)

-- how many ends lie at open sites: those that may still be looked at
abbrev pub open_ends : Neighbours → ℕ → List Choice → ℕ
open_ends ends n choices =
    sum_below n (λ u. count_if (is_open (choice_at choices u)) (degree ends u))

-- how large a bound may be while so many ends are left: each end that is looked at changes one by
-- at most a surplus
abbrev pub budget_of : ℕ → ℕ
budget_of n = bound_limit - surplus_limit * n

-- a site has two bounds
abbrev pub HasBounds : ℕ → Bounds → Type 0
HasBounds site b = (site < length b.least.items) × (site < length b.greatest.items)

-- by so much a bound may rise or fall
abbrev pub HasRoomFor : ℤ → ℤ → Type 0
HasRoomFor bound by = unsigned_abs bound + unsigned_abs by < 2 ^ 62

-- to the two bounds of a site this is added
pub record RaisesBounds (site : ℕ) (low high : ℤ) (old new : Bounds) : Type 0 where
  pub least : new.least.items
      ≡ slice_set old.least.items site (bound_at old.least.items site +ℤ low)
  pub greatest : new.greatest.items
      ≡ slice_set old.greatest.items site (bound_at old.greatest.items site +ℤ high)
  pub same : (new.choices ≡ old.choices) × (new.waiting ≡ old.waiting)
      × (new.summed ≡ old.summed)

-- the bounds of a site tell that it has this value
abbrev pub TellsValue : Bounds → ℕ → Bool → Type 0
TellsValue b u false = pos 0 ≤ℤ bound_at b.least.items u
TellsValue b u true = bound_at b.greatest.items u <ℤ pos 0

-- the bounds of a site tell its value
abbrev pub CanDecide : Bounds → ℕ → Type 0
CanDecide b u = TellsValue b u false ⊎ TellsValue b u true

-- so many sites were passed: each was summed, or closed
abbrev pub summed_count : Bounds → ℕ
summed_count b = b.summed

-- a choice and two bounds of each of n sites
pub record AreOfSites (n : ℕ) (b : Bounds) : Type 0 where
  pub choices : length b.choices.items ≡ n
  pub least : length b.least.items ≡ n
  pub greatest : length b.greatest.items ≡ n

-- the same, and at most all of them were summed
pub record IsSummed (n : ℕ) (b : Bounds) : Type 0 where
  pub sized : AreOfSites n b
  pub within : b.summed ≤ n

-- no site was summed, and none waits
pub record IsNoneSummed (b : Bounds) : Type 0 where
  pub summed : b.summed ≡ 0
  pub none : length b.waiting.items ≡ 0

-- there are no sites, and none waits
pub record AreOfNoSites (b : Bounds) : Type 0 where
  pub sized : AreOfSites 0 b
  pub unsummed : IsNoneSummed b

-- exactly the sites that the move can change are open, the others are at 0, none was summed, and
-- none waits
pub record AreUndecided (move : Move) (f : List ℕ) (b : Bounds) : Type 0 where
  pub opened : AreAllOpen move f b.choices.items
  pub unsummed : IsNoneSummed b

-- there is a choice of each of n sites, none was summed, and none waits
pub record AreUnsummed (n : ℕ) (b : Bounds) : Type 0 where
  pub choices : length b.choices.items ≡ n
  pub unsummed : IsNoneSummed b

-- the bounds of a site are known: it was summed, and is open
abbrev pub IsBoundKnown : Bounds → ℕ → Type 0
IsBoundKnown b u = (u < b.summed) × (choice_at b.choices.items u ≡ Open)

-- no known bound is larger
abbrev pub IsWithinRange : ℕ → Bounds → Type 0
IsWithinRange most b = (u : ℕ) → IsBoundKnown b u
    → (unsigned_abs (bound_at b.least.items u) ≤ most)
    × (unsigned_abs (bound_at b.greatest.items u) ≤ most)

-- the known greatest rises of all sites together, without their signs
abbrev pub greatest_total : Bounds → ℕ
greatest_total b = weights_size (open_weights b.choices.items b.greatest.items b.summed)

-- each open site whose bounds tell its value waits, but perhaps this one; and only sites wait
pub record AreWaitingBut (n but : ℕ) (b : Bounds) : Type 0 where
  pub sites : All (λ u. u < n) b.waiting.items
  pub each : (u : ℕ) → u < n → u ≢ but → choice_at b.choices.items u ≡ Open → CanDecide b u
      → Contains b.waiting.items u

-- each of them waits
abbrev pub AreWaiting : ℕ → Bounds → Type 0
AreWaiting n b = AreWaitingBut n n b

-- the sites were decided one after another, each by the test, and the bounds of each open site
-- below k are its rises with all undecided sites at 1 and at 0
pub record ArePartlyDecided (m : Instance) (move : Move) (f : ℕ → ℕ) (k : ℕ)
    (b : Bounds) : Type 0 where
  pub decisions : List Decision
  pub passed : HavePassed (move_value m move f) decisions
  pub shown : (x : ℕ → Bool) (p : ℕ) → p < m.sites
      → with_decisions decisions x p ≡ bit_of (choice_at b.choices.items p) (x p)
  pub least : (u : ℕ) → u < k → choice_at b.choices.items u ≡ Open
      → bound_at b.least.items u
      ≡ rise (move_value m move f) u (with_decisions decisions (λ v. true))
  pub greatest : (u : ℕ) → u < k → choice_at b.choices.items u ≡ Open
      → bound_at b.greatest.items u
      ≡ rise (move_value m move f) u (with_decisions decisions (λ v. false))

-- these are the bounds of one site more
pub record AddsBounds (site : ℕ) (low high : ℤ) (old new : Bounds) : Type 0 where
  pub least : new.least.items ≡ slice_set old.least.items site low
  pub greatest : new.greatest.items ≡ slice_set old.greatest.items site high
  pub choices : new.choices ≡ old.choices
  pub waiting : new.waiting ≡ old.waiting
  pub summed : new.summed ≡ site + 1

-- no site from one on, before another, is open
abbrev pub AreClosed : ℕ → ℕ → Bounds → Type 0
AreClosed from to b = (u : ℕ) → from ≤ u → u < to → choice_at b.choices.items u ≢ Open

-- the closed sites before one are passed
pub record PassesClosed (to : ℕ) (old new : Bounds) : Type 0 where
  pub on : old.summed ≤ to
  pub within : to ≤ length old.choices.items
  pub closed : AreClosed old.summed to old
  pub summed : new.summed ≡ to
  pub choices : new.choices ≡ old.choices
  pub least : new.least ≡ old.least
  pub greatest : new.greatest ≡ old.greatest
  pub waiting : new.waiting ≡ old.waiting

-- no site that was decided is open again
abbrev pub StayDecided : Bounds → Bounds → Type 0
StayDecided old new =
    (u : ℕ) → choice_at old.choices.items u ≢ Open → choice_at new.choices.items u ≢ Open

-- the site has this value, and nothing else changes
pub record IsMarked (site : ℕ) (value : Bool) (old new : Bounds) : Type 0 where
  pub count : length new.choices.items ≡ length old.choices.items
  pub own : (b : Bool) → bit_of (choice_at new.choices.items site) b ≡ value
  pub closed : ¬ (choice_at new.choices.items site ≡ Open)
  pub others : (u : ℕ) → u ≢ site → choice_at new.choices.items u ≡ choice_at old.choices.items u
  pub least : new.least ≡ old.least
  pub greatest : new.greatest ≡ old.greatest
  pub waiting : new.waiting ≡ old.waiting
  pub summed : new.summed ≡ old.summed

-- by how much a pair's rise at site u changes where another site gets this value
abbrev pub pair_change : Instance → Move → (ℕ → ℕ) → ℕ → ℕ → Bool → Pair → (ℕ → Bool) → ℤ
pair_change m move f u site value pair x =
    pair_rise m move f u (set_bit x site value) pair -ℤ pair_rise m move f u x pair

-- the bounds of each open site below k, but for this one, change as the pair's rise does where this
-- site gets its value instead of the one that the bounds took for it
abbrev pub FollowsPair : Instance → Move → (ℕ → ℕ) → ℕ → ℕ → Bool → Pair → Bool → List Choice
    → List ℤ → List ℤ → Type 0
FollowsPair m move f k site value pair assumed choices old new =
    (x : ℕ → Bool) (u : ℕ) → x site ≡ assumed → u < k → u ≢ site → choice_at choices u ≡ Open
    → bound_at new u ≡ bound_at old u +ℤ pair_change m move f u site value pair x

-- a pair of this site is seen with the site's value: the least bounds took 1 for it, the greatest
-- ones 0
pub record SeesPair (m : Instance) (move : Move) (f : ℕ → ℕ) (k site : ℕ)
    (value : Bool) (pair : Pair)
    (old new : Bounds) : Type 0 where
  pub least : FollowsPair m move f k site value pair true
      old.choices.items old.least.items new.least.items
  pub greatest : FollowsPair m move f k site value pair false
      old.choices.items old.greatest.items new.greatest.items

-- the other costs of a site whose neighbour is now 1, or now 0
abbrev pub least_shift : Bool → ℤ → ℤ
least_shift true surplus = pos 0
least_shift false surplus = surplus

abbrev pub greatest_shift : Bool → ℤ → ℤ
greatest_shift true surplus = pos 0 -ℤ surplus
greatest_shift false surplus = pos 0

-- the bounds of a site are shifted, as the value of its neighbour wants it
pub record Shifts (site : ℕ) (value : Bool) (surplus : ℤ) (old new : Bounds) : Type 0 where
  pub least : bound_at new.least.items site
      ≡ bound_at old.least.items site +ℤ least_shift value surplus
  pub greatest : bound_at new.greatest.items site
      ≡ bound_at old.greatest.items site +ℤ greatest_shift value surplus
  pub others : (u : ℕ) → u ≢ site
      → (bound_at new.least.items u ≡ bound_at old.least.items u)
      × (bound_at new.greatest.items u ≡ bound_at old.greatest.items u)

-- a site waits if its bounds tell its value, and all that waited still wait
pub record CallsUp (site : ℕ) (old new : Bounds) : Type 0 where
  pub kept : (u : ℕ) → Contains old.waiting.items u → Contains new.waiting.items u
  pub called : CanDecide old site → Contains new.waiting.items site
  pub sites : (n : ℕ) → site < n → All (λ u. u < n) old.waiting.items
      → All (λ u. u < n) new.waiting.items
  pub more : length new.waiting.items ≤ length old.waiting.items + 1

-- a site waits if its bounds tell its value; or it has that value at once, where no open site
-- before it is beside it
abbrev pub IsAnswered : ℕ → Bool → Bounds → Bounds → Type 0
IsAnswered site beside old new =
    (CallsUp site old new × (new.choices ≡ old.choices) × (new.least ≡ old.least)
    × (new.greatest ≡ old.greatest) × (new.summed ≡ old.summed))
    ⊎ ((value : Bool) × IsMarked site value old new × TellsValue old site value × (beside ≡ false))

-- the choices stay, no known bound grows by more than a surplus for each, nor all greatest ones
-- together, and at most so many sites more wait
pub record IsLooking (more : ℕ) (old new : Bounds) : Type 0 where
  pub choices : new.choices ≡ old.choices
  pub least_len : length new.least.items ≡ length old.least.items
  pub greatest_len : length new.greatest.items ≡ length old.greatest.items
  pub summed : new.summed ≡ old.summed
  pub waiting : length new.waiting.items ≤ length old.waiting.items + more
  pub range : (most : ℕ) → IsWithinRange most old → IsWithinRange (most + surplus_limit * more) new
  pub total : greatest_total new ≤ greatest_total old + surplus_limit * more
