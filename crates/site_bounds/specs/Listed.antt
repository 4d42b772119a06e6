-- The lists of the sites that a move has left to look at, made where these are few.
use Rattle.std.specs.Prelude.{◌≡◌, ◌↔◌, ◌==◌, ◌||◌, ℕ, ◌*◌, ◌<◌, ◌≤◌, Bool, false, not, IsTrue}
use Rattle.std.specs.Prelude.{List, [], length}
use Rattle.label_energies.specs.declared.change.Move.{Move}
use Rattle.label_energies.specs.declared.change.Move.TheVariants.{Expand, Swap}
use Rattle.label_energies.specs.Energies.{labelling}
use Rattle.label_energies.specs.Moves.{label_after}
use Rattle.move_energy.specs.BySite.{IsListing}
use Rattle.move_energy.specs.declared.choice.Choice.{Choice}
use Rattle.move_energy.specs.Choices.{bit_of, choice_at, is_open, open_count, open_at, AreOpenSites}
use Rattle.site_bounds.specs.declared.lists.Lists.{Lists}

-- nothing is counted, and no site is listed
pub record AreListsEmpty (lists : Lists) : Type 0 where
  pub count : lists.count ≡ 0
  pub listed : lists.listed ≡ false
  pub opened : lists.opened.items ≡ []
  pub changing : lists.changing.items ≡ []

-- is a site open, or decided to get another label than this one, which it has?
abbrev pub can_become_other : Move → ℕ → Choice → Bool
can_become_other move label choice =
    is_open choice || not (label_after move label (bit_of choice false) == label)

-- which sites are open, or decided to get another label than they have
abbrev pub changes : Move → (ℕ → ℕ) → List Choice → ℕ → Bool
changes move f choices p =
    open_at choices p || not (label_after move (f p) (bit_of (choice_at choices p) false) == f p)

-- of the first n sites the open ones are listed, and those whose labels can still become others
pub record AreListedBelow (n : ℕ) (move : Move) (f : ℕ → ℕ) (choices : List Choice)
    (lists : Lists) : Type 0 where
  pub opened : IsListing (open_at choices) n lists.opened.items
  pub changing : IsListing (changes move f choices) n lists.changing.items

-- the sites are listed whose labels could become others before any was decided: of no other site
-- can the label become another now
pub record CoversRest (move : Move) (f : List ℕ) (choices : List Choice)
    (sites : List ℕ) : Type 0 where
  pub before : ℕ → Bool
  pub listing : IsListing before (length f) sites
  pub rest : (p : ℕ) → p < length f → before p ≡ false
      → changes move (labelling f) choices p ≡ false

-- the sites are listed, and among them is each open one
pub record CoversOpen (choices : List Choice) (sites : List ℕ) : Type 0 where
  pub before : ℕ → Bool
  pub listing : IsListing before (length choices) sites
  pub rest : (p : ℕ) → p < length choices → before p ≡ false → open_at choices p ≡ false

-- the sites of a move are listed where at most one in so many is open
abbrev pub listed_share : Move → ℕ
listed_share (Expand alpha) = 8
listed_share (Swap alpha beta) = 2

-- the open sites are counted; where they are few, they are listed, and so are the sites whose
-- labels can still become others
pub record AreListed (move : Move) (f : ℕ → ℕ) (choices : List Choice)
    (lists : Lists) : Type 0 where
  pub count : lists.count ≡ open_count choices
  pub few : IsTrue lists.listed ↔ (lists.count * listed_share move ≤ length choices)
  pub opened : IsTrue lists.listed → AreOpenSites choices lists.opened.items
  pub changing : IsTrue lists.listed → IsListing (changes move f choices)
      (length choices) lists.changing.items
