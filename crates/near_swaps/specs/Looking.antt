-- Where a swap looks that is made once more, and what its cuts show.
use Rattle.std.specs.Prelude.{◌≡◌, ◌≢◌, ℕ, ◌<◌, Bool, true, false, cond, List, length}
use Rattle.std.specs.List.{All, Contains}
use Rattle.label_energies.specs.Energies.{labelling}
use Rattle.move_energy.specs.declared.choice.Choice.{Choice}
use Rattle.move_energy.specs.declared.choice.Choice.TheVariants.{Open, Zero, One}
use Rattle.move_energy.specs.BySite.{IsListing}
use Rattle.move_energy.specs.Choices.{bit_of, choice_at, open_rank, AreOpenSites}
use Rattle.near_changes.specs.Looking.{is_marked}
use Rattle.near_changes.specs.declared.stage.Stage.{Stage}
use Rattle.near_swaps.specs.Swaps.{kept_values}
use Rattle.pseudo_bool.specs.Energies.{assignment}
use Rattle.site_forms.specs.declared.numbers.SiteForm.{SiteForm}
use Rattle.site_forms.specs.Numbers.{IsOverPairs}

-- what counts as 1 counts as 0
abbrev pub as_zero : Choice → Choice
as_zero Open = Open
as_zero Zero = Zero
as_zero One = Zero

-- the value of each site where those that count as 1 count as 0: the bit of its rank where it is
-- open
abbrev pub lowest_value : List Choice → List Bool → ℕ → Bool
lowest_value choices bits p =
    bit_of (as_zero (choice_at choices p)) (assignment bits (open_rank choices p))

-- the value of a site once the set is closed: one of the set has what its bound tells, at its
-- number, and each other keeps its label
abbrev pub settled_value : List ℕ → List Bool → List Bool → ℕ → (ℕ → ℕ) → ℕ → Bool
settled_value numbers taken bits b f p =
    cond (is_marked taken p) (assignment bits (labelling numbers p)) (kept_values b f p)

-- at each site of the set both bounds are the same
abbrev pub AreBoundsSame : ℕ → List ℕ → List Bool → List Bool → List Bool → Type 0
AreBoundsSame n numbers taken lower upper = (p : ℕ) → p < n → is_marked taken p ≡ true
    → assignment lower (labelling numbers p) ≡ assignment upper (labelling numbers p)

-- the sites are listed in rising order, and among them is each whose value does not keep its label
pub record AreTurnsListed (b : ℕ) (f : List ℕ) (x : ℕ → Bool) (sites : List ℕ) : Type 0 where
  pub chosen : ℕ → Bool
  pub listed : IsListing chosen (length f) sites
  pub each : (p : ℕ) → p < length f → x p ≢ kept_values b (labelling f) p → chosen p ≡ true

-- the values that the choices have
abbrev pub values_in : List Choice → ℕ → Bool
values_in choices p = bit_of (choice_at choices p) false

-- no site that is at 0 has label b
abbrev pub HaveZerosOther : ℕ → List ℕ → List Choice → Type 0
HaveZerosOther b f choices = (p : ℕ) → p < length f → choice_at choices p ≡ Zero
    → kept_values b (labelling f) p ≡ false

-- each site that is not at 0 is listed
abbrev pub CoversOthers : List Choice → List ℕ → Type 0
CoversOthers choices sites = (p : ℕ) → p < length choices → choice_at choices p ≢ Zero
    → Contains sites p

-- a stage of a swap can begin: its open sites are listed, and so are all that are not at 0, among
-- the swap's own; no site at 0 has label b; and the fresh sites are listed
pub record IsSwapStageReady (form : SiteForm) (b : ℕ) (own : List ℕ) (choices : List Choice)
    (stage : Stage) : Type 0 where
  pub over : IsOverPairs form
  pub sites : length choices ≡ length form.at.now
  pub opened : AreOpenSites choices stage.opened.items
  pub own_are : All (λ p. p < length form.at.now) own
  pub covers : CoversOthers choices own
  pub zeros : HaveZerosOther b form.at.now choices
  pub fresh : (p : ℕ) → p < form.pairs.now.sites → is_marked stage.fresh.items p ≡ true
      → Contains stage.fresh_sites.items p
  pub inside : All (λ p. p < form.pairs.now.sites) stage.fresh_sites.items
