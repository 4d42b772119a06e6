-- Parts of the sites that look by themselves, and what is kept while they do.
use Rattle.std.specs.Prelude.{◌≡◌, ℕ, ◌<◌, ◌+◌, ◌-◌, ◌*◌, Bool, false, List, length, [], min}
use Rattle.std.specs.Prelude.{slice_index, ◌&&◌, nat_le, nat_lt}
use Rattle.std.specs.List.{All}
use Rattle.label_field.specs.PairLists.{PairList}
use Rattle.label_energies.specs.declared.change.Move.{Move}
use Rattle.label_energies.specs.Energies.{Instance, IsInstance}
use Rattle.move_energy.specs.declared.by_site.Neighbours.{Neighbours}
use Rattle.move_energy.specs.declared.choice.Choice.{Choice}
use Rattle.move_energy.specs.BySite.{AreBySite}
use Rattle.move_energy.specs.Choices.{choice_at, AreOpenSites}
use Rattle.site_bounds.specs.Decisions.{IsSmallestLeast}
use Rattle.move_energy.specs.MoveValues.{move_value}
use Rattle.site_forms.specs.Numbers.{WhereRead}
use Rattle.site_forms.specs.declared.numbers.SiteForm.{SiteForm}
use Rattle.persistency.specs.Fixing.{AreLeastZeros}
use Rattle.near_changes.specs.declared.opening.Window.{Window}
use Rattle.near_changes.specs.declared.part.Part.{Part}
use Rattle.near_changes.specs.declared.windows.PartSizes.{PartSizes}

-- the first of n sites that a part sees
abbrev pub seen_start : ℕ → PartSizes → ℕ → ℕ
seen_start n sizes part = min (part * sizes.own) n - sizes.beyond

-- is the site of the window?
abbrev pub is_of : Window → ℕ → Bool
is_of window p = nat_le window.from p && nat_lt p window.to

-- a stage of a part can be cut: its choices are of the sites, and its open sites are listed
pub record IsPartReady (pairs : PairList) (ends : Neighbours) (part : Part) : Type 0 where
  pub by_site : AreBySite pairs ends
  pub sites : length part.variables.choices.items ≡ pairs.sites
  pub opened : AreOpenSites part.variables.choices.items part.stage.opened.items
  pub fresh : part.stage.fresh.items ≡ []
  pub inside : All (λ p. p < pairs.sites) part.stage.fresh_sites.items

-- the choices' zeros are zeros of the least values of the move
abbrev pub AreZerosOf : Instance → Move → (ℕ → ℕ) → (ℕ → Choice) → Type 0
AreZerosOf m move f choice = AreLeastZeros m.sites (move_value m move f) choice

-- if all were such zeros before, all are now
abbrev pub KeepsZerosOf : SiteForm → List Choice → List Choice → Type 0
KeepsZerosOf form old new = WhereRead form (λ m move f. IsInstance m
    → AreZerosOf m move f (choice_at old) → AreZerosOf m move f (choice_at new))

-- a code of 1 is that of a site that is 0 in the least values of the move; the codes are of the
-- sites from one on
abbrev pub AreZeroCodes : Instance → Move → (ℕ → ℕ) → ℕ → List ℕ → Type 0
AreZeroCodes m move f from codes =
    (s : ℕ → Bool) → IsSmallestLeast m.sites (move_value m move f) s
    → (k : ℕ) → k < length codes → slice_index codes k ≡ 1 → from + k < m.sites
    → s (from + k) ≡ false

-- the site's code is 1, in a list of codes of the sites from one on
pub record HasZeroCode (from : ℕ) (codes : List ℕ) (p : ℕ) : Type 0 where
  pub place : ℕ
  pub at : from + place ≡ p
  pub inside : place < length codes
  pub zero : slice_index codes place ≡ 1

-- the codes of a part tell zeros of the least values, if what was known before are such
abbrev pub IsPartFound : SiteForm → List Choice → PartSizes → ℕ → List ℕ → Type 0
IsPartFound form known sizes part codes = WhereRead form (λ m move f. IsInstance m
    → AreZerosOf m move f (choice_at known)
    → AreZeroCodes m move f (seen_start form.pairs.now.sites sizes part) codes)
