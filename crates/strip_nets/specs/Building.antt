-- What a strip is built from: the form of its move, and what is known of its sites.
use Rattle.std.specs.Prelude.{◌≡◌, ℕ, ℤ, ◌<◌, ◌≤◌, ◌-◌, Bool, true, List, map, length}
use Rattle.std.specs.Prelude.{slice_index}
use Rattle.label_field.specs.declared.pair.Pair.{Pair}
use Rattle.label_energies.specs.declared.change.Move.{Move}
use Rattle.label_energies.specs.Energies.{Instance}
use Rattle.compile_cut.specs.declared.quadratic.Quadratic.{Quadratic}
use Rattle.compile_cut.specs.Weights.{weights_size}
use Rattle.move_energy.specs.declared.choice.Choice.{Choice}
use Rattle.move_energy.specs.declared.choice.Choice.TheVariants.{Open}
use Rattle.move_energy.specs.BySite.{is_counted, met_at, pair_beside}
use Rattle.move_energy.specs.Choices.{choice_at, open_at, open_rank, AreOpenSites}
use Rattle.move_energy.specs.Choices.{StandsFor}
use Rattle.move_energy.specs.Limits.{weights_limit}
use Rattle.move_energy.specs.Weights.{unsaved_surplus}
use Rattle.site_bounds.specs.Parts.{site_weight}
use Rattle.site_forms.specs.Numbers.{IsOverPairs}
use Rattle.persistency.specs.Borders.{border_at, range_of}
use Rattle.strip_nets.specs.declared.material.Material.{Material}
use Rattle.strip_nets.specs.declared.material.StripSites.{StripSites}
use Rattle.strip_nets.specs.declared.material.Places.{Places}
use Rattle.strip_nets.specs.Views.{KeepsChosen, strip_view, weight_now}

-- the listed weights are those of the strip's open sites, by what was known at the start
abbrev pub AreStartWeights : Material → StripSites → Instance → Move → (ℕ → ℕ) → Type 0
AreStartWeights material sites m move f = sites.weights.now
    ≡ map (site_weight m move f (choice_at material.start.now)) sites.opened.now

-- each listed site has a weight, and together they are in their limit
pub record AreWeighed (sites : StripSites) : Type 0 where
  pub count : length sites.weights.now ≡ length sites.opened.now
  pub size : weights_size sites.weights.now ≤ weights_limit

-- the form is of its pairs, something is known of each of its sites, and what was chosen at the
-- start stays
pub record CanBuild (material : Material) : Type 0 where
  pub over : IsOverPairs material.form
  pub starts : length material.start.now ≡ material.form.pairs.now.sites
  pub count : length material.known.now ≡ material.form.pairs.now.sites
  pub goes_on : KeepsChosen material.start.now material.known.now

-- these are the places of the form
pub record ArePlacesOf (material : Material) (places : Places) : Type 0 where
  pub starts : places.starts.now ≡ material.form.ends.now.starts.items
  pub heads : places.heads.now ≡ material.form.ends.now.heads.items

-- what a strip sees: what is known, and each open site outside it at 0
abbrev pub view_by : StripSites → Material → List Choice
view_by sites material = strip_view material.known.now sites.from sites.to

-- the list has the open sites of the strip
abbrev pub AreStripSites : Material → StripSites → Type 0
AreStripSites material sites = AreOpenSites (view_by sites material) sites.opened.now

-- the number of each open site of a strip is how many are open before it; places are counted from
-- the strip's first site on, and what stands at other places means nothing
pub record IsStripNumbering (known : List Choice) (sites : StripSites) (numbers : List ℕ)
    : Type 0 where
  pub count : sites.to - sites.from ≤ length numbers
  pub each : (p : ℕ) → choice_at (strip_view known sites.from sites.to) p ≡ Open
      → slice_index numbers (p - sites.from) ≡ open_rank (strip_view known sites.from sites.to) p

-- the form stands for the move with the open sites outside the strip at 0, and these are the
-- borders of the listed sites
pub record IsStripForm (m : Instance) (move : Move) (f : ℕ → ℕ) (known : List Choice)
    (sites : StripSites) (form : Quadratic) (borders : List ℕ) : Type 0 where
  pub stands : StandsFor m move f (choice_at (strip_view known sites.from sites.to)) form
      (open_rank (strip_view known sites.from sites.to))
  pub each : (k : ℕ) → k < length sites.opened.now → slice_index borders k
      ≡ border_at m move f (choice_at known) (range_of sites.from sites.to)
      (slice_index sites.opened.now k)

-- the neighbour at this place is one of two ends in the strip, and its pair counts at this site
abbrev pub counts_in : Material → StripSites → ℕ → ℕ → Bool
counts_in material sites site place =
    is_counted (open_at (view_by sites material)) site
    (pair_beside material.form.ends.now site place)

-- what a pair does not save of its surplus, where these sites are open in a list of choices
abbrev pub unsaved_in : Instance → Move → (ℕ → ℕ) → List Choice → (ℕ → Bool) → Pair → ℕ
unsaved_in m move f view x = unsaved_surplus m move f (choice_at view) (open_rank view) x

-- what the pairs that count at a site do not save
abbrev pub unsaved_at : Instance → Move → (ℕ → ℕ) → Material → StripSites → (ℕ → Bool) → ℕ → ℕ
unsaved_at m move f material sites x =
    met_at material.form.ends.now (open_at (view_by sites material))
    (unsaved_in m move f (view_by sites material) x)

-- the border of a site of the strip: what its pairs to open sites outside it come to
abbrev pub border_of_site : Instance → Move → (ℕ → ℕ) → Material → StripSites → ℕ → ℕ
border_of_site m move f material sites =
    border_at m move f (choice_at material.known.now) (range_of sites.from sites.to)

-- the weight of a site by now
abbrev pub weight_by_now : Instance → Move → (ℕ → ℕ) → Material → ℕ → ℤ
weight_by_now m move f material =
    weight_now m move f (choice_at material.start.now) (choice_at material.known.now)

-- of the sites from this one on, before the end of the strip, is known what was known at the start;
-- they are the strip's, and each pair has the first of its sites first
pub record IsUntoldFrom (material : Material) (sites : StripSites) (untold : ℕ) : Type 0 where
  pub rising : untold < sites.to → material.form.rising ≡ true
  pub inside : untold < sites.to → sites.from ≤ untold
  pub same : (p : ℕ) → untold ≤ p → p < sites.to
      → choice_at material.known.now p ≡ choice_at material.start.now p
