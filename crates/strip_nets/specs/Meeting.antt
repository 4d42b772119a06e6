-- The pairs of a strip, in the order in which they are met.
use Rattle.std.specs.Prelude.{◌≡◌, ◌≢◌, ℕ, zero, suc, ◌+◌, ◌<◌, ◌++◌, ◌&&◌, Bool, true, cond, List}
use Rattle.std.specs.Prelude.{[], ◌∷◌}
use Rattle.std.specs.Prelude.{length}
use Rattle.std.specs.List.{flat_map}
use Rattle.sums.specs.Sums.{sum_below, count_if}
use Rattle.move_energy.specs.BySite.{degree, neighbours_start, neighbour_at, pair_beside}
use Rattle.move_energy.specs.Choices.{choice_at, open_rank}
use Rattle.move_energy.specs.Weights.{are_open}
use Rattle.persistency.specs.Borders.{is_inside, range_of}
use Rattle.strip_nets.specs.declared.material.Material.{Material}
use Rattle.strip_nets.specs.declared.material.StripSites.{StripSites}
use Rattle.strip_nets.specs.declared.rows.Met.{Met}
use Rattle.strip_nets.specs.Building.{view_by, counts_in}

-- both sites of the pair at this place are in the strip, and it counts at this site
abbrev pub is_met : Material → StripSites → ℕ → ℕ → Bool
is_met material sites site place =
    are_open (choice_at (view_by sites material))
    (pair_beside material.form.ends.now site place)
    && counts_in material sites site place

-- the nodes of the pair at this place, where it is met there
abbrev pub ends_met : Material → StripSites → ℕ → ℕ → List ℕ
ends_met material sites site place = cond (is_met material sites site place)
    (open_rank (view_by sites material) (pair_beside material.form.ends.now site place).first
    ∷ open_rank (view_by sites material)
    (pair_beside material.form.ends.now site place).second ∷ [])
    []

-- those of the first k pairs of a site
abbrev pub ends_below : Material → StripSites → ℕ → ℕ → List ℕ
ends_below material sites site zero = []
ends_below material sites site (suc k) = ends_below material sites site k
    ++ ends_met material sites site (neighbours_start material.form.ends.now site + k)

-- those of all pairs of a site
abbrev pub ends_at : Material → StripSites → ℕ → List ℕ
ends_at material sites site =
    ends_below material sites site (degree material.form.ends.now site)

-- the nodes of all pairs of a strip
abbrev pub strip_ends : Material → StripSites → List ℕ
strip_ends material sites = flat_map (ends_at material sites) sites.opened.now

-- the pair at this place is met there, and these are its nodes
pub record IsMet (material : Material) (sites : StripSites) (site place : ℕ) (met : Met)
    : Type 0 where
  pub is_so : is_met material sites site place ≡ true
  pub first : met.first
      ≡ open_rank (view_by sites material) (pair_beside material.form.ends.now site place).first
  pub second : met.second
      ≡ open_rank (view_by sites material)
      (pair_beside material.form.ends.now site place).second
  pub first_node : met.first < length sites.opened.now
  pub second_node : met.second < length sites.opened.now
  pub apart : met.first ≢ met.second

-- how many neighbours of a site are open and in the strip
abbrev pub inside_degree : Material → StripSites → ℕ → ℕ
inside_degree material sites site = sum_below (degree material.form.ends.now site) (λ k.
    count_if (is_inside (choice_at material.known.now) (range_of sites.from sites.to)
    (neighbour_at material.form.ends.now (neighbours_start material.form.ends.now site + k))) 1)
