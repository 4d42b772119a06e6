-- How many sites and pairs a strip has at most.
use Rattle.std.proofs.Common.{◌≡◌, ◌∙◌, ℕ, ◌<◌, ◌≤◌, length, sum_by, arith}
use Rattle.move_energy.specs.BySite.{degree}
use Rattle.move_energy.proofs.Opened.{opened_few}
use Rattle.move_energy.proofs.Places.{degree_most}
use Rattle.strip_nets.specs.declared.material.Material.{Material}
use Rattle.strip_nets.specs.declared.material.StripSites.{StripSites}
use Rattle.strip_nets.specs.Building.{CanBuild, AreStripSites, view_by}
use Rattle.strip_nets.specs.Meeting.{strip_ends}
use Rattle.strip_nets.proofs.Views.{view_length}
use Rattle.strip_nets.proofs.Borders.{degrees_few}
use Rattle.strip_nets.proofs.Meeting.{rows_few}

pub seen_length : (material : Material) (sites : StripSites) → CanBuild material → length (view_by sites material) ≡ material.form.pairs.now.sites
seen_length material sites can = view_length material.known.now sites.from sites.to ∙ can.count

pub row_few : (material : Material) (site : ℕ) → CanBuild material → site < material.form.pairs.now.sites → degree material.form.ends.now site ≤ 8388608
row_few material site can inside = omega (arith, degree_most material.form.pairs.now material.form.ends.now site can.over.by_site inside, can.over.list.count)

pub sites_few : (material : Material) (sites : StripSites) → CanBuild material → AreStripSites material sites → length sites.opened.now ≤ 1048576
sites_few material sites can listed = omega (arith, opened_few (view_by sites material) sites.opened.now listed, seen_length material sites can, can.over.list.sites)

pub degrees : (material : Material) (sites : StripSites) → CanBuild material → AreStripSites material sites → sum_by (degree material.form.ends.now) sites.opened.now ≤ 8388608
degrees material sites can listed =
    omega (arith, degrees_few material.form.pairs.now material.form.ends.now (view_by sites material) sites.opened.now can.over.by_site (seen_length material sites can) listed, can.over.list.count)

pub strip_ends_few : (material : Material) (sites : StripSites) → CanBuild material → AreStripSites material sites → length (strip_ends material sites) ≤ 16777216
strip_ends_few material sites can listed = omega (arith, rows_few material sites sites.opened.now, degrees material sites can listed)
