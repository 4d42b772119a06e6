-- What the rows of a strip add.
use Rattle.std.specs.Prelude.{◌≡◌, ℕ, ℤ, ◌+◌, ◌≤◌, List, length, map, sum, sum_by}
use Rattle.compile_cut.specs.Weights.{weights_size}
use Rattle.move_energy.specs.Built.{AddsCost}
use Rattle.move_energy.specs.Limits.{weights_limit}
use Rattle.site_forms.specs.Numbers.{WhereRead}
use Rattle.sink_distances.specs.Rows.{arc_ends}
use Rattle.strip_nets.specs.declared.material.Material.{Material}
use Rattle.strip_nets.specs.declared.material.RowForm.{RowForm}
use Rattle.strip_nets.specs.declared.material.StripSites.{StripSites}
use Rattle.strip_nets.specs.Building.{AreStartWeights, unsaved_at, border_of_site, weight_by_now}
use Rattle.strip_nets.specs.Limits.{borders_limit}
use Rattle.strip_nets.specs.Meeting.{strip_ends}
use Rattle.strip_nets.specs.RowForms.{arcs_in, form_in, IsLaidTo}

-- all pairs of the strip stand in the new form, which adds what they do not save, and the lists
-- have the weights of its sites by now and their borders, all in their limits
pub record AreRowsAdded (material : Material) (sites : StripSites) (old new : RowForm)
    (list : List ℤ) (borders : List ℕ) : Type 0 where
  pub count : (length list ≡ length sites.opened.now) × (length borders ≡ length sites.opened.now)
  pub size : weights_size list ≤ weights_limit + borders_limit
  pub small : sum borders ≤ borders_limit
  pub laid : IsLaidTo (length sites.opened.now) (strip_ends material sites) new
  pub ends : arc_ends (arcs_in new) ≡ strip_ends material sites
  pub weights : WhereRead material.form (λ m move f. AreStartWeights material sites m move f
      → list ≡ map (weight_by_now m move f material) sites.opened.now)
  pub borders_are : WhereRead material.form (λ m move f.
      borders ≡ map (border_of_site m move f material sites) sites.opened.now)
  pub adds : WhereRead material.form (λ m move f. AddsCost (form_in old) (form_in new)
      (λ x. sum_by (unsaved_at m move f material sites x) sites.opened.now))
