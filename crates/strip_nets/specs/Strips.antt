-- That a strip is built.
use Rattle.std.specs.Prelude.{◌≡◌, ℕ, ◌+◌, ◌≤◌, All, List, length, sum, vec_len}
use Rattle.label_field.specs.Limits.{site_limit}
use Rattle.flow_network.specs.Cut.{IsArc}
use Rattle.compile_cut.specs.Weights.{weights_size, arcs_size}
use Rattle.sink_distances.specs.Rows.{arc_ends}
use Rattle.sink_distances.specs.Laying.{ArePartLaid}
use Rattle.strip_nets.specs.declared.material.RowForm.{RowForm}
use Rattle.strip_nets.specs.declared.material.StripSites.{StripSites}
use Rattle.strip_nets.specs.Limits.{borders_limit}
use Rattle.strip_nets.specs.RowForms.{arcs_in}

-- a form in rows over n nodes, in which all pairs stand whose ends are these
pub record IsRowForm (n : ℕ) (ends : List ℕ) (form : RowForm) : Type 0 where
  pub nodes : vec_len form.weights ≡ n
  pub few : n ≤ site_limit
  pub laid : ArePartLaid n ends (arcs_in form) form.laying.starts.items form.laying.nexts.items
      form.laying.cells.items form.laying.firsts.items
  pub full : arc_ends (arcs_in form) ≡ ends
  pub arcs_are : All (IsArc n) (arcs_in form)
  pub size : weights_size form.weights.items + arcs_size (arcs_in form) ≤ 1000000000000000

-- a form in rows with a node for each listed site, and a border for each of them, in their limits
pub record IsStripLaid (sites : StripSites) (form : RowForm) (borders : List ℕ) : Type 0 where
  pub ends : List ℕ
  pub rows : IsRowForm (length sites.opened.now) ends form
  pub count : length borders ≡ length sites.opened.now
  pub small : sum borders ≤ borders_limit
