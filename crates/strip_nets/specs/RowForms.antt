-- The form of a strip whose pairs stand in rows.
use Rattle.flow_network.specs.Cut.{IsArc, Network, network_of}
use Rattle.std.specs.Prelude.{All, ◌≡◌, ℕ, ◌*◌, ◌≤◌, List, length, take, map, pos}
use Rattle.std.specs.Prelude.{vec_len}
use Rattle.std.specs.Global.{Vec}
use Rattle.std.proofs.lemmas.List.{length-map}
use Rattle.std.proofs.Common.{sym, ◌∙◌}
use Rattle.flow_network.specs.declared.arc.Arc.{Arc}
use Rattle.sink_distances.specs.Laid.{arc_standing, arcs_standing}
use Rattle.sink_distances.specs.Laying.{ArePartLaid}
use Rattle.compile_cut.specs.declared.quadratic.Quadratic.{Quadratic}
use Rattle.compile_cut.specs.Weights.{weights_size, arcs_size, source_part, sink_part}
use Rattle.move_energy.specs.Limits.{surplus_limit}
use Rattle.strip_nets.specs.declared.material.RowForm.{RowForm}

-- the arcs that stand in its rows
abbrev pub arcs_in : RowForm → List Arc
arcs_in form = arcs_standing form.laying.cells.items form.laying.firsts.items

-- a list of what a function makes of each element
abbrev pub vec_made : {X Y : Type 0} → (X → Y) → Vec X → Vec Y
vec_made f v = record {
  ptr = v.ptr;
  len = v.len;
  cap = v.cap;
  alloc = v.alloc;
  items = map f v.items;
  ok = (v.ok.0 ∙ sym (length-map v.items f), v.ok.1);
  small = v.small;
}

-- the form that it is
abbrev pub form_in : RowForm → Quadratic
form_in form = record {
  constant = pos 0;
  weights = form.weights;
  arcs = vec_made (arc_standing form.laying.cells.items) form.laying.firsts;
}

-- its network: a weight above 0 comes from the source, and one below 0 goes to the sink
abbrev pub row_net : RowForm → Network
row_net form = network_of (map source_part form.weights.items) (map sink_part form.weights.items)
    (arcs_in form)

-- the list is the beginning of another
abbrev pub IsFirstPart : List ℕ → List ℕ → Type 0
IsFirstPart xs all = take (length xs) all ≡ xs

-- its pairs stand at their places among n nodes, where the ends of all pairs are these, and its
-- numbers are in their limits
pub record IsLaidTo (n : ℕ) (ends : List ℕ) (form : RowForm) : Type 0 where
  pub nodes : vec_len form.weights ≡ n
  pub laid : ArePartLaid n ends (arcs_in form) form.laying.starts.items form.laying.nexts.items
      form.laying.cells.items form.laying.firsts.items
  pub arcs_are : All (IsArc n) (arcs_in form)
  pub weights : weights_size form.weights.items ≤ surplus_limit * length form.laying.firsts.items
  pub arcs : arcs_size (arcs_in form) ≤ surplus_limit * length form.laying.firsts.items
