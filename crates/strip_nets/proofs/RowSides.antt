-- The net of a form in rows: that it is one, that it stands in rows, and what its cuts say.
use Rattle.std.proofs.Common.{◌≡◌, ℕ, ◌≤◌, Bool, List, length, map, sum, vec_len, pos, ◌+ℤ◌, ◌-ℤ◌, All, sym, ap, subst, ◌∙◌, arith}
use Rattle.std.proofs.lemmas.List.{length-map}
use Rattle.flow_network.specs.Cut.{Network, network_of, nodes, capacity_of, total_capacity, IsArc, IsNet}
use Rattle.sink_distances.specs.declared.laid.Laid.{Laid}
use Rattle.sink_distances.specs.Laid.{laid_net, arcs_standing}
use Rattle.sink_distances.specs.Laying.{ArePartLaid}
use Rattle.sink_distances.specs.Standing.{AreLaid}
use Rattle.sink_distances.proofs.Making.{ends_len}
use Rattle.sink_distances.proofs.Putting.{laid_done}
use Rattle.compile_cut.specs.Quadratics.{quadratic_value}
use Rattle.compile_cut.specs.Weights.{source_part, sink_part}
use Rattle.compile_cut.proofs.CapacityLemmas.{capacities_size, compiled_value, is_net}
use Rattle.strip_nets.specs.declared.material.RowForm.{RowForm}
use Rattle.strip_nets.specs.RowForms.{arcs_in, form_in, row_net}
use Rattle.strip_nets.specs.Strips.{IsRowForm}

pub row_nodes : (form : RowForm) → nodes (row_net form) ≡ vec_len form.weights
row_nodes form = length-map form.weights.items source_part ∙ sym form.weights.ok.0

pub row_is_net : (n : ℕ) (ends : List ℕ) (form : RowForm) → IsRowForm n ends form → IsNet (row_net form)
row_is_net n ends form h =
    let many : n ≡ length form.weights.items = sym h.nodes ∙ form.weights.ok.0 in
    is_net form.weights.items (arcs_in form) (omega (arith, many, h.few)) (subst (λ (k : ℕ). All (IsArc k) (arcs_in form)) many h.arcs_are) (omega (arith, h.size))

pub row_total : (n : ℕ) (ends : List ℕ) (form : RowForm) → IsRowForm n ends form → total_capacity (row_net form) ≤ 1000000000000000
row_total n ends form h = omega (arith, capacities_size form.weights.items, h.size)

pub row_value : (form : RowForm) (x : ℕ → Bool) → pos (capacity_of (row_net form) x) +ℤ (pos 0 -ℤ pos (sum (map sink_part form.weights.items))) ≡ quadratic_value (form_in form) x
row_value form x = compiled_value form.weights.items (arcs_in form) (pos 0) x

-- what is laid in the lists of the form, with the capacities of its weights, is its network
pub net_same : (form : RowForm) (laid : Laid) → laid.sources.items ≡ map source_part form.weights.items → laid.sinks.items ≡ map sink_part form.weights.items
    → laid.cells ≡ form.laying.cells → laid.firsts ≡ form.laying.firsts → laid_net laid ≡ row_net form
net_same form laid sources sinks cells firsts = λ i. network_of (sources i) (sinks i) (arcs_standing (cells i).items (firsts i).items)

pub row_laid : (n : ℕ) (ends : List ℕ) (form : RowForm) (laid : Laid) → IsRowForm n ends form → laid.starts ≡ form.laying.starts → laid.ends ≡ form.laying.nexts → laid.cells ≡ form.laying.cells
    → laid.firsts ≡ form.laying.firsts → laid_net laid ≡ row_net form → AreLaid laid
row_laid n ends form laid h starts nexts cells firsts same =
    let part : ArePartLaid n ends (arcs_in form) laid.starts.items laid.ends.items laid.cells.items laid.firsts.items = rw (starts, nexts, cells, firsts) h.laid in
    laid_done n ends (arcs_in form) laid part (omega (arith, ap (length {A = ℕ}) h.full, ends_len (arcs_in form)))
    (ap (λ (net : Network). nodes net) same ∙ row_nodes form ∙ h.nodes)
    (subst IsNet (sym same) (row_is_net n ends form h))
