use Rattle.std.proofs.Common.{◌*◌, not, ◌&&◌, ◌∷◌, take}
use Rattle.std.specs.List.{sum_by}
use Rattle.sums.specs.Sums.{count_if}
use Rattle.compile_cut.specs.Weights.{AddsArcs}
use Rattle.compile_cut.proofs.tied.add_arcs_to.Given as goal

abbrev pub invariant-loop-index : goal.invariant-loop-index
invariant-loop-index l =
    AddsArcs l.initial.arcs.items l.arcs.items (l.to ∷ l.nodes) (l.capacity * l.index)
    (λ x. sum_by (λ node. count_if (x l.to && not (x node)) l.capacity) (take l.index l.nodes))
