use Rattle.std.proofs.Common.{◌≡◌, ℕ, Bool, All, take, pos}
use Rattle.flow_network.specs.Cut.{IsArc}
use Rattle.compile_cut.specs.Weights.{arcs_value, arcs_size, IsAbove}
use Rattle.strip_nets.specs.RowForms.{arcs_in}
use Rattle.strip_nets.proofs.sides.write_form.Given as goal

abbrev pub invariant-loop-index : goal.invariant-loop-index
invariant-loop-index l = record {
  constant : l.written.constant ≡ pos 0;
  weights : l.written.weights.items ≡ l.form.weights.items;
  value : (x : ℕ → Bool) → arcs_value l.written.arcs.items x ≡ arcs_value (take l.index (arcs_in l.form)) x;
  size : arcs_size l.written.arcs.items ≡ arcs_size (take l.index (arcs_in l.form));
  arcs : (n : ℕ) → All (IsArc n) (arcs_in l.form) → All (IsArc n) l.written.arcs.items;
  above : All IsAbove l.written.arcs.items;
}
