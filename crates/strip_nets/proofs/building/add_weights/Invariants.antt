use Rattle.std.proofs.Common.{◌≡◌, ◌+◌, ◌≤◌, ℕ, Bool, take, vec_len, ◌+ℤ◌}
use Rattle.compile_cut.specs.Weights.{weights_value, weights_size}
use Rattle.strip_nets.proofs.building.add_weights.Given as goal

abbrev pub invariant-loop-index : goal.invariant-loop-index
invariant-loop-index l = record {
  len : vec_len l.weights ≡ vec_len l.fn.weights;
  value : (x : ℕ → Bool) → weights_value l.weights.items x ≡ weights_value l.fn.weights.items x +ℤ weights_value (take l.index l.list) x;
  size : weights_size l.weights.items ≤ weights_size l.fn.weights.items + weights_size (take l.index l.list);
}
