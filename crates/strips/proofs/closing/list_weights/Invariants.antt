use Rattle.std.proofs.Common.{◌≡◌, ◌≤◌, length, map, take}
use Rattle.std.specs.Prelude.{vec_len, vec_capacity}
use Rattle.move_energy.specs.Weights.{weight_at}
use Rattle.strips.proofs.closing.list_weights.Given as goal

abbrev pub invariant-loop-index : goal.invariant-loop-index
invariant-loop-index l = record {
  room : length l.opened ≤ vec_capacity l.list;
  len : vec_len l.list ≡ l.index;
  listed : l.list.items ≡ map (weight_at l.weights) (take l.index l.opened);
}
