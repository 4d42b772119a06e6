use Rattle.std.proofs.Common.{◌≡◌, ◌-◌, ◌<◌, ◌≤◌, ℕ, length, slice_index}
use Rattle.plain_cut.proofs.solver.turn_to_given.Given as goal

abbrev pub invariant-nodes : goal.invariant-nodes
invariant-nodes l = record {
  len : length l.rooms ≡ length l.sinks;
  done : (v : ℕ) → v < l.v → slice_index l.rooms v ≡ slice_index l.sinks v - slice_index l.initial.rooms v;
  left : (v : ℕ) → l.v ≤ v → slice_index l.rooms v ≡ slice_index l.initial.rooms v;
}
