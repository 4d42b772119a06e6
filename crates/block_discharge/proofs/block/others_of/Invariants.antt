use Rattle.std.proofs.Common.{◌≡◌, ℕ, ◌<◌, ◌≤◌, length, Contains}
use Rattle.std.specs.Vec.{vec_len, vec_capacity}
use Rattle.block_net.specs.Views.{border_in}
use Rattle.block_discharge.proofs.block.others_of.Given as goal

abbrev pub invariant-borders : goal.invariant-borders
invariant-borders l = record {
  known : (k : ℕ) → k < l.j → Contains l.all.items (border_in l.cells k).to;
  len : vec_len l.all ≡ l.j;
  room : length l.cells.borders ≤ vec_capacity l.all;
}
