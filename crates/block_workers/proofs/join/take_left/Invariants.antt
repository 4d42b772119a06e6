use Rattle.std.proofs.Common.{◌≡◌, ◌+◌, ◌++◌, length, vec_len, vec_capacity}
use Rattle.block_workers.specs.Ports.{TakesAll, letters_taken, letters_waiting}
use Rattle.block_workers.proofs.join.take_left.Given as goal

abbrev pub invariant-loop : goal.invariant-loop
invariant-loop l = record {
  all : letters_taken l.to ++ letters_waiting l.to ≡ letters_taken l.initial.to ++ letters_waiting l.initial.to;
  so_far : TakesAll l.left.items l.initial.to l.to;
  rest : length (letters_waiting l.to) + l.counter ≡ length (letters_waiting l.initial.to);
  len : vec_len l.left ≡ l.counter;
  room : vec_capacity l.left ≡ vec_capacity l.initial.left;
}
