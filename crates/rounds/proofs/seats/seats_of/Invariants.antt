use Rattle.std.proofs.Common.{◌≡◌, ℕ, ◌<◌, ◌≤◌, ◌+◌, ◌++◌, length, get_or, vec_capacity}
use Rattle.std.specs.Vec.Iter.{into_iter_items}
use Rattle.block_net.specs.Views.{count}
use Rattle.block_workers.specs.declared.seat.Seat.{Seat}
use Rattle.block_workers.specs.Workers.{AreNew}
use Rattle.rounds.specs.Seated.{blocks_of, ends_of_seats, AreBlocksSmall}
use Rattle.rounds.proofs.seats.seats_of.Given as goal

abbrev pub invariant-loop-cells : goal.invariant-loop-cells
invariant-loop-cells l = record {
  hold : blocks_of l.seats.items ++ into_iter_items l.cells-iterator ≡ into_iter_items l.initial.cells-iterator;
  have : ends_of_seats l.seats.items ++ into_iter_items l.rest ≡ into_iter_items l.initial.rest;
  number : length l.seats.items ≡ l.number;
  many : length (into_iter_items l.rest) ≡ length (into_iter_items l.cells-iterator);
  room : length l.seats.items + length (into_iter_items l.cells-iterator) ≤ vec_capacity l.seats;
  few : l.number + length (into_iter_items l.cells-iterator) ≡ length (into_iter_items l.initial.cells-iterator);
  small : AreBlocksSmall (into_iter_items l.cells-iterator);
  numbers : (b : ℕ) (d : Seat) → b < length l.seats.items → (get_or l.seats.items b d).number ≡ b;
  nodes : (b : ℕ) (d : Seat) → b < length l.seats.items → (get_or l.seats.items b d).nodes ≡ count (get_or l.seats.items b d).block;
  new : AreNew l.seats.items;
}
