use Rattle.std.proofs.Common.{◌≡◌, ◌+◌, ◌≤◌, ◌++◌, All, List, length, map, reverse, vec_capacity, vec_len}
use Rattle.block_workers.specs.declared.seat.Seat.{Seat}
use Rattle.rounds.specs.Dealing.{AreDealt}
use Rattle.rounds.proofs.hands.fill.Given as goal

abbrev pub invariant-loop-dealt : goal.invariant-loop-dealt
invariant-loop-dealt l = record {
  done : List Seat;
  all : done ++ reverse l.seats.items ≡ l.fn.seats.items;
  count : length done ≡ l.dealt;
  left : vec_len l.seats + l.dealt ≡ l.count;
  len : vec_len l.hands ≡ l.threads;
  capacity : vec_capacity l.seats ≡ vec_capacity l.fn.seats;
  room : All (λ h. l.room ≤ vec_capacity h) l.hands.items;
  dealt : AreDealt l.threads done (map (λ h. h.items) l.hands.items);
}
