use Rattle.std.proofs.Common.{◌≡◌, ◌≤◌, ◌+◌, ◌++◌, length, map, reverse, vec_capacity, vec_len}
use Rattle.rounds.specs.Seated.{blocks_of, ends_of_seats, ports_of}
use Rattle.rounds.proofs.seats.apart.Given as goal

abbrev pub invariant-loop-seat : goal.invariant-loop-seat
invariant-loop-seat l = record {
  blocks : l.blocks.items ++ blocks_of (reverse l.seats.items) ≡ blocks_of l.fn.seats.items;
  lists : map (λ list. list.items) l.lists.items ++ ports_of (ends_of_seats (reverse l.seats.items)) ≡ ports_of (ends_of_seats l.fn.seats.items);
  left : vec_len l.seats + l._seat ≡ l.count;
  room_blocks : length l.blocks.items + vec_len l.seats ≤ vec_capacity l.blocks;
  room_lists : length l.lists.items + vec_len l.seats ≤ vec_capacity l.lists;
}
