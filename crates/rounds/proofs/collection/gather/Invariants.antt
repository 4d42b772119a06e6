use Rattle.std.proofs.Common.{◌≡◌, ℕ, ◌<◌, ◌++◌, List, length, map, reverse, sum_by, vec_len, vec_capacity}
use Rattle.block_workers.specs.declared.seat.Seat.{Seat}
use Rattle.block_workers.specs.Workers.{turns_of}
use Rattle.rounds.specs.Dealing.{hand, AreDealt}
use Rattle.rounds.proofs.collection.gather.Given as goal

abbrev pub invariant-loop-b : goal.invariant-loop-b
invariant-loop-b l = record {
  parts : List (List Seat);
  len : vec_len l.hands ≡ l.threads;
  room : vec_capacity l.seats ≡ vec_capacity l.fn.seats;
  count : length l.seats.items ≡ l.b;
  dealt : AreDealt l.threads l.seats.items parts;
  turns : turns_of l.seats.items ≡ sum_by turns_of parts;
  whole : (w : ℕ) → w < l.threads
      → hand parts w ++ hand (map (λ h. reverse h.items) l.hands.items) w ≡ hand (map (λ h. reverse h.items) l.fn.hands.items) w;
}
