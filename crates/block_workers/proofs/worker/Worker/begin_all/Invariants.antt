use Rattle.std.proofs.Common.{◌≡◌, ℕ, ◌<◌, ◌≤◌, length, get_or}
use Rattle.block_workers.specs.declared.seat.Seat.{Seat}
use Rattle.block_workers.specs.Workers.{HasWorked}
use Rattle.block_workers.proofs.worker.Worker.begin_all.Given as goal

abbrev pub invariant-loop-k : goal.invariant-loop-k
invariant-loop-k g l = record {
  seats : length l.self.seats.items ≡ length l.fn.self.seats.items;
  done : (i : ℕ) (d : Seat) → i < l.k → HasWorked (get_or l.fn.self.seats.items i d) (get_or l.self.seats.items i d);
  rest : (i : ℕ) (d : Seat) → l.k ≤ i → get_or l.self.seats.items i d ≡ get_or l.fn.self.seats.items i d;
}
