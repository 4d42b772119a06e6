use Rattle.std.proofs.Common.{◌≡◌, ◌+◌, ◌++◌, map, reverse, sum_by, vec_len, vec_capacity}
use Rattle.std.specs.Vec.Iter.{into_iter_items}
use Rattle.block_workers.specs.Workers.{turns_of}
use Rattle.rounds.proofs.collection.open_all.Given as goal

abbrev pub invariant-loop-worker : goal.invariant-loop-worker
invariant-loop-worker g l = record {
  all : map (λ h. reverse h.items) l.hands.items ++ map (λ w. w.seats.items) (into_iter_items l.worker-iterator)
      ≡ map (λ w. w.seats.items) (into_iter_items l.initial.worker-iterator);
  room : vec_capacity l.hands ≡ vec_capacity l.fn.hands;
  parts : l.share.parts ≡ l.fn.share.parts + vec_len l.hands;
  amount : l.share.amount ≡ l.fn.share.amount + sum_by turns_of (map (λ h. reverse h.items) l.hands.items);
}
