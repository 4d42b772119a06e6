use Rattle.std.proofs.Common.{◌≡◌, ◌+◌, ◌++◌, map, reverse, vec_len, vec_capacity}
use Rattle.rounds.proofs.hands.enlist.Given as goal

abbrev pub invariant-loop-hand : goal.invariant-loop-hand
invariant-loop-hand g l = record {
  all : map (λ w. w.seats.items) l.workers.items ++ map (λ h. h.items) (reverse l.hands.items)
      ≡ map (λ h. h.items) l.fn.hands.items;
  left : vec_len l.hands + l._hand ≡ l.count;
  capacity : vec_capacity l.hands ≡ vec_capacity l.fn.hands;
  room : vec_capacity l.workers ≡ vec_capacity l.fn.workers;
  parts : l.share.parts + vec_len l.workers ≡ l.fn.share.parts;
  amount : l.share.amount ≡ 0;
}
