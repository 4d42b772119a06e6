use Rattle.std.proofs.Common.{◌≡◌, ◌≤◌, All, [], map, replicate, vec_capacity}
use Rattle.rounds.proofs.hands.empty_hands.Given as goal

abbrev pub invariant-loop-hand : goal.invariant-loop-hand
invariant-loop-hand l =
    (map (λ h. h.items) l.hands.items ≡ replicate l._hand [])
    × All (λ h. l.room ≤ vec_capacity h) l.hands.items
