use Rattle.std.proofs.Common.{◌≡◌, ◌+◌, sum_by, take}
use Rattle.flow_network.proofs.net.room_after_arcs.Given as goal

abbrev pub invariant-loop-arc : goal.invariant-loop-arc
invariant-loop-arc l = l.rest + sum_by (λ arc. arc.capacity) (take l.arc-index l.arcs) ≡ l.room
