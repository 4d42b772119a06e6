use Rattle.std.proofs.Common.{◌≡◌, ◌+◌, sum, take}
use Rattle.flow_network.proofs.net.room_after.Given as goal

abbrev pub invariant-loop-number : goal.invariant-loop-number
invariant-loop-number l = l.rest + sum (take l.number-index l.numbers) ≡ l.room
