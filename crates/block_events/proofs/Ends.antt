-- Ends of directions are nodes, and their blocks are blocks.
use Rattle.std.proofs.Common.{◌≡◌, ℕ, ◌+◌, ◌*◌, ◌<◌, ◌≤◌, Bool, true, false, cond, arith}
use Rattle.std.proofs.lemmas.Nat.{mul-le, div_below}
use Rattle.flow_network.specs.Cut.{Network, nodes, IsNet}
use Rattle.flow_network.proofs.Duality.{arc_is}
use Rattle.block_events.specs.declared.direction.Direction.{Direction}
use Rattle.block_events.specs.Directions.{IsDirection, near, far}
use Rattle.block_events.specs.States.{State, block_of, near_block, far_block}
use Rattle.block_events.specs.Soundness.{IsSized}

end_in : (n : ℕ) (b : Bool) (u v : ℕ) → u < n → v < n → cond b u v < n
end_in n true u v lu lv = lu
end_in n false u v lu lv = lv

pub near_in : (net : Network) (x : Direction) → IsNet net → IsDirection net x → near net x < nodes net
near_in net x h l = let ends = arc_is net h x.arc l in end_in (nodes net) x.back _ _ ends.to ends.from

pub far_in : (net : Network) (x : Direction) → IsNet net → IsDirection net x → far net x < nodes net
far_in net x h l = let ends = arc_is net h x.arc l in end_in (nodes net) x.back _ _ ends.from ends.to

pub block_in : (net : Network) (blocks v : ℕ) → v < nodes net → 1 ≤ blocks → block_of net blocks v < blocks
block_in net blocks v lv some =
    let less = mul-le (v + 1) blocks (nodes net) blocks (omega arith) (omega arith) in
    let one : (v + 1) * blocks ≡ v * blocks + blocks = grind arith in
    let turn : nodes net * blocks ≡ blocks * nodes net = grind arith in
    div_below (v * blocks) (nodes net) blocks (omega arith) (omega arith)

pub near_block_in : (s : State) (x : Direction) → IsSized s → IsDirection s.net x → near_block s.net s.blocks x < s.blocks
near_block_in s x sized l = block_in s.net s.blocks (near s.net x) (near_in s.net x sized.net l) sized.blocks

pub far_block_in : (s : State) (x : Direction) → IsSized s → IsDirection s.net x → far_block s.net s.blocks x < s.blocks
far_block_in s x sized l = block_in s.net s.blocks (far s.net x) (far_in s.net x sized.net l) sized.blocks
