use Rattle.std.proofs.Common.{ℕ, ◌<◌, ◌≤◌, length, get_or}
use Rattle.block_rings.specs.declared.pair.PortPair.{PortPair}
use Rattle.block_rings.specs.Kept.{IsOfBlocks}
use Rattle.block_rings.proofs.kept_rings.place_of_pair.Given as goal

abbrev pub invariant-loop-k : goal.invariant-loop-k
invariant-loop-k l = (i : ℕ) (d : PortPair) → l.k ≤ i → i < length l.pairs.items → IsOfBlocks l.b l.c (get_or l.pairs.items i d) → ⊥
