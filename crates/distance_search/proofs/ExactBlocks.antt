-- Labels that are exact block by block are exact.
use Rattle.std.proofs.Common.{◌≡◌, ℕ, ◌<◌, List, length, refl}
use Rattle.flow_network.specs.Cut.{nodes}
use Rattle.block_events.specs.States.{State, block_of}
use Rattle.block_events.specs.Reach.{AreExact}
use Rattle.block_events.specs.Soundness.{IsSound}
use Rattle.block_events.proofs.Ends.{block_in}
use Rattle.global_relabel.specs.Local.{AreLocallyExactIn}
use Rattle.global_relabel.proofs.Local as local

pub exact_by_blocks : (s : State) (labels : List ℕ) → IsSound s → length labels ≡ nodes s.net
    → ((b : ℕ) → b < s.blocks → AreLocallyExactIn s labels b) → AreExact s labels
exact_by_blocks s labels sound len each =
    local.are_exact s labels sound.sized.net (record {
      len = len;
      each = λ v l. each (block_of s.net s.blocks v) (block_in s.net s.blocks v l sound.sized.blocks) v l refl;
    })
