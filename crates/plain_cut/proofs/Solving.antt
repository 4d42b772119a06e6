-- Labels that are exact, and no excess below the top: the smallest least cut.
use Rattle.std.proofs.Common.{◌≡◌, ℕ, ◌<◌, Bool, true, sym, ◌∙◌}
use Rattle.flow_network.specs.Cut.{Network, nodes, IsNet, capacity_of, IsSmallestLeastCut}
use Rattle.flow_network.specs.Preflow.{excess, IsCertified, IsReach}
use Rattle.flow_network.proofs.Smallest.{capacity_of_reach, smallest_least}
use Rattle.sink_distances.specs.Distances.{AreDistancesButZeros}
use Rattle.plain_cut.proofs.Zeros.{reaches_below}
use Rattle.plain_cut.specs.declared.work.Work.{Work}
use Rattle.plain_cut.specs.State.{work_flow, IsWork, HasNoActiveNode}

no_excess : (net : Network) (w : Work) (side : ℕ → Bool) → IsWork net w → HasNoActiveNode net w
    → AreDistancesButZeros net (work_flow net w) w.labels.items → IsReach net (work_flow net w) side
    → (v : ℕ) → v < nodes net → side v ≡ true → excess net (work_flow net w) v ≡ 0
no_excess net w side s done exact reach v l inside =
    sym (s.sound.told v l) ∙ done v l (reaches_below net (work_flow net w) w.labels.items exact v l (reach.sound v l inside))

pub solved_certified : (net : Network) (w : Work) (side : ℕ → Bool) (value : ℕ) → IsNet net → IsWork net w → HasNoActiveNode net w
    → AreDistancesButZeros net (work_flow net w) w.labels.items → IsReach net (work_flow net w) side
    → value ≡ capacity_of net side → IsCertified net (work_flow net w) side value
solved_certified net w side value h s done exact reach told = record {
  preflow = s.sound.preflow;
  full = capacity_of_reach net (work_flow net w) side h s.sound.preflow reach (no_excess net w side s done exact reach);
  told = told;
}

pub solved_smallest : (net : Network) (w : Work) (side : ℕ → Bool) → IsNet net → IsWork net w → HasNoActiveNode net w
    → AreDistancesButZeros net (work_flow net w) w.labels.items → IsReach net (work_flow net w) side → IsSmallestLeastCut net side
solved_smallest net w side h s done exact reach =
    smallest_least net (work_flow net w) side h s.sound.preflow reach (no_excess net w side s done exact reach)
