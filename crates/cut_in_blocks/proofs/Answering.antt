-- A finished state shows a certified cut.
use Rattle.std.proofs.Common.{◌≡◌, ℕ, ◌≤◌, Bool, List, length, map, nat_lt, sym, ◌∙◌, ap, subst, arith}
use Rattle.std.proofs.lemmas.List.{length-map}
use Rattle.flow_network.specs.declared.solved.Solved.{Solved}
use Rattle.flow_network.specs.Cut.{IsSmallestLeastCut}
use Rattle.flow_network.specs.Answer.{flow_of, side_of, IsRightCut}
use Rattle.flow_network.specs.Preflow.{Flow, IsCertified}
use Rattle.flow_network.specs.Limits.{capacity_limit}
use Rattle.flow_network.specs.Progress.{top}
use Rattle.block_events.specs.States.{State}
use Rattle.block_events.specs.Reach.{AreExact}
use Rattle.block_events.specs.Flows.{shown_flow}
use Rattle.block_events.specs.Soundness.{IsSound, IsFinished}
use Rattle.block_events.proofs.Finishing.{quiet_preflow, quiet_gets, finished_smallest, finished_full}
use Rattle.global_relabel.proofs.Bridge.{reach_of}

-- the answer has the flow that the state shows, the nodes whose exact label is below the top one,
-- and what the sink got
pub record IsShownBy (s : State) (labels : List ℕ) (r : Solved) : Type 0 where
  pub exact : AreExact s labels
  pub flow : flow_of r ≡ shown_flow s
  pub side : r.sink_side.items ≡ map (λ label. nat_lt label (top s.net)) labels
  pub value : r.value ≡ s.got

pub shown_right : (s : State) (labels : List ℕ) (r : Solved) → IsSound s → IsFinished s → IsShownBy s labels r → IsRightCut s.net r
shown_right s labels r sound done is =
    let reach = reach_of s labels r.sink_side.items is.exact is.side in
    let full = finished_full s (side_of r) sound done reach in
    let certified : IsCertified s.net (shown_flow s) (side_of r) r.value = record {
      preflow = quiet_preflow s sound done.quiet;
      full = quiet_gets s sound done.quiet ∙ full;
      told = is.value ∙ full;
    } in
    record {
      bits = ap (length {A = Bool}) is.side ∙ (length-map labels (λ label. nat_lt label (top s.net)) ∙ is.exact.len);
      certified = subst (λ (f : Flow). IsCertified s.net f (side_of r) r.value) (sym is.flow) certified;
    }

pub shown_smallest : (s : State) (labels : List ℕ) (r : Solved) → IsSound s → IsFinished s → IsShownBy s labels r → IsSmallestLeastCut s.net (side_of r)
shown_smallest s labels r sound done is = finished_smallest s (side_of r) sound done (reach_of s labels r.sink_side.items is.exact is.side)

pub shown_bound : (s : State) (labels : List ℕ) (r : Solved) → IsSound s → IsShownBy s labels r → r.value ≤ capacity_limit
shown_bound s labels r sound is = omega (arith, is.value, sound.flow.total, sound.sized.net.total)
