use Rattle.std.specs.Prelude.{◌↔◌, ℕ, List}
use Rattle.flow_network.specs.Cut.{IsNet}
use Rattle.sink_distances.specs.Distances.{AreDistances}
use Rattle.block_events.specs.States.{State}
use Rattle.block_events.specs.Reach.{AreExact}
use Rattle.block_events.specs.Flows.{shown_flow}
use Rattle.block_events.specs.Events.{IsQuiet}
use Rattle.block_events.specs.Soundness.{IsSound}
use Rattle.global_relabel.specs.Local.{AreLocallyExact}

-- exact labels are the distances over the flow that the state shows
abbrev pub ExactAreDistances : Type 0
ExactAreDistances =
    (s : State) (labels : List ℕ) → IsSound s → IsQuiet s
    → AreExact s labels ↔ AreDistances s.net (shown_flow s) labels

-- labels that are exact node by node are exact
abbrev pub LocalIsExact : Type 0
LocalIsExact = (s : State) (labels : List ℕ) → IsNet s.net → AreLocallyExact s labels
    → AreExact s labels
