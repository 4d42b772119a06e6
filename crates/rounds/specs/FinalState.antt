-- What is known after rounds.
use Rattle.std.specs.Prelude.{IsTrue}
use Rattle.block_events.specs.Soundness.{IsFinished}
use Rattle.block_events.specs.Reach.{AreExact}
use Rattle.rounds.specs.declared.final_state.FinalState.{FinalState}

-- where the state is told to be finished it is, and the labels at hand are the exact ones
abbrev pub IsFinalState : FinalState → Type 0
IsFinalState e = IsTrue e.is_finished
    → IsFinished e.state × AreExact e.state e.workspace.labels.items
