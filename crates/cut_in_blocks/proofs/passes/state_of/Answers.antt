use Rattle.std.proofs.Common.{◌+◌, ◌≤◌, sym, subst}
use Rattle.block_events.specs.States.{State}
use Rattle.block_events.specs.Soundness.{potential}
use Rattle.block_state.specs.Pieces.{state_in}
use Rattle.cut_in_blocks.proofs.Going.{held_again, lower_all}
use Rattle.cut_in_blocks.proofs.passes.state_of.Goals as goal

pub into_state-requires-clause-held : goal.into_state-requires-clause-held
into_state-requires-clause-held c =
    held_again c.args.old.now.value (record { net = c.args.net; parts = c.args.parts; ways = c.args.ways; got = c.sink_total.result })
    c.requires.net c.requires.firsts c.requires.slots 0 c.requires.going c.sink_total.ensures c.requires.ready.held

pub returns-clause-lower : goal.returns-clause-lower
returns-clause-lower c = λ n going.
    subst (λ (s : State). potential s + n ≤ potential (state_in c.args.old.now.value)) (sym c.into_state.ensures)
    (lower_all c.args.old.now.value (record { net = c.args.net; parts = c.args.parts; ways = c.args.ways; got = c.sink_total.result })
    c.requires.net c.requires.firsts c.requires.slots n going c.sink_total.ensures)
