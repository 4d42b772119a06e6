use Rattle.cut_in_blocks.proofs.Opened.{held_after, quiet_after, gave_after}
use Rattle.cut_in_blocks.proofs.opening.state_of.Goals as goal

pub into_state-requires-clause-held : goal.into_state-requires-clause-held
into_state-requires-clause-held c =
    held_after c.args.old.now.value c.args.pieces c.sink_total.result c.requires.same c.requires.opening c.requires.held c.sink_total.ensures

pub returns-clause-quiet : goal.returns-clause-quiet
returns-clause-quiet c = λ quiet.
    rw (c.into_state.ensures) (quiet_after c.args.old.now.value c.args.pieces c.sink_total.result c.requires.same c.requires.opening quiet)

pub returns-clause-gave : goal.returns-clause-gave
returns-clause-gave c = λ gave.
    rw (c.into_state.ensures) (gave_after c.args.old.now.value c.args.pieces c.sink_total.result c.requires.same c.requires.opening gave)
