use Rattle.std.proofs.Common.{IfOk, subst, sym}
use Rattle.block_state.specs.AllWays.{IsHeld}
use Rattle.block_events.specs.Events.{IsQuiet}
use Rattle.block_events.specs.States.{State}
use Rattle.rounds.specs.Short.{IsShortRound}
use Rattle.rounds.proofs.round.run_by.Goals as goal

pub round_with-requires-clause-laid : goal.round_with-requires-clause-laid
round_with-requires-clause-laid g c κs within = c.into_pieces-pieces.ensures.laid

pub round_with-requires-clause-held : goal.round_with-requires-clause-held
round_with-requires-clause-held g c κs within =
    subst (λ (s : State). IsHeld c.into_pieces-pieces.result.ways.rooms s)
    (sym c.into_pieces-pieces.ensures.state) c.into_pieces-pieces.ensures.held

pub round_with-requires-clause-quiet : goal.round_with-requires-clause-quiet
round_with-requires-clause-quiet g c κs within =
    subst IsQuiet (sym c.into_pieces-pieces.ensures.state) c.requires.quiet

pub returns-clause-round : goal.returns-clause-round
returns-clause-round g c =
    subst (λ (s : State). IfOk c.round_with.result (λ after. IsShortRound c.args.options.now.turns s after.0))
    c.into_pieces-pieces.ensures.state c.round_with.ensures.round

pub returns-clause-left : goal.returns-clause-left
returns-clause-left g c = c.round_with.ensures.left
