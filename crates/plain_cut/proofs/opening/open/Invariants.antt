use Rattle.plain_cut.specs.State.{IsUnlabelled}
use Rattle.plain_cut.proofs.opening.open.Given as goal

abbrev pub invariant-up : goal.invariant-up
invariant-up l = IsUnlabelled l.net l.work

abbrev pub invariant-down : goal.invariant-down
invariant-down l = IsUnlabelled l.net l.work

abbrev pub invariant-again : goal.invariant-again
invariant-again l = IsUnlabelled l.net l.work
