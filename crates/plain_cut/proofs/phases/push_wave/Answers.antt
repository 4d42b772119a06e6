use Rattle.std.proofs.Common.{arith, refl}
use Rattle.std.proofs.lemmas.Result.{IfOk-from_err}
use Rattle.plain_cut.proofs.phases.push_wave.Goals as goal

pub wave-init : goal.wave-init
wave-init c = record { work = c.requires.work; labels = refl; fall = omega arith; counted = omega arith }

pub push_all-requires-clause-work : goal.push_all-requires-clause-work
push_all-requires-clause-work c = c.wave.invariant.work

pub returns-in_err-push_all : goal.returns-in_err-push_all
returns-in_err-push_all c = record { wave = IfOk-from_err _ _ c.from_residual.ensures.0 }

pub returns : goal.returns
returns c = record { wave = c.wave.invariant }
