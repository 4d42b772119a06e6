use Rattle.std.proofs.Common.{arith}
use Rattle.form_lists.proofs.Asking.{none_known}
use Rattle.move_tests.proofs.opened.open_in.Goals as goal

pub decide-decided-requires-clause-few : goal.decide-decided-requires-clause-few
decide-decided-requires-clause-few g c = omega (arith, c.keeps.ensures.sizes.2, c.requires.fits.labels)

pub decide-decided-requires-clause-known : goal.decide-decided-requires-clause-known
decide-decided-requires-clause-known g c = λ κs lives. none_known _ _ c.args.problem.now c.in_ok-deciding.deciding.numbers c.in_ok-deciding.ensures.costs
