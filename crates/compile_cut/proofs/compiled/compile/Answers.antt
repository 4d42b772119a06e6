use Rattle.std.proofs.Common.{arith}
use Rattle.std.proofs.lemmas.Result.{IfOk-weaker}
use Rattle.compile_cut.proofs.TermLemmas.{three_count-le}
use Rattle.compile_cut.proofs.Composes.{shows_values}
use Rattle.compile_cut.proofs.compiled.compile.Goals as goal

pub net_of-requires-clause-len : goal.net_of-requires-clause-len
net_of-requires-clause-len c =
    let limits = c.in_ok-form.ensures.limits in
    omega (arith, c.in_ok-form.ensures.hidden, three_count-le c.energy.result.now, limits.variables, limits.count)

pub returns-clause-shown : goal.returns-clause-shown
returns-clause-shown c =
    rw (← c.energy.ensures.value)
    (IfOk-weaker c.net_of.result _ _ (λ made is. shows_values c.energy.result.now c.in_ok-form.form made.net made.constant c.in_ok-form.ensures.limits c.in_ok-form.ensures.values is) c.net_of.ensures.value)
