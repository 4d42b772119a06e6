use Rattle.std.proofs.Common.{arith}
use Rattle.compile_cut.proofs.PartLemmas.{passed_is}
use Rattle.compile_cut.proofs.three.product_weight.Goals as goal

pub returns-clause-value : goal.returns-clause-value
returns-clause-value c =
    let one = passed_is c.balance.result (omega (arith, c.balance.ensures.small)) in
    let other = passed_is c.balance-2.result (omega (arith, c.balance-2.ensures.small)) in
    let both = passed_is c.sum.result (omega (arith, c.sum.ensures.small)) in
    cc (one, other, both, c.sum.ensures.value, c.balance.ensures.value, c.balance-2.ensures.value)
