use Rattle.std.proofs.lemmas.Int.{ints}
use Rattle.std.proofs.Common.{arith}
use Rattle.compile_cut.proofs.PartLemmas.{balance_is}
use Rattle.compile_cut.proofs.parts.balance_of.Goals as goal

pub returns-clause-value : goal.returns-clause-value
returns-clause-value x =
    balance_is x.args.a x.args.b x.args.c x.args.d x.requires.a x.requires.b x.requires.c x.requires.d

pub overflow_sub-result : goal.overflow_sub-result
overflow_sub-result c = omega (arith, ints)

pub returns-clause-small : goal.returns-clause-small
returns-clause-small c = omega (arith, ints)
