use Rattle.std.proofs.Common.{arith}
use Rattle.cut_in_blocks.proofs.Lowering.{raised_after}
use Rattle.global_relabel.proofs.Resting.{unfinished_raised}
use Rattle.cut_in_blocks.proofs.solver.advance.Goals as goal

pub work-requires-clause-unfinished : goal.work-requires-clause-unfinished
work-requires-clause-unfinished c =
    unfinished_raised c.args.state c.raise_to.new.self c.requires.quiet c.raise_to.ensures c.requires.unfinished

pub returns-clause-less : goal.returns-clause-less
returns-clause-less c =
    omega (arith, c.in_ok-next.ensures.less, (raised_after c.args.state c.raise_to.new.self c.requires.sound c.raise_to.ensures).count)
