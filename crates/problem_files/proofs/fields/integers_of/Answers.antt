use Rattle.std.proofs.Common.{arith}
use Rattle.problem_files.proofs.Integers.{too_many}
use Rattle.problem_files.proofs.fields.integers_of.Goals as goal

pub returns-then-len : goal.returns-then-len
returns-then-len g c = too_many c.args.items.now.items g.row.N (omega (arith, c.if-len.true))
