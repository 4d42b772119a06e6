use Rattle.std.proofs.Common.{rules}
use Rattle.problem_files.proofs.fields.constant_of.Goals as goal

pub returns-then-unsigned_abs-gt-VALUE_LIMIT : goal.returns-then-unsigned_abs-gt-VALUE_LIMIT
returns-then-unsigned_abs-gt-VALUE_LIMIT c = search rules
