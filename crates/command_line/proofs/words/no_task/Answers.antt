use Rattle.std.proofs.Common.{rules}
use Rattle.command_line.proofs.words.no_task.Goals as goal

pub returns-else-use_stderr-clause-cause : goal.returns-else-use_stderr-clause-cause
returns-else-use_stderr-clause-cause c = search rules
