use Rattle.std.proofs.Common.{rules}
use Rattle.program_texts.proofs.no_task.end_without_task.Goals as goal

pub returns-in-Help-clause-refused : goal.returns-in-Help-clause-refused
returns-in-Help-clause-refused g c = search rules

pub returns-in-Refused-clause-done : goal.returns-in-Refused-clause-done
returns-in-Refused-clause-done g c = search rules

pub returns-in-Refused-clause-refused : goal.returns-in-Refused-clause-refused
returns-in-Refused-clause-refused g c = search rules
