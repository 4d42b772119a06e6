use Rattle.std.proofs.Common.{rules}
use Rattle.program_texts.proofs.run_end.say.Goals as goal

pub returns-clause-told : goal.returns-clause-told
returns-clause-told g c = search rules
