use Rattle.std.proofs.Common.{rules}
use Rattle.program_texts.proofs.answer.write_text.Goals as goal

pub returns-in-Err-clause-done : goal.returns-in-Err-clause-done
returns-in-Err-clause-done g c = search rules

pub returns-in-Err-clause-cut : goal.returns-in-Err-clause-cut
returns-in-Err-clause-cut g c = search rules
