use Rattle.std.proofs.Common.{rules}
use Rattle.gco_cli.proofs.runs.run.Goals as goal

-- found without help too: written so that a wrong step is refused at once
pub returns-clause-run : goal.returns-clause-run
returns-clause-run c = search rules
