use Rattle.std.proofs.Common.{rules}
use Rattle.vision.proofs.job.report_of.Goals as goal

pub returns : goal.returns
returns c = search rules
