use Rattle.clap.specs.Words.{found_of, rows_of}
use Rattle.command_line.proofs.Lacking.{no_restore}
use Rattle.command_line.proofs.values.restore_in.Goals as goal

pub returns-in-Err-clause-unmet : goal.returns-in-Err-clause-unmet
returns-in-Err-clause-unmet c = no_restore (rows_of (found_of c.args.matches.now)) c.in-Err.unmet c.in-Err.ensures.unmet
