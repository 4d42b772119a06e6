use Rattle.clap.specs.Words.{found_of, rows_of}
use Rattle.command_line.proofs.Lacking.{no_request}
use Rattle.command_line.proofs.words.request_of.Goals as goal

pub returns-in-Err-clause-unmet : goal.returns-in-Err-clause-unmet
returns-in-Err-clause-unmet c = no_request c.args.name.now (rows_of (found_of c.args.matches.now)) c.in-Err.unmet c.in-Err.ensures.unmet
