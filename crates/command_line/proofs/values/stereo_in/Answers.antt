use Rattle.clap.specs.Words.{found_of, rows_of}
use Rattle.command_line.proofs.Lacking.{no_stereo}
use Rattle.command_line.proofs.values.stereo_in.Goals as goal

pub returns-in-Err-clause-unmet : goal.returns-in-Err-clause-unmet
returns-in-Err-clause-unmet c = no_stereo (rows_of (found_of c.args.matches.now)) c.in-Err.unmet c.in-Err.ensures.unmet
