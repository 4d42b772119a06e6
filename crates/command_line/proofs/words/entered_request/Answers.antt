use Rattle.clap.specs.Words.{found_of, rows_of, subcommand_rows_of}
use Rattle.command_line.proofs.Lacking.{not_met}
use Rattle.command_line.proofs.words.entered_request.Goals as goal

pub returns-in-Some-clause-unmet : goal.returns-in-Some-clause-unmet
returns-in-Some-clause-unmet c =
    not_met (subcommand_rows_of c.args.matches.now) c.in-Some.name.now (rows_of (found_of c.in-Some.inner.now)) c.request_of.result c.in-Some.ensures c.request_of.ensures.unmet
