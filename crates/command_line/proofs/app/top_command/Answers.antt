use Rattle.std.proofs.Common.{codes, rules}
use Rattle.clap.specs.Words.{App, new_app}
use Rattle.command_line.proofs.Adding.{requires_one}
use Rattle.command_line.specs.App.{Makes}
use Rattle.command_line.proofs.app.top_command.Goals as goal

pub returns : goal.returns
returns c =
    let plain : App = new_app (codes "gco") in
    let is_plain : Makes plain c.after_help.result = search rules in
    requires_one c.after_help.result c.subcommand_required.result plain is_plain c.subcommand_required.ensures
