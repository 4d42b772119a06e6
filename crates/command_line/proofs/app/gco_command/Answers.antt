use Rattle.std.proofs.Common.{◌∙◌, ap}
use Rattle.std.proofs.lemmas.Result.{IfOk-weaker}
use Rattle.clap.specs.Words.{App}
use Rattle.command_line.specs.Tables.{with_chapters}
use Rattle.command_line.proofs.app.gco_command.Goals as goal

pub returns : goal.returns
returns c =
    let whole : App → App = λ (a : App). with_chapters a c.chapters.result.now in
    let start = c.top_command.ensures in
    let is_whole = c.chapters.ensures in
    IfOk-weaker c.with_chapters.result _ _ (λ new adds. (adds.0 ∙ (ap whole start.0 ∙ is_whole), adds.1 ∙ start.1)) c.with_chapters.ensures
