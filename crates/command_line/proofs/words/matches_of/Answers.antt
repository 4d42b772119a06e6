use Rattle.std.proofs.Common.{ap, sym, ◌∙◌, map}
use Rattle.clap.specs.Words.{App, fault_of, is_simple, is_simple_and_free, subcommand_of}
use Rattle.command_line.proofs.Gco.{gco_is_free, gco_is_simple, refused_by}
use Rattle.command_line.proofs.words.matches_of.Goals as goal

pub returns-in-Ok-clause-accepted : goal.returns-in-Ok-clause-accepted
returns-in-Ok-clause-accepted g c =
    let is = c.in_ok-command.ensures.0 in
    sym (ap (λ (a : App). fault_of a (map g.S.AsStr.text c.args.words.now)) is)
    ∙ c.in-Ok.ensures.kinds (ap is_simple_and_free is ∙ gco_is_free)

pub returns-in-Ok-clause-matches : goal.returns-in-Ok-clause-matches
returns-in-Ok-clause-matches g c =
    let is = c.in_ok-command.ensures.0 in
    (c.in-Ok.ensures.matches (ap is_simple is ∙ gco_is_simple)).1
    ∙ ap (λ (a : App). subcommand_of a (map g.S.AsStr.text c.args.words.now)) is

pub returns-in-Err-clause-refused : goal.returns-in-Err-clause-refused
returns-in-Err-clause-refused g c =
    let is = c.in_ok-command.ensures.0 in
    refused_by _ is _ c.in-Err.error _ c.no_task.ensures.cause (c.in-Err.ensures.kinds (ap is_simple_and_free is ∙ gco_is_free))
