use Rattle.std.proofs.Common.{◌∙◌, List, refl, sym}
use Rattle.std.proofs.lemmas.List.{at_drop_all}
use Rattle.clap.specs.Words.{App, app_of}
use Rattle.command_line.proofs.Adding.{next_option, option_globals}
use Rattle.command_line.specs.Rules.{with_rules}
use Rattle.command_line.specs.Tables.{rules_for}
use Rattle.command_line.specs.declared.rules.Choice.{Choice}
use Rattle.command_line.proofs.rules.with_options.Goals as goal

pub loop-choice-preserved : goal.loop-choice-preserved
loop-choice-preserved c = record {
  apps = next_option c.loop-choice.command c.in_ok-command.command c.option_of.result c.args.choices.now c.loop-choice.choice-index _ c.loop-choice-test.true
      c.option_of.ensures.rule c.option_of.ensures.own c.in_ok-command.ensures ∙ c.loop-choice.invariant.apps;
  globals = option_globals c.loop-choice.command c.in_ok-command.command c.option_of.result c.option_of.ensures.own c.in_ok-command.ensures ∙ c.loop-choice.invariant.globals;
}

pub loop-choice-init : goal.loop-choice-init
loop-choice-init c = record { apps = refl; globals = refl }

pub returns : goal.returns
returns c =
    let now = c.loop-choice in
    let rest : List Choice → App = λ (ys : List Choice). with_rules (app_of now.command) (rules_for ys) in
    (sym (at_drop_all rest c.args.choices.now now.choice-index c.loop-choice-test.false) ∙ now.invariant.apps, now.invariant.globals)
