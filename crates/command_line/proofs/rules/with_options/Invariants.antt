use Rattle.std.proofs.Common.{◌≡◌, drop}
use Rattle.clap.specs.Words.{app_of}
use Rattle.clap.specs.declared.builder.command.Command.TheViews.{out-Command}
use Rattle.command_line.specs.Rules.{with_rules}
use Rattle.command_line.specs.Tables.{rules_for}
use Rattle.command_line.proofs.rules.with_options.Given as goal

abbrev pub invariant-loop-choice : goal.invariant-loop-choice
invariant-loop-choice l = record {
  apps : with_rules (app_of l.command) (rules_for (drop l.choice-index l.choices)) ≡ with_rules (app_of l.initial.command) (rules_for l.choices);
  globals : (out-Command l.command).has_globals ≡ (out-Command l.initial.command).has_globals;
}
