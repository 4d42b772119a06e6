-- The tables of commands and options, as `clap` is told of them.
use Rattle.std.specs.Prelude.{◌≡◌, pos, List, [], ◌∷◌, ℕ, Some}
use Rattle.clap.specs.Words.{App, Rule, app_of, new_app, with_subcommand}
use Rattle.clap.specs.Words.{Text as Word}
use Rattle.clap.specs.declared.builder.command.Command.{Command}
use Rattle.clap.specs.declared.builder.command.Command.TheViews.{out-Command}
use Rattle.clap.specs.declared.builder.value_parser.ValueParser.TheVariants.{Signed}
use Rattle.command_line.specs.Rules.{defaulted_rule, flag_rule, number_rule, required_rule}
use Rattle.command_line.specs.Rules.{text_rule, with_rules, worker_rules}
use Rattle.command_line.specs.declared.app.Chapter.{Chapter}
use Rattle.command_line.specs.declared.rules.Choice.{Choice}
use Rattle.command_line.specs.declared.rules.Value.{Value}
use Rattle.command_line.specs.declared.rules.Value.TheVariants.{Text, Number, Required, Optional}
use Rattle.command_line.specs.declared.rules.Value.TheVariants.{Flag}

-- a rule whose value is a number from the least to the most
abbrev pub with_range : Rule → ℕ → ℕ → Rule
with_range rule least most =
    record rule { value_names = 1; parser = Some (Signed (pos least) (pos most)) }

-- the rule of an option with this name
abbrev pub rule_of_value : Word → Value → Rule
rule_of_value name (Text default) = text_rule name default.now
rule_of_value name (Number least most default) = defaulted_rule name least most default.now
rule_of_value name (Required least most) = required_rule name least most
rule_of_value name (Optional least most) = number_rule name least most
rule_of_value name Flag = flag_rule name

abbrev pub rule_for : Choice → Rule
rule_for choice = rule_of_value choice.name.now choice.value

abbrev pub rules_for : List Choice → List Rule
rules_for [] = []
rules_for (choice ∷ choices) = rule_for choice ∷ rules_for choices

-- what a command of the table is
abbrev pub app_for : Chapter → App
app_for chapter = with_rules
    (with_rules (new_app chapter.name.now) (rules_for chapter.options.now)) worker_rules

abbrev pub with_chapters : App → List Chapter → App
with_chapters a [] = a
with_chapters a (chapter ∷ chapters) =
    with_chapters (with_subcommand a (app_for chapter).top) chapters

-- the command has these commands more
abbrev pub AddsChapters : Command → List Chapter → Command → Type 0
AddsChapters old chapters new = (app_of new ≡ with_chapters (app_of old) chapters)
    × ((out-Command new).has_globals ≡ (out-Command old).has_globals)
