-- A command with one option or one command more.
use Rattle.std.proofs.Common.{◌≡◌, Bool, true, false, ◌||◌, ℕ, ◌+◌, ◌<◌, List, length, get_or, drop, ap, sym, ◌∙◌, rules}
use Rattle.std.proofs.Math.Bool.{or-false}
use Rattle.std.proofs.lemmas.List.{at_drop_more}
use Rattle.clap.specs.Words.{AddsArg, AddsSubcommand, App, app_of, rule_of, with_rule, with_subcommand}
use Rattle.clap.specs.declared.builder.arg.Arg.{Arg}
use Rattle.clap.specs.declared.builder.command.Command.{Command}
use Rattle.clap.specs.declared.builder.command.Command.TheViews.{out-Command}
use Rattle.command_line.specs.App.{Makes, requiring_subcommand}
use Rattle.command_line.specs.Rules.{with_rules}
use Rattle.command_line.specs.Tables.{app_for, rule_for, rules_for, with_chapters}
use Rattle.command_line.specs.declared.app.Chapter.{Chapter}
use Rattle.command_line.specs.declared.rules.Choice.{Choice}

-- the next option of a list
pub next_option : (now new : Command) (a : Arg) (xs : List Choice) (i : ℕ) (d : Choice) → i < length xs
    → rule_of a ≡ rule_for (get_or xs i d) → a.global ≡ false → AddsArg now a new
    → with_rules (app_of new) (rules_for (drop (i + 1) xs)) ≡ with_rules (app_of now) (rules_for (drop i xs))
next_option now new a xs i d small is own adds =
    let rest : App → App = λ (b : App). with_rules b (rules_for (drop (i + 1) xs)) in
    let left : with_rules (app_of now) (rules_for (drop i xs)) ≡ rest (with_rule (app_of now) (rule_for (get_or xs i d))) =
    at_drop_more (λ (ys : List Choice). with_rules (app_of now) (rules_for ys)) xs i d small in
    ap rest (adds.shape own ∙ ap (with_rule (app_of now)) is) ∙ sym left

-- and it is not global
pub option_globals : (now new : Command) (a : Arg) → a.global ≡ false → AddsArg now a new
    → (out-Command new).has_globals ≡ (out-Command now).has_globals
option_globals now new a own adds =
    adds.globals ∙ ap (λ (g : Bool). (out-Command now).has_globals || g) own ∙ or-false (out-Command now).has_globals

-- the next command of a list
pub next_chapter : (now sub new : Command) (xs : List Chapter) (i : ℕ) (d : Chapter) → i < length xs
    → Makes (app_for (get_or xs i d)) sub → AddsSubcommand now sub new
    → with_chapters (app_of new) (drop (i + 1) xs) ≡ with_chapters (app_of now) (drop i xs)
next_chapter now sub new xs i d small is adds =
    let rest : App → App = λ (b : App). with_chapters b (drop (i + 1) xs) in
    let left : with_chapters (app_of now) (drop i xs) ≡ rest (with_subcommand (app_of now) (app_for (get_or xs i d)).top) =
    at_drop_more (λ (ys : List Chapter). with_chapters (app_of now) ys) xs i d small in
    ap rest (adds.shape is.1 ∙ ap (λ (b : App). with_subcommand (app_of now) b.top) is.0) ∙ sym left

pub chapter_globals : (now sub new : Command) (a : App) → Makes a sub → AddsSubcommand now sub new
    → (out-Command new).has_globals ≡ (out-Command now).has_globals
chapter_globals now sub new a is adds =
    adds.globals ∙ ap (λ (g : Bool). (out-Command now).has_globals || g) is.1 ∙ or-false (out-Command now).has_globals

-- a command that has to have a subcommand
pub requires_one : (old new : Command) (a : App) → Makes a old → out-Command new ≡ record (out-Command old) { subcommand_required = true }
    → Makes (requiring_subcommand a) new
requires_one old new a made is = search rules
