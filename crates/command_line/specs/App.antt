-- What the command line may say.
use Rattle.std.specs.Prelude.{◌≡◌, false, true, codes}
use Rattle.clap.specs.Words.{App, app_of, new_app, with_subcommand}
use Rattle.clap.specs.declared.builder.command.Command.{Command}
use Rattle.clap.specs.declared.builder.command.Command.TheViews.{out-Command}
use Rattle.command_line.specs.Rules.{label_rules, restore_rules, segment_rules, shared_rules}
use Rattle.command_line.specs.Rules.{stereo_rules, with_rules, worker_rules}

-- each command has the options of the workers; `energy` has none of its own
unfoldable pub energy_app : App
energy_app = with_rules (new_app (codes "energy")) worker_rules

unfoldable pub label_app : App
label_app = with_rules (with_rules (new_app (codes "label")) label_rules) worker_rules

unfoldable pub restore_app : App
restore_app = with_rules (with_rules (with_rules (new_app (codes "restore")) shared_rules)
    restore_rules) worker_rules

-- `stereo` shares options with `restore`, and has others
unfoldable pub stereo_app : App
stereo_app = with_rules (with_rules (with_rules (new_app (codes "stereo")) shared_rules)
    stereo_rules) worker_rules

unfoldable pub segment_app : App
segment_app = with_rules (with_rules (new_app (codes "segment")) segment_rules) worker_rules

-- the words have to name a subcommand
abbrev pub requiring_subcommand : App → App
requiring_subcommand a = record a { top = record a.top { subcommand_required = true } }

-- the whole command line
unfoldable pub gco_app : App
gco_app =
    with_subcommand (with_subcommand (with_subcommand (with_subcommand (with_subcommand
    (requiring_subcommand (new_app (codes "gco")))
    restore_app.top) stereo_app.top) segment_app.top) energy_app.top) label_app.top

-- the command reads the words as the app says, and has no global argument
abbrev pub Makes : App → Command → Type 0
Makes app c = (app_of c ≡ app) × ((out-Command c).has_globals ≡ false)
