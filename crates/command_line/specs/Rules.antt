-- The options of the commands, as `clap` is told of them.
use Rattle.std.specs.Prelude.{◌≡◌, ℕ, pos, true, List, [], ◌∷◌, Some, codes}
use Rattle.clap.specs.Words.{App, Rule, Text, app_of, new_rule, with_rule}
use Rattle.clap.specs.declared.builder.action.ArgAction.TheVariants.{SetTrue}
use Rattle.clap.specs.declared.builder.command.Command.{Command}
use Rattle.clap.specs.declared.builder.command.Command.TheViews.{out-Command}
use Rattle.clap.specs.declared.builder.value_parser.ValueParser.TheVariants.{Signed}
use Rattle.run_options.specs.Limits.{cap_limit, cycle_limit, greatest_label_cost, greatest_sample}
use Rattle.run_options.specs.Limits.{trunc_limit}
use Rattle.label_field.specs.Limits.{label_limit, weight_limit}
use Rattle.block_net.specs.Limits.{block_limit}
use Rattle.worker_options.specs.Limits.{ring_limit, round_limit, thread_limit, turn_limit}

-- `--name` with any text as its value, or else the default
abbrev pub text_rule : Text → Text → Rule
text_rule name default = record (new_rule name)
    { long = Some name; value_names = 1; defaults = default ∷ [] }

-- `--name` with a number from the least to the most as its value
abbrev pub number_rule : Text → ℕ → ℕ → Rule
number_rule name least most =
    record (new_rule name) {
      long = Some name;
      value_names = 1;
      parser = Some (Signed (pos least) (pos most));
    }

-- the same with a default, and one that has to be given
abbrev pub defaulted_rule : Text → ℕ → ℕ → Text → Rule
defaulted_rule name least most default =
    record (number_rule name least most) { defaults = default ∷ [] }

abbrev pub required_rule : Text → ℕ → ℕ → Rule
required_rule name least most = record (number_rule name least most) { required = true }

abbrev pub neighbours_rule : Rule
neighbours_rule = defaulted_rule (codes "neighbours") 4 8 (codes "4")

abbrev pub cycles_rule : Rule
cycles_rule = defaulted_rule (codes "cycles") 0 cycle_limit (codes "100")

-- the flag `--name`
abbrev pub flag_rule : Text → Rule
flag_rule name = record (new_rule name) { long = Some name; action = Some SetTrue }

abbrev pub bound_rule : Rule
bound_rule = flag_rule (codes "bound")

-- the options that `restore` and `stereo` share
abbrev pub shared_rules : List Rule
shared_rules =
    text_rule (codes "smooth") (codes "potts")
    ∷ defaulted_rule (codes "trunc") 1 trunc_limit (codes "1")
    ∷ defaulted_rule (codes "weight") 0 weight_limit (codes "1")
    ∷ neighbours_rule
    ∷ text_rule (codes "moves") (codes "expansion")
    ∷ cycles_rule
    ∷ []

-- those that `restore` has after these
abbrev pub restore_rules : List Rule
restore_rules = number_rule (codes "label-cost") 0 greatest_label_cost ∷ bound_rule ∷ []

-- and those that `stereo` has
abbrev pub stereo_rules : List Rule
stereo_rules =
    defaulted_rule (codes "labels") 1 label_limit (codes "16")
    ∷ defaulted_rule (codes "cap") 0 cap_limit (codes "20")
    ∷ bound_rule
    ∷ []

-- the options of `label`
abbrev pub label_rules : List Rule
label_rules = bound_rule ∷ []

-- the options of `segment`
abbrev pub segment_rules : List Rule
segment_rules =
    required_rule (codes "low") 0 greatest_sample
    ∷ required_rule (codes "high") 0 greatest_sample
    ∷ defaulted_rule (codes "strong") 0 weight_limit (codes "20")
    ∷ defaulted_rule (codes "weak") 0 weight_limit (codes "5")
    ∷ defaulted_rule (codes "edge") 0 greatest_sample (codes "5")
    ∷ neighbours_rule
    ∷ cycles_rule
    ∷ []

-- the options of the workers, which each command has after its own
abbrev pub worker_rules : List Rule
worker_rules =
    number_rule (codes "threads") 1 thread_limit
    ∷ defaulted_rule (codes "blocks") 1 block_limit (codes "16")
    ∷ defaulted_rule (codes "ring") 1 ring_limit (codes "64")
    ∷ defaulted_rule (codes "turns") 0 turn_limit (codes "4096")
    ∷ defaulted_rule (codes "rounds") 0 round_limit (codes "64")
    ∷ []

-- the command with these options after its own
abbrev pub with_rules : App → List Rule → App
with_rules a [] = a
with_rules a (r ∷ rs) = with_rules (with_rule a r) rs

-- the command has these options more
abbrev pub Adds : Command → List Rule → Command → Type 0
Adds old rules new = (app_of new ≡ with_rules (app_of old) rules)
    × ((out-Command new).has_globals ≡ (out-Command old).has_globals)
