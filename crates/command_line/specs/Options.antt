-- What the options of a subcommand say, by its matches.
use Rattle.block_net.specs.Limits.{block_limit}
use Rattle.std.specs.Prelude.{◌≡◌, ◌≢◌, ◌↔◌, ℕ, ◌≤◌, Bool, IsTrue, Option, Some, None}
use Rattle.std.specs.Prelude.{option_and_then, IsSomeAnd, List, codes}
use Rattle.std.specs.Str.Parse.{IsNumeral, digits_value, without_leading_plus}
use Rattle.clap.specs.Words.{Row, Text, first_of, one_of}
use Rattle.run_options.specs.Limits.{cap_limit, cycle_limit, greatest_label_cost, greatest_sample}
use Rattle.run_options.specs.Limits.{trunc_limit}
use Rattle.run_options.specs.declared.options.Neighbours.{Neighbours}
use Rattle.run_options.specs.declared.options.Neighbours.TheVariants.{Four, Eight}
use Rattle.run_options.specs.declared.options.RestoreOptions.{RestoreOptions}
use Rattle.run_options.specs.declared.options.StereoOptions.{StereoOptions}
use Rattle.run_options.specs.declared.options.SegmentOptions.{SegmentOptions}
use Rattle.label_field.specs.Limits.{label_limit, weight_limit}
use Rattle.run_options.specs.Names.{shape_named}
use Rattle.label_energies.specs.Names.{moves_named}
use Rattle.label_energies.specs.declared.cycles.Moves.{Moves}
use Rattle.run_options.specs.declared.shape.Shape.{Shape}
use Rattle.worker_options.specs.Limits.{ring_limit, round_limit, thread_limit, turn_limit}
use Rattle.worker_options.specs.declared.options.Options.{Options}
use Rattle.command_line.specs.declared.values.Shared.{Shared}
use Rattle.command_line.specs.declared.task.OptionName.{OptionName}
use Rattle.command_line.specs.declared.task.OptionName.TheVariants as option

-- the text is a number, with or without a plus, and this is it
abbrev pub Reads : Text → ℕ → Type 0
Reads text n = IsNumeral 10 (without_leading_plus text)
    × (n ≡ digits_value 10 (without_leading_plus text))

-- the value of the option of this name is this number
abbrev pub HasValue : List Row → Text → ℕ → Type 0
HasValue rows name n = IsSomeAnd (one_of name rows) (λ text. Reads text n)

-- and one from the least to the most
pub record HasNumber (rows : List Row) (name : Text) (least most n : ℕ) : Type 0 where
  pub is : HasValue rows name n
  pub from : least ≤ n
  pub to : n ≤ most

-- what the name stands for that is the value of `--smooth`, and that of `--moves`
abbrev pub smooth_of : List Row → Option Shape
smooth_of rows = option_and_then shape_named (first_of (codes "smooth") rows)

abbrev pub moves_option : List Row → Option Moves
moves_option rows = option_and_then moves_named (first_of (codes "moves") rows)

-- how many neighbours a pixel has, away from the border
abbrev pub neighbour_count : Neighbours → ℕ
neighbour_count Four = 4
neighbour_count Eight = 8

abbrev pub HasNeighbours : List Row → Neighbours → Type 0
HasNeighbours rows neighbours = HasNumber rows (codes "neighbours") 4 8 (neighbour_count neighbours)

-- the three options whose value is a name
pub record AreNames (rows : List Row) (smooth : Shape) (neighbours : Neighbours) (moves : Moves)
    : Type 0 where
  pub smooth_is : smooth_of rows ≡ Some smooth
  pub neighbours_are : HasNeighbours rows neighbours
  pub moves_are : moves_option rows ≡ Some moves

-- the flag of this name is up exactly where its value is `true`, as clap has it where the words
-- have the flag
abbrev pub HasFlag : List Row → Text → Bool → Type 0
HasFlag rows name flag = IsTrue flag ↔ (first_of name rows ≡ Some (codes "true"))

-- the options that `restore` and `stereo` share
pub record IsShared (rows : List Row) (o : Shared) : Type 0 where
  pub names : AreNames rows o.smooth o.neighbours o.moves
  pub trunc : HasNumber rows (codes "trunc") 1 trunc_limit o.trunc
  pub weight : HasNumber rows (codes "weight") 0 weight_limit o.weight
  pub cycles : HasNumber rows (codes "cycles") 0 cycle_limit o.cycles
  pub bound : HasFlag rows (codes "bound") o.bound

-- the cost of each label by itself, where it is asked for
abbrev pub HasLabelCost : List Row → Option ℕ → Type 0
HasLabelCost rows None = (cost : ℕ)
    → ¬ HasNumber rows (codes "label-cost") 0 greatest_label_cost cost
HasLabelCost rows (Some cost) = HasNumber rows (codes "label-cost") 0 greatest_label_cost cost

-- these are the options of `restore`
abbrev pub restore_shared : RestoreOptions → Shared
restore_shared o = record {
  smooth = o.smooth;
  trunc = o.trunc;
  weight = o.weight;
  neighbours = o.neighbours;
  moves = o.moves;
  cycles = o.cycles;
  bound = o.bound;
}

pub record IsRestore (rows : List Row) (o : RestoreOptions) : Type 0 where
  pub shared : IsShared rows (restore_shared o)
  pub label_cost : HasLabelCost rows o.label_cost

-- these are the options of `stereo`
abbrev pub stereo_shared : StereoOptions → Shared
stereo_shared o = record {
  smooth = o.smooth;
  trunc = o.trunc;
  weight = o.weight;
  neighbours = o.neighbours;
  moves = o.moves;
  cycles = o.cycles;
  bound = o.bound;
}

pub record IsStereo (rows : List Row) (o : StereoOptions) : Type 0 where
  pub shared : IsShared rows (stereo_shared o)
  pub labels : HasNumber rows (codes "labels") 1 label_limit o.labels
  pub cap : HasNumber rows (codes "cap") 0 cap_limit o.cap

pub record IsSegment (rows : List Row) (o : SegmentOptions) : Type 0 where
  pub low : HasNumber rows (codes "low") 0 greatest_sample o.low
  pub high : HasNumber rows (codes "high") 0 greatest_sample o.high
  pub strong : HasNumber rows (codes "strong") 0 weight_limit o.strong
  pub weak : HasNumber rows (codes "weak") 0 weight_limit o.weak
  pub edge : HasNumber rows (codes "edge") 0 greatest_sample o.edge
  pub neighbours : HasNeighbours rows o.neighbours
  pub cycles : HasNumber rows (codes "cycles") 0 cycle_limit o.cycles

-- these are the options of the workers
pub record AreWorkers (rows : List Row) (o : Options) : Type 0 where
  pub threads : HasNumber rows (codes "threads") 1 thread_limit o.threads
  pub blocks : HasNumber rows (codes "blocks") 1 block_limit o.blocks
  pub ring : HasNumber rows (codes "ring") 1 ring_limit o.ring
  pub turns : HasNumber rows (codes "turns") 0 turn_limit o.turns
  pub rounds : HasNumber rows (codes "rounds") 0 round_limit o.rounds

-- whether workers are asked for, and which: all but the number of threads have defaults
abbrev pub HasWorkers : List Row → Option Options → Type 0
HasWorkers rows None = (o : Options) → ¬ AreWorkers rows o
HasWorkers rows (Some o) = AreWorkers rows o

-- the value of this option is no name that it takes
abbrev pub IsBad : List Row → OptionName → Type 0
IsBad rows option.Smooth = smooth_of rows ≡ None
IsBad rows option.Neighbours = (neighbours : Neighbours) → ¬ HasNeighbours rows neighbours
IsBad rows option.Moves = moves_option rows ≡ None

-- and none before it in the order `smooth`, `neighbours`, `moves` is such
abbrev pub IsFirstBad : List Row → OptionName → Type 0
IsFirstBad rows option.Smooth = IsBad rows option.Smooth
IsFirstBad rows option.Neighbours = (¬ IsBad rows option.Smooth) × IsBad rows option.Neighbours
IsFirstBad rows option.Moves =
    (¬ IsBad rows option.Smooth) × (¬ IsBad rows option.Neighbours) × IsBad rows option.Moves

-- of a command that has the second alone
abbrev pub IsOnlyBad : List Row → OptionName → Type 0
IsOnlyBad rows name = (name ≡ option.Neighbours) × IsBad rows option.Neighbours

-- the value of this one is not there, and that of each before it is
abbrev pub IsFirstNone : Option Shape → Option Neighbours → Option Moves → OptionName → Type 0
IsFirstNone smooth neighbours moves option.Smooth = smooth ≡ None
IsFirstNone smooth neighbours moves option.Neighbours = (smooth ≢ None) × (neighbours ≡ None)
IsFirstNone smooth neighbours moves option.Moves =
    (smooth ≢ None) × (neighbours ≢ None) × (moves ≡ None)
