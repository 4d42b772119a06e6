-- What the numbers mean that C hands over as options.
use Rattle.std.specs.Prelude.{◌≡◌, ◌==◌, ◌≤◌, ℕ, true, List, [], ◌∷◌, All, take, slice_get, Option}
use Rattle.std.specs.Prelude.{Some, None, if◌then◌else◌}
use Rattle.label_field.specs.Limits.{label_limit, weight_limit}
use Rattle.label_energies.specs.declared.cycles.Moves.{Moves}
use Rattle.label_energies.specs.declared.cycles.Moves.TheVariants.{Expansion, Swap}
use Rattle.run_options.specs.Limits.{cap_limit, cycle_limit, greatest_label_cost, greatest_sample}
use Rattle.run_options.specs.Limits.{trunc_limit}
use Rattle.run_options.specs.declared.shape.Shape.{Shape}
use Rattle.run_options.specs.declared.shape.Shape.TheVariants.{Potts, Linear, Quadratic}
use Rattle.run_options.specs.declared.options.Neighbours.{Neighbours}
use Rattle.run_options.specs.declared.options.Neighbours.TheVariants.{Four, Eight}
use Rattle.run_options.specs.declared.options.RestoreOptions.{RestoreOptions}
use Rattle.run_options.specs.declared.options.StereoOptions.{StereoOptions}
use Rattle.run_options.specs.declared.options.SegmentOptions.{SegmentOptions}
use Rattle.gco_pictures.specs.declared.options.Ranged.{Ranged}
use Rattle.gco_pictures.specs.declared.options.GcoRestore.{GcoRestore}
use Rattle.gco_pictures.specs.declared.options.GcoStereo.{GcoStereo}
use Rattle.gco_pictures.specs.declared.options.GcoSegment.{GcoSegment}

-- a number beside the least and the greatest that it may be
abbrev pub between : ℕ → ℕ → ℕ → Ranged
between value least most = record { value = value; least = least; most = most }

abbrev pub IsOptionInRange : Ranged → Type 0
IsOptionInRange number = (number.least ≤ number.value) × (number.value ≤ number.most)

-- the number at this place is out of its range, and none before it is
pub record IsFirstWrong (numbers : List Ranged) (place : ℕ) : Type 0 where
  pub number : Ranged
  pub here : slice_get numbers place ≡ Some number
  pub outside : ¬ IsOptionInRange number
  pub before : All IsOptionInRange (take place numbers)

-- the numbers of a call's options in the order in which they are handed over: those of `restore`
abbrev pub restore_numbers : GcoRestore → List Ranged
restore_numbers g =
    between g.smooth 0 2 ∷ between g.trunc 1 trunc_limit ∷ between g.weight 0 weight_limit
    ∷ between g.neighbours 0 1 ∷ between g.moves 0 1 ∷ between g.cycles 0 cycle_limit
    ∷ between g.label_cost 0 greatest_label_cost ∷ []

-- those of `stereo`
abbrev pub stereo_numbers : GcoStereo → List Ranged
stereo_numbers g =
    between g.labels 1 label_limit ∷ between g.cap 0 cap_limit ∷ between g.smooth 0 2
    ∷ between g.trunc 1 trunc_limit ∷ between g.weight 0 weight_limit ∷ between g.neighbours 0 1
    ∷ between g.moves 0 1 ∷ between g.cycles 0 cycle_limit ∷ []

-- those of `segment`
abbrev pub segment_numbers : GcoSegment → List Ranged
segment_numbers g =
    between g.low 0 greatest_sample ∷ between g.high 0 greatest_sample
    ∷ between g.strong 0 weight_limit ∷ between g.weak 0 weight_limit
    ∷ between g.edge 0 greatest_sample ∷ between g.neighbours 0 1 ∷ between g.cycles 0 cycle_limit
    ∷ []

abbrev pub shape_numbered : ℕ → Shape
shape_numbered number = if number == 0 then Potts else if number == 1 then Linear else Quadratic

abbrev pub neighbours_numbered : ℕ → Neighbours
neighbours_numbered number = if number == 0 then Four else Eight

abbrev pub moves_numbered : ℕ → Moves
moves_numbered number = if number == 0 then Expansion else Swap

-- what each label costs by itself, where it costs something
abbrev pub cost_numbered : ℕ → Option ℕ
cost_numbered number = if number == 0 then None else Some number

-- the options that the numbers name, where each is in its range
abbrev pub restore_options : GcoRestore → RestoreOptions
restore_options g = record {
  smooth = shape_numbered g.smooth;
  trunc = g.trunc;
  weight = g.weight;
  neighbours = neighbours_numbered g.neighbours;
  moves = moves_numbered g.moves;
  cycles = g.cycles;
  label_cost = cost_numbered g.label_cost;
  bound = true;
}

abbrev pub stereo_options : GcoStereo → StereoOptions
stereo_options g = record {
  smooth = shape_numbered g.smooth;
  trunc = g.trunc;
  weight = g.weight;
  neighbours = neighbours_numbered g.neighbours;
  moves = moves_numbered g.moves;
  cycles = g.cycles;
  labels = g.labels;
  cap = g.cap;
  bound = true;
}

abbrev pub segment_options : GcoSegment → SegmentOptions
segment_options g = record {
  low = g.low;
  high = g.high;
  strong = g.strong;
  weak = g.weak;
  edge = g.edge;
  neighbours = neighbours_numbered g.neighbours;
  cycles = g.cycles;
}
