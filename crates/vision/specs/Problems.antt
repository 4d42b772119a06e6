-- The problems of labels that pictures and options name. A site is a pixel, row by row from the
-- top, each row from the left.
use Rattle.std.specs.Prelude.{◌≡◌, ℕ, ◌+◌, ◌-◌, ◌*◌, ◌<◌, ◌==◌, nat_lt, nat_le, min, List, length}
use Rattle.std.specs.Prelude.{map, slice_index, unwrap_or, if◌then◌else◌}
use Rattle.label_field.specs.declared.pair.Pair.{Pair}
use Rattle.label_field.specs.Grids.{grid, steps4, steps8, column, distance}
use Rattle.label_energies.specs.Energies.{Instance, times_weight}
use Rattle.run_options.specs.declared.shape.Shape.TheVariants.{Potts}
use Rattle.run_options.specs.Shapes.{shape_cost}
use Rattle.run_options.specs.declared.options.Neighbours.{Neighbours}
use Rattle.run_options.specs.declared.options.Neighbours.TheVariants.{Four, Eight}
use Rattle.run_options.specs.declared.options.RestoreOptions.{RestoreOptions}
use Rattle.run_options.specs.declared.options.StereoOptions.{StereoOptions}
use Rattle.run_options.specs.declared.options.SegmentOptions.{SegmentOptions}
use Rattle.pgm_image.specs.Picture.{Picture}

-- the sample of a site
abbrev pub sample : Picture → ℕ → ℕ
sample p site = slice_index p.samples site

-- the pairs of pixels that share an edge, or an edge or a corner, each of this weight
abbrev pub pairs_of_picture : Neighbours → ℕ → Picture → List Pair
pairs_of_picture Four weight p = grid p.width p.height weight steps4
pairs_of_picture Eight weight p = grid p.width p.height weight steps8

-- restore: a label is a grey level, and costs a pixel as much as it is away from its sample, and by
-- itself what is given, or nothing
abbrev pub restore_problem : RestoreOptions → Picture → Instance
restore_problem o p = record {
  sites = p.width * p.height;
  labels = p.maxval + 1;
  data_cost = λ site label. distance (sample p site) label;
  smooth_cost = times_weight (shape_cost o.smooth o.trunc);
  pairs = pairs_of_picture o.neighbours o.weight p;
  label_cost = λ label. unwrap_or o.label_cost 0;
}

-- what a shift to the left costs a pixel of the left picture: how far its sample is from the one so
-- many columns to the left of it in the right picture, at most the cap; the cap where the picture
-- has no such column
abbrev pub shift_cost : ℕ → Picture → Picture → ℕ → ℕ → ℕ
shift_cost cap left right site shift =
    if nat_lt (column left.width site) shift then cap
    else min (distance (sample left site) (sample right (site - shift))) cap

-- of each pixel how many columns lie to its left, at most 255: no shift is greater
pub record AreColumns (width : ℕ) (left columns : List ℕ) : Type 0 where
  pub count : length columns ≡ length left
  pub each : (site : ℕ) → site < length left
      → slice_index columns site ≡ min (column width site) 255

-- the same by the samples of both pictures, and how many columns lie to the left of each pixel
abbrev pub cost_by_columns : ℕ → List ℕ → List ℕ → List ℕ → ℕ → ℕ → ℕ
cost_by_columns cap columns left right site shift =
    if nat_lt (slice_index columns site) shift then cap
    else min (distance (slice_index left site) (slice_index right (site - shift))) cap

-- stereo: a label is a shift
abbrev pub stereo_problem : StereoOptions → Picture → Picture → Instance
stereo_problem o left right = record {
  sites = left.width * left.height;
  labels = o.labels;
  data_cost = shift_cost o.cap left right;
  smooth_cost = times_weight (shape_cost o.smooth o.trunc);
  pairs = pairs_of_picture o.neighbours o.weight left;
  label_cost = λ label. 0;
}

-- what the label that is not a seed's costs it: as much as the dearest label
abbrev pub seed_cost : ℕ
seed_cost = 10000000

-- what a label costs a pixel of this sample and this seed: a free pixel (0) its distance from the
-- label's sample, a seed of label 0 (1) and one of label 1 (2) the seed's cost for the other label
abbrev pub part_cost : SegmentOptions → ℕ → ℕ → ℕ → ℕ
part_cost o x seed label =
    if seed == 0 then distance x (if label == 0 then o.low else o.high)
    else if seed == 1 then (if label == 0 then 0 else seed_cost)
    else (if label == 0 then seed_cost else 0)

-- the weight of a pair of pixels: strong where their samples differ by at most the edge, else weak
abbrev pub edge_weight : SegmentOptions → Picture → Pair → ℕ
edge_weight o p pair =
    if nat_le (distance (sample p pair.first) (sample p pair.second))
    o.edge then o.strong else o.weak

-- a pair with another weight
abbrev pub with_weight : (Pair → ℕ) → Pair → Pair
with_weight weight pair = record pair { weight = weight pair }

-- segment: label 0 is near the one sample, label 1 near the other
abbrev pub segment_problem : SegmentOptions → Picture → Picture → Instance
segment_problem o p seeds = record {
  sites = p.width * p.height;
  labels = 2;
  data_cost = λ site label. part_cost o (sample p site) (sample seeds site) label;
  smooth_cost = times_weight (shape_cost Potts 1);
  pairs = map (with_weight (edge_weight o p)) (pairs_of_picture o.neighbours 0 p);
  label_cost = λ label. 0;
}
