-- Options whose numbers are in their ranges.
use Rattle.std.proofs.Common.{◌==◌, ◌≤◌, ℕ, true, false, All, Some, None, IfSome, if◌then◌else◌, lit<}
use Rattle.run_options.specs.Limits.{greatest_label_cost}
use Rattle.run_options.specs.Ranges.{AreRestoreOptions, AreSegmentOptions, AreStereoOptions}
use Rattle.gco_pictures.specs.Options.{IsOptionInRange, between, cost_numbered, restore_numbers, restore_options, segment_numbers, segment_options, stereo_numbers, stereo_options}
use Rattle.gco_pictures.specs.declared.options.GcoRestore.{GcoRestore}
use Rattle.gco_pictures.specs.declared.options.GcoSegment.{GcoSegment}
use Rattle.gco_pictures.specs.declared.options.GcoStereo.{GcoStereo}

cost_in_range : (number : ℕ) → number ≤ greatest_label_cost → IfSome (cost_numbered number) (λ cost. cost ≤ greatest_label_cost)
cost_in_range number most = elim (number == 0) as (λ b. IfSome (if b then None else Some number) (λ cost. cost ≤ greatest_label_cost)) [ true ↦ tt | false ↦ most ]

pub restore_in_range : (g : GcoRestore) → All IsOptionInRange (restore_numbers g) → AreRestoreOptions (restore_options g)
restore_in_range g within = record {
  run = record {
    trunc_least = (within 1 (between 0 0 0) (lit< tt)).0;
    trunc_most = (within 1 (between 0 0 0) (lit< tt)).1;
    weight_most = (within 2 (between 0 0 0) (lit< tt)).1;
    cycles_most = (within 5 (between 0 0 0) (lit< tt)).1;
  };
  label_cost = cost_in_range g.label_cost (within 6 (between 0 0 0) (lit< tt)).1;
}

pub stereo_in_range : (g : GcoStereo) → All IsOptionInRange (stereo_numbers g) → AreStereoOptions (stereo_options g)
stereo_in_range g within = record {
  run = record {
    trunc_least = (within 3 (between 0 0 0) (lit< tt)).0;
    trunc_most = (within 3 (between 0 0 0) (lit< tt)).1;
    weight_most = (within 4 (between 0 0 0) (lit< tt)).1;
    cycles_most = (within 7 (between 0 0 0) (lit< tt)).1;
  };
  labels_least = (within 0 (between 0 0 0) (lit< tt)).0;
  labels_most = (within 0 (between 0 0 0) (lit< tt)).1;
  cap_most = (within 1 (between 0 0 0) (lit< tt)).1;
}

pub segment_in_range : (g : GcoSegment) → All IsOptionInRange (segment_numbers g) → AreSegmentOptions (segment_options g)
segment_in_range g within = record {
  low_most = (within 0 (between 0 0 0) (lit< tt)).1;
  high_most = (within 1 (between 0 0 0) (lit< tt)).1;
  strong_most = (within 2 (between 0 0 0) (lit< tt)).1;
  weak_most = (within 3 (between 0 0 0) (lit< tt)).1;
  edge_most = (within 4 (between 0 0 0) (lit< tt)).1;
  cycles_most = (within 6 (between 0 0 0) (lit< tt)).1;
}
