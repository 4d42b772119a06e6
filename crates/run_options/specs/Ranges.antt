-- The ranges of options.
use Rattle.std.specs.Prelude.{ℕ, ◌≤◌, IfSome}
use Rattle.label_field.specs.Limits.{label_limit, weight_limit}
use Rattle.run_options.specs.Limits.{cap_limit, cycle_limit, greatest_label_cost, greatest_sample}
use Rattle.run_options.specs.Limits.{trunc_limit}
use Rattle.run_options.specs.declared.options.RestoreOptions.{RestoreOptions}
use Rattle.run_options.specs.declared.options.StereoOptions.{StereoOptions}
use Rattle.run_options.specs.declared.options.SegmentOptions.{SegmentOptions}

-- what the smooth cost of a command is made of, and its cycles, are in range
pub record AreRunOptions (trunc weight cycles : ℕ) : Type 0 where
  pub trunc_least : 1 ≤ trunc
  pub trunc_most : trunc ≤ trunc_limit
  pub weight_most : weight ≤ weight_limit
  pub cycles_most : cycles ≤ cycle_limit

pub record AreRestoreOptions (o : RestoreOptions) : Type 0 where
  pub run : AreRunOptions o.trunc o.weight o.cycles
  pub label_cost : IfSome o.label_cost (λ cost. cost ≤ greatest_label_cost)

pub record AreStereoOptions (o : StereoOptions) : Type 0 where
  pub run : AreRunOptions o.trunc o.weight o.cycles
  pub labels_least : 1 ≤ o.labels
  pub labels_most : o.labels ≤ label_limit
  pub cap_most : o.cap ≤ cap_limit

pub record AreSegmentOptions (o : SegmentOptions) : Type 0 where
  pub low_most : o.low ≤ greatest_sample
  pub high_most : o.high ≤ greatest_sample
  pub strong_most : o.strong ≤ weight_limit
  pub weak_most : o.weak ≤ weight_limit
  pub edge_most : o.edge ≤ greatest_sample
  pub cycles_most : o.cycles ≤ cycle_limit
