use Rattle.std.specs.Prelude.{◌≡◌, ℕ, ◌+◌, ◌<◌, slice_index}
use Rattle.block_split.specs.Split.{whole_of}
use Rattle.sink_distances.specs.Search.{found_of}
use Rattle.global_relabel.specs.Lowering.{FallsTo, StepsWithin}
use Rattle.global_relabel.proofs.Falling.{AreLabelledTo}
use Rattle.global_relabel.proofs.block_labels.lower_behind.Given as goal

abbrev pub invariant-lanes : goal.invariant-lanes
invariant-lanes l = record {
  falls : FallsTo l.label (λ v. StepsWithin (whole_of l.split.net.now l.split.parts.now) l.block v l.place) (found_of l.fn.labels l.fn.queue l.fn.end)
      (found_of l.labels l.queue l.end);
  given : (v : ℕ) → l.label < slice_index l.fn.labels v → l.label ≡ slice_index l.fn.labels l.place + 1;
  labelled : AreLabelledTo (whole_of l.split.net.now l.split.parts.now) (slice_index l.split.parts.now.firsts.items l.block + l.place) l.j l.label l.labels;
}
