use Rattle.std.proofs.Common.{◌≡◌, ◌<◌, ℕ, length, min, slice_index, vec_len, vec_capacity}
use Rattle.label_field.specs.Grids.{column}
use Rattle.vision.proofs.stereo.columns_of.Given as goal

abbrev pub invariant-loop-site : goal.invariant-loop-site
invariant-loop-site l = record {
  made : (site : ℕ) → site < l.site → slice_index l.columns.items site ≡ min (column l.width site) 255;
  len : vec_len l.columns ≡ l.site;
  room : vec_capacity l.columns ≡ length l.samples;
}
