use Rattle.std.proofs.Common.{◌≡◌, ◌*◌, ◌<◌}
use Rattle.std.specs.List.{flat_map, range_with_len}
use Rattle.label_field.specs.Grids.{pairs_of_steps, IsImagePlace}
use Rattle.label_field.proofs.grid.grid.Given as goal

abbrev pub invariant-loop-site : goal.invariant-loop-site
invariant-loop-site l = record {
  list : l.list.items ≡ flat_map (pairs_of_steps l.image.width l.image.height l.weight l.steps) (range_with_len 0 l._site);
  site : l.place.site ≡ l._site;
  place : l._site < l.image.width * l.image.height → IsImagePlace l.image.width l.image.height l.place;
}
