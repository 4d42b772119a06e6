use Rattle.std.proofs.lemmas.Grind.{common_steps}
use Rattle.std.proofs.Common.{◌≡◌, ◌∙◌, ap, sym, length, slice_index, arith}
use Rattle.std.proofs.lemmas.List.{map_more}
use Rattle.block_split.specs.Split.{direction_in, slot_direction, border_made}
use Rattle.block_split.proofs.rows.borders_of.Goals as goal

pub loop-index-preserved : goal.loop-index-preserved
loop-index-preserved c =
    let net = c.args.split.now.net.now in
    let indices = c.args.indices.now in
    let k = c.loop-index.index-index in
    let made = border_made net c.args.split.now.blocks c.args.slots.now c.args.first in
    let arcs : length c.arcs-arcs.result.now ≡ length net.arcs = ap length c.arcs-arcs.ensures.value in
    let border : c.border_at.result ≡ made (direction_in net (slice_index indices k)) =
    c.border_at.ensures ∙ ap made (c.direction_at-direction.ensures ∙ ap (λ m. slot_direction m (slice_index indices k)) arcs) in
    let more = map_more (λ i. made (direction_in net i)) indices k 0 c.loop-index-test.true in
    record {
      made = c.push_reserved.ensures.items ∙ rw (c.loop-index.invariant.made, border) (sym more);
      len = omega arith;
      room = c.push_reserved.ensures.capacity ∙ c.loop-index.invariant.room;
    }

pub returns : goal.returns
returns c = grind (arith, common_steps)
