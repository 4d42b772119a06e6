use Rattle.std.proofs.Common.{◌≡◌, slice_index, arith, ap, sym, ◌∙◌}
use Rattle.std.proofs.lemmas.Grind.{common_steps}
use Rattle.block_workers.specs.declared.port.Port.{Port}
use Rattle.block_workers.specs.Ports.{other}
use Rattle.block_workers.specs.Seeing.{others}
use Rattle.block_workers.proofs.Reading.{place_low, other_at, place_more}
use Rattle.block_workers.proofs.ends.places_of.Goals as goal

pub index_mut-requires : goal.index_mut-requires
index_mut-requires c =
    let ports = c.args.ports.now.items in
    let here : slice_index (others ports) c.loop-k.k ≡ c.other.result =
    other_at ports c.loop-k.k c.index.result.now (omega arith) ∙ (ap (λ (p : Port). other p) (sym c.index.ensures) ∙ sym c.other.ensures) in
    omega (arith, here, c.loop-k.invariant.len, c.requires.below c.loop-k.k (omega arith))

pub overflow_add-next : goal.overflow_add-next
overflow_add-next c =
    let low = place_low c.args.blocks c.args.ports.now.items c.requires c.loop-k.k (omega arith) in
    omega (arith, c.loop-k.invariant.next, low, c.requires.below c.loop-k.k (omega arith), c.ranges.blocks.fits)

pub loop-k-preserved : goal.loop-k-preserved
loop-k-preserved c =
    let ports = c.args.ports.now.items in
    let inv = c.loop-k.invariant in
    let here : slice_index (others ports) c.loop-k.k ≡ c.other.result =
    other_at ports c.loop-k.k c.index.result.now (omega arith) ∙ (ap (λ (p : Port). other p) (sym c.index.ensures) ∙ sym c.other.ensures) in
    record {
      len = inv.len;
      next = omega (arith, inv.next);
      found = rw inv.next (place_more c.args.blocks ports c.loop-k.places.items c.loop-k.k c.other.result c.requires (grind (arith, common_steps)) (omega arith) (sym here) inv.found);
    }
