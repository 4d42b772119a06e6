use Rattle.std.proofs.Common.{◌≡◌, ◌∙◌, ap, length, arith}
use Rattle.block_split.specs.Split.{base_for, direction_in, slot_direction}
use Rattle.block_split.proofs.Ordered.{slot_made}
use Rattle.block_split.proofs.Sorted.{base_below}
use Rattle.block_split.proofs.slots.write_slot.Goals as goal

pub overflow_sub-slot : goal.overflow_sub-slot
overflow_sub-slot c =
    let split = c.args.split.now in
    let net = split.net.now in
    let arcs : length c.arcs.result.now ≡ length net.arcs = ap length c.arcs.ensures.value in
    let base : c.base_for-base.result ≡ base_for net split.blocks (direction_in net c.args.index) =
    c.base_for-base.ensures ∙ ap (base_for net split.blocks) (c.direction_at.ensures ∙ ap (λ m. slot_direction m c.args.index) arcs) in
    omega (arith, base, c.requires.rank, base_below net split.blocks c.args.index c.requires.numbers.is_net c.requires.numbers.can_split c.requires.index)

pub returns : goal.returns
returns c =
    let split = c.args.split.now in
    let net = split.net.now in
    let arcs : length c.arcs.result.now ≡ length net.arcs = ap length c.arcs.ensures.value in
    let base : c.base_for-base.result ≡ base_for net split.blocks (direction_in net c.args.index) =
    c.base_for-base.ensures ∙ ap (base_for net split.blocks) (c.direction_at.ensures ∙ ap (λ m. slot_direction m c.args.index) arcs) in
    omega (arith, base, c.requires.rank, slot_made net split.blocks c.args.index c.requires.index)
