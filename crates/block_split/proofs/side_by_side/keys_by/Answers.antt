use Rattle.std.proofs.Common.{◌≡◌, ◌∙◌, length, ap, arith}
use Rattle.std.proofs.lemmas.List.{with_items_is}
use Rattle.block_split.specs.Split.{directions}
use Rattle.block_split.proofs.Sorted.{keys_same}
use Rattle.block_split.proofs.side_by_side.keys_by.Goals as goal

pub returns : goal.returns
returns g c =
    let net = c.args.net.now in
    let keys = c.in_ok-keys.keys in
    let arcs : length c.arcs.result.now ≡ length net.arcs = ap length c.arcs.ensures.value in
    let long : length c.write_keys.new.keys ≡ length keys.items = omega (arith, c.write_keys.auto.keys, ap length c.as_mut_slice.ensures.value) in
    let len : length c.write_keys.new.keys ≡ directions net = omega (arith, long, c.in_ok-keys.ensures.len, arcs) in
    with_items_is keys c.write_keys.new.keys (omega (arith, long, keys.ok.0))
    ∙ keys_same net c.args.blocks c.write_keys.new.keys len (λ i l. c.write_keys.ensures i 0 (omega (arith, l, len, c.write_keys.auto.keys)))
