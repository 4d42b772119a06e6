use Rattle.std.proofs.Common.{◌∙◌, ℕ, List, get_or, length, ap, arith}
use Rattle.std.proofs.lemmas.List.{get_or_default}
use Rattle.counting_sort.specs.Grouping.{rank}
use Rattle.block_net.proofs.Tables.{length_table}
use Rattle.block_split.specs.Split.{directions, keys_made}
use Rattle.block_split.proofs.Sorted.{slots_same}
use Rattle.block_split.proofs.side_by_side.write_slots_by.Goals as goal

pub write_each-requires-clause-few : goal.write_each-requires-clause-few
write_each-requires-clause-few g c =
    let net = c.args.split.now.net.now in
    omega (arith, ap (length {A = ℕ}) c.requires.ranks, length_table (directions net) (rank (keys_made net c.args.split.now.blocks)))

pub write_each-requires-clause-ranks : goal.write_each-requires-clause-ranks
write_each-requires-clause-ranks g c = λ κs within i d l.
    get_or_default c.args.slots.now i d 0 l ∙ ap (λ (xs : List ℕ). get_or xs i 0) c.requires.ranks

pub returns : goal.returns
returns g c =
    let split = c.args.split.now in
    let net = split.net.now in
    slots_same net split.blocks c.args.slots.now c.write_each.new.slots c.requires.numbers.is_net
    (ap (length {A = ℕ}) c.requires.ranks ∙ length_table (directions net) (rank (keys_made net split.blocks))) c.write_each.auto.slots (λ i l. c.write_each.ensures i 0 l)
