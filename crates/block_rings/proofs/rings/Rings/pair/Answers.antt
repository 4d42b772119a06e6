use Rattle.std.proofs.Common.{◌≡◌, ℕ, [], Vec, Global, length, map, vec_capacity, subst, arith}
use Rattle.std.proofs.lemmas.Grind.{common_steps}
use Rattle.std.proofs.lemmas.List.{nil_from_length}
use Rattle.block_workers.specs.declared.port.Port.{Port}
use Rattle.block_rings.specs.Links.{AreLinks, links_of}
use Rattle.block_rings.proofs.Pairing.{ready_first, paired_first, all_sent, all_taken, all_room}
use Rattle.block_rings.proofs.rings.Rings.pair.Goals as goal

pub pair_all-requires : goal.pair_all-requires
pair_all-requires c =
    let lists = map (λ (l : Vec Port Global). l.items) c.args.lists.items in
    let n = length c.args.lists.items in
    let none : length c.args.room.items ≡ 0 = grind (arith, common_steps) in
    rw none (ready_first n (vec_capacity c.args.room) lists c.requires.mated c.requires.room)

pub invariant_of-result : goal.invariant_of-result
invariant_of-result c =
    let lists = map (λ (l : Vec Port Global). l.items) c.args.lists.items in
    let n = length c.args.lists.items in
    let none : c.args.room.items ≡ [] = nil_from_length c.args.room.items (grind (arith, common_steps)) in
    let blocks : n ≡ c.len-blocks.result = grind (arith, common_steps) in
    subst (λ (m : ℕ). AreLinks m (links_of c.pair_all.new.pairs.items)) blocks (c.pair_all.ensures.paired lists (paired_first n lists c.args.room.items none)).linked

pub returns-clause-sent : goal.returns-clause-sent
returns-clause-sent c =
    let lists = map (λ (l : Vec Port Global). l.items) c.args.lists.items in
    let n = length c.args.lists.items in
    let none : c.args.room.items ≡ [] = nil_from_length c.args.room.items (grind (arith, common_steps)) in
    all_sent n lists _ (links_of c.pair_all.new.pairs.items) _ _ c.pair_all.ensures.ready (c.pair_all.ensures.paired lists (paired_first n lists c.args.room.items none))

pub returns-clause-taken : goal.returns-clause-taken
returns-clause-taken c =
    let lists = map (λ (l : Vec Port Global). l.items) c.args.lists.items in
    let n = length c.args.lists.items in
    let none : c.args.room.items ≡ [] = nil_from_length c.args.room.items (grind (arith, common_steps)) in
    all_taken n lists _ (links_of c.pair_all.new.pairs.items) _ _ c.pair_all.ensures.ready (c.pair_all.ensures.paired lists (paired_first n lists c.args.room.items none))

pub returns-clause-room : goal.returns-clause-room
returns-clause-room c =
    let lists = map (λ (l : Vec Port Global). l.items) c.args.lists.items in
    let n = length c.args.lists.items in
    let none : c.args.room.items ≡ [] = nil_from_length c.args.room.items (grind (arith, common_steps)) in
    all_room n lists _ (links_of c.pair_all.new.pairs.items) _ _ c.pair_all.ensures.ready (c.pair_all.ensures.paired lists (paired_first n lists c.args.room.items none))
