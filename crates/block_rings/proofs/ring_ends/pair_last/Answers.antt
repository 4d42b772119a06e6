use Rattle.std.proofs.Common.{Vec, Global, length, refl, arith}
use Rattle.std.proofs.lemmas.Grind.{common_steps}
use Rattle.block_workers.specs.declared.port.Port.{Port}
use Rattle.block_rings.proofs.Popping.{other_some, leads, leads_back, both_out}
use Rattle.block_rings.proofs.ring_ends.pair_last.Goals as goal

pub unwrap-second-requires : goal.unwrap-second-requires
unwrap-second-requires c =
    let some = other_some (λ (v : Vec Port Global). v.items) c.args.lists.now.items (length c.args.lists.now.items) c.args.b c.other-c.result _ _ c.index_mut.result.now c.pop.new.self c.index_mut-2.result.now c.pop.result c.unwrap-first.result c.requires.ready c.requires.block refl c.index_mut.ensures.value c.pop.ensures.items c.unwrap-first.ensures c.other-c.ensures c.index_mut-2.ensures.value in
    c.pop-2.ensures.variant.1 (grind (arith, common_steps))

pub invariant_of-push_reserved : goal.invariant_of-push_reserved
invariant_of-push_reserved c = record {
  there = leads (λ (v : Vec Port Global). v.items) c.args.lists.now.items (length c.args.lists.now.items) c.args.b c.other-c.result _ _ c.index_mut.result.now c.pop.new.self c.index_mut-2.result.now c.pop.result c.unwrap-first.result c.requires.ready c.requires.block refl c.index_mut.ensures.value c.pop.ensures.items c.unwrap-first.ensures c.other-c.ensures c.index_mut-2.ensures.value c.pop-2.new.self c.pop-2.result c.unwrap-second.result c.pop-2.ensures.items c.unwrap-second.ensures;
  back = leads_back (λ (v : Vec Port Global). v.items) c.args.lists.now.items (length c.args.lists.now.items) c.args.b c.other-c.result _ _ c.index_mut.result.now c.pop.new.self c.index_mut-2.result.now c.pop.result c.unwrap-first.result c.requires.ready c.requires.block refl c.index_mut.ensures.value c.pop.ensures.items c.unwrap-first.ensures c.other-c.ensures c.index_mut-2.ensures.value c.pop-2.new.self c.pop-2.result c.unwrap-second.result c.pop-2.ensures.items c.unwrap-second.ensures;
}

pub returns-clause-one : goal.returns-clause-one
returns-clause-one c = (_, c.push_reserved.ensures.items, both_out (λ (v : Vec Port Global). v.items) c.args.lists.now.items (length c.args.lists.now.items) c.args.b c.other-c.result _ _ c.index_mut.result.now c.pop.new.self c.index_mut-2.result.now c.pop.result c.unwrap-first.result c.requires.ready c.requires.block refl c.index_mut.ensures.value c.pop.ensures.items c.unwrap-first.ensures c.other-c.ensures c.index_mut-2.ensures.value c.pop-2.new.self c.pop-2.result c.unwrap-second.result c.pop-2.ensures.items c.unwrap-second.ensures _ refl refl)
