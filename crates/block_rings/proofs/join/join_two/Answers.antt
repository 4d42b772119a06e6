use Rattle.std.proofs.Common.{Vec, Global, arith}
use Rattle.std.proofs.lemmas.Grind.{common_steps}
use Rattle.block_workers.specs.declared.port.Port.{Port}
use Rattle.block_rings.proofs.Pairs.{two_more}
use Rattle.block_rings.proofs.join.join_two.Goals as goal

pub returns : goal.returns
returns c =
    let e = c.in_ok-first.ensures in
    record {
      first = c.in_ok-first.first;
      second = c.in_ok-first.second;
      of_first = e.first;
      of_second = e.second;
      there = e.there;
      back = e.back;
      lists = two_more (λ (v : Vec Port Global). v.items) c.args.lists.now.items c.args.b c.args.c c.index_mut.result.now c.push.new.self c.index_mut-2.result.now c.push-2.new.self c.in_ok-first.first c.in_ok-first.second c.requires.order (grind (arith, common_steps)) c.index_mut.ensures.value c.in_ok-push.ensures.items c.index_mut-2.ensures.value c.in_ok-push-2.ensures.items;
    }
