use Rattle.std.proofs.Common.{◌≡◌, ◌+◌, ◌*◌, ◌<◌, ◌∷◌, ◌++◌, [], length, reverse, sym, ◌∙◌, ap, arith, vec_capacity, Vec, Global}
use Rattle.std.proofs.lemmas.List.{append_assoc, length-append}
use Rattle.std.proofs.lemmas.Grind.{common_steps}
use Rattle.block_workers.specs.declared.seat.Seat.{Seat}
use Rattle.rounds.proofs.Filling.{room_here, rooms_stay, dealt_here}
use Rattle.rounds.proofs.hands.fill.Goals as goal

pub push_reserved-requires : goal.push_reserved-requires
push_reserved-requires c =
    let items = λ (v : Vec Seat Global). v.items in
    let inv = c.loop-dealt.invariant in
    let t = c.len-threads.result in
    let v = c.index_mut.result.now in
    let more : c.loop-dealt.dealt < c.args.room * t = grind (arith, common_steps) in
    let less = room_here items t c.loop-dealt.dealt inv.done c.loop-dealt.hands.items v (grind (arith, common_steps)) inv.dealt inv.count c.index_mut.ensures.value (λ h. vec_capacity h) c.args.room inv.room more in
    grind (arith, common_steps)

pub loop-dealt-preserved : goal.loop-dealt-preserved
loop-dealt-preserved c =
    let items = λ (v : Vec Seat Global). v.items in
    let inv = c.loop-dealt.invariant in
    let t = c.len-threads.result in
    let n = c.loop-dealt.dealt in
    let vs = c.loop-dealt.hands.items in
    let v = c.index_mut.result.now in
    let x = c.take_next-seat.result in
    let rest = c.take_next-seat.new.list.items in
    let long : length vs ≡ t = grind (arith, common_steps) in
    let head : reverse c.loop-dealt.seats.items ≡ x ∷ reverse rest = grind (arith, common_steps) in
    record {
      done = inv.done ++ x ∷ [];
      all = append_assoc inv.done (x ∷ []) (reverse rest) ∙ (ap (λ r. inv.done ++ r) (sym head) ∙ inv.all);
      count = length-append inv.done (x ∷ []) ∙ ap (λ k. k + 1) inv.count;
      left = grind (arith, common_steps);
      len = inv.len;
      capacity = grind (arith, common_steps);
      room = rooms_stay items t n inv.done vs v long inv.dealt inv.count c.index_mut.ensures.value (λ h. vec_capacity h) c.args.room c.push_reserved.new.self inv.room c.push_reserved.ensures.capacity;
      dealt = dealt_here items t n inv.done vs v long inv.dealt inv.count c.index_mut.ensures.value c.push_reserved.new.self x c.push_reserved.ensures.items;
    }
