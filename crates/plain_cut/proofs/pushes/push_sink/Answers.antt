use Rattle.std.proofs.lemmas.Grind.{common_steps}
use Rattle.std.proofs.Common.{arith, refl, ap, set, length, ◌≡◌, ◌<◌, ◌-◌, ℕ, slice_index, get_or-set_same}
use Rattle.std.proofs.lemmas.List.{get_or_read}
use Rattle.plain_cut.proofs.Steps.{give_step}
use Rattle.plain_cut.proofs.pushes.push_sink.Goals as goal

pub returns : goal.returns
returns c =
    let net = c.args.net.now in
    let old = c.args.work.now in
    let v = c.args.v in
    let z = c.min-amount.result in
    let s = c.requires.work.sound in
    let in_kept : v < length old.excess.items = omega (arith, s.kept_len, c.requires.node) in
    let kept : c.index.result.now ≡ slice_index old.excess.items v = get_or_read old.excess.items v c.index.result.now in_kept c.index.ensures 0 in
    let again : c.index_mut.result.now ≡ slice_index old.excess.items v = get_or_read old.excess.items v c.index_mut.result.now in_kept c.index_mut.ensures.value 0 in
    let in_rooms : v < length old.rooms.items = omega (arith, c.requires.work.rooms.len, c.requires.node) in
    let room : c.index-2.result.now ≡ slice_index old.rooms.items v = get_or_read old.rooms.items v c.index-2.result.now in_rooms c.index-2.ensures 0 in
    let room_again : c.index_mut-2.result.now ≡ slice_index old.rooms.items v = get_or_read old.rooms.items v c.index_mut-2.result.now in_rooms c.index_mut-2.ensures.value 0 in
    let amount = c.min-amount.ensures in
    let kept_set : slice_index (set old.excess.items v (c.index_mut.result.now - z)) v ≡ c.index_mut.result.now - z = get_or-set_same old.excess.items v (c.index_mut.result.now - z) 0 in_kept in
    let room_set : slice_index (set old.rooms.items v (c.index_mut-2.result.now - z)) v ≡ c.index_mut-2.result.now - z = get_or-set_same old.rooms.items v (c.index_mut-2.result.now - z) 0 in_rooms in
    record {
      step = give_step net old _ v z c.nodes-nodes.ensures.limits c.requires.work c.requires.node
          (omega (arith, amount, kept)) (omega (arith, amount, kept, room, c.requires.some, c.requires.residual)) (omega (arith, amount, room))
          refl (ap (λ (f : ℕ). set old.rooms.items v (f - z)) room_again) (ap (λ (f : ℕ). set old.excess.items v (f - z)) again) refl refl refl;
      rows = refl;
      labels = refl;
      spent = λ some. omega (arith, some, kept_set, room_set, amount, kept, again, room, room_again);
    }

pub overflow_sub-index_mut : goal.overflow_sub-index_mut
overflow_sub-index_mut c = grind (arith, common_steps)
