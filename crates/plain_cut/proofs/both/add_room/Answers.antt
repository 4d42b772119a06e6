use Rattle.std.proofs.Common.{arith, inl, inr, refl, ◌∙◌, ap, length, ◌≡◌, ℕ, List, slice_index}
use Rattle.std.proofs.lemmas.Bool.{cases_lt}
use Rattle.std.proofs.lemmas.List.{with_items_is}
use Rattle.flow_network.specs.Progress.{top}
use Rattle.plain_cut.proofs.Wider.{extras-at, TellSides, wider_work}
use Rattle.plain_cut.proofs.both.add_room.Goals as goal

pub add_each-requires-clause-small : goal.add_each-requires-clause-small
add_each-requires-clause-small c =
    let rooms = c.requires.work.rooms in
    rw c.as_mut_slice.ensures.value
    (λ v l. omega (arith, extras-at c.args.net.now c.args.more.now v c.requires.limits c.requires.extras (omega (arith, l, rooms.len)), rooms.within v (omega (arith, l, rooms.len))))

pub returns : goal.returns
returns c =
    let net = c.args.net.now in
    let old = c.args.work.now in
    let long : length c.add_each.new.numbers ≡ old.rooms.len = omega (arith, c.add_each.auto.numbers, c.as_mut_slice.ensures.len) in
    let rooms = with_items_is old.rooms c.add_each.new.numbers long ∙ (rw c.as_mut_slice.ensures.value at c.add_each.ensures) in
    let wide : length c.tell_sides.new.labels ≡ old.labels.len = omega (arith, c.tell_sides.auto.labels, c.as_mut_slice-2.ensures.len) in
    let labels = with_items_is old.labels c.tell_sides.new.labels wide in
    let given = c.as_mut_slice-2.ensures.value in
    let len = c.requires.work.sound.labelling.len in
    let told : TellSides net old.labels.items c.tell_sides.new.labels = λ v l. elim (cases_lt (slice_index old.labels.items v) (top net)) [
      | inl low ↦ inl (low, c.tell_sides.ensures.below v (omega (arith, l, len, ap (length {A = ℕ}) given)) (omega (arith, low, c.top_label.ensures.value, ap (λ (xs : List ℕ). slice_index xs v) given)))
      | inr high ↦ inr (high, c.tell_sides.ensures.at v (omega (arith, l, len, ap (length {A = ℕ}) given)) (omega (arith, high, c.top_label.ensures.value, ap (λ (xs : List ℕ). slice_index xs v) given)))
    ] in
    rw c.requires.wider
    (wider_work net c.args.more.now old _ c.requires.limits c.requires.extras c.requires.work c.requires.finished c.requires.exact refl rooms refl
    (ap (length {A = ℕ}) labels ∙ omega (arith, wide, old.labels.ok.0, len)) (rw labels told) refl)
