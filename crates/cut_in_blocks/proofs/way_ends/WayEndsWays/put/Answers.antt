use Rattle.std.proofs.Common.{◌≡◌, true, nat_lt, length, sym, subst}
use Rattle.std.proofs.lemmas.Bool.{and_parts}
use Rattle.block_state.specs.AllWays.{room_at}
use Rattle.block_discharge.specs.Seen.{IsPut}
use Rattle.cut_in_blocks.specs.WayEnds.{WayEndsView, way_ends_view, seen_by, is_other_block, now_to}
use Rattle.cut_in_blocks.proofs.Ending.{put_kept, put_is}
use Rattle.cut_in_blocks.proofs.way_ends.WayEndsWays.put.Goals as goal

pub invariant_of-self : goal.invariant_of-self
invariant_of-self c =
    let e = way_ends_view c.self.inside.block c.self.inside.blocks c.self.inside.first.value c.self.inside.ways c.self.inside.slots.items c.self.inside.arcs in
    let room : (seen_by e).room c.args.to ≡ true = subst (λ (q : WayEndsView). (seen_by q).room c.args.to ≡ true) (sym c.self.view_is) c.requires.room in
    let on = (and_parts (is_other_block e c.args.to) (nat_lt (length (now_to e c.args.to)) (room_at e.now.rooms e.block c.args.to)) room).0 in
    put_kept e c.put.new.self c.args.to c.args.letter.message c.self.invariant on c.put.ensures.messages c.put.ensures.rooms

pub returns-clause-put : goal.returns-clause-put
returns-clause-put c =
    let e = way_ends_view c.self.inside.block c.self.inside.blocks c.self.inside.first.value c.self.inside.ways c.self.inside.slots.items c.self.inside.arcs in
    let room : (seen_by e).room c.args.to ≡ true = subst (λ (q : WayEndsView). (seen_by q).room c.args.to ≡ true) (sym c.self.view_is) c.requires.room in
    let on = (and_parts (is_other_block e c.args.to) (nat_lt (length (now_to e c.args.to)) (room_at e.now.rooms e.block c.args.to)) room).0 in
    let e' = way_ends_view c.self.inside.block c.self.inside.blocks c.self.inside.first.value c.put.new.self c.self.inside.slots.items c.self.inside.arcs in
    subst (λ (q : WayEndsView). IsPut c.args.to c.args.letter.message (seen_by q) (seen_by e')) c.self.view_is
    (put_is e c.put.new.self c.args.to c.args.letter.message c.self.invariant on c.put.ensures.messages)
