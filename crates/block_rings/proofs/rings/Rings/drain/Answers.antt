use Rattle.std.proofs.Common.{ℕ, [], length, sym, ◌∙◌, subst}
use Rattle.block_rings.specs.Links.{RingsView, AreLinks}
use Rattle.block_rings.specs.Draining.{AreDraining, HaveRoom}
use Rattle.block_rings.proofs.Draining.{rooms_for, all_left}
use Rattle.block_rings.proofs.Leaving.{room_for_left}
use Rattle.block_rings.proofs.rings.Rings.drain.Goals as goal

pub drain_all-requires-clause-room : goal.drain_all-requires-clause-room
drain_all-requires-clause-room c =
    let v : RingsView = c.args.self in
    let rooms = c.args.ways.now.rooms in
    let n = length c.args.ways.now.messages in
    subst (λ (w : RingsView). HaveRoom n rooms w.links) (sym (c.self.view_is ∙ c.see.ensures.same))
    (subst (λ (m : ℕ). HaveRoom m rooms v.links) (sym c.requires.square.rows) (rooms_for v rooms c.see.ensures.left c.requires.room))

pub returns-clause-left : goal.returns-clause-left
returns-clause-left c =
    let v : RingsView = c.args.self in
    let same = c.self.view_is ∙ c.see.ensures.same in
    let new = c.drain_all.new.ways.messages in
    let n = length c.args.ways.now.messages in
    all_left v new (subst (λ (w : RingsView). AreLinks w.blocks w.links) same c.self.invariant) c.see.ensures.left
    (subst (λ (m : ℕ). AreDraining m v.links [] new) c.requires.square.rows (subst (λ (w : RingsView). AreDraining n w.links [] new) same c.drain_all.ensures.messages))

pub returns-clause-few : goal.returns-clause-few
returns-clause-few c = room_for_left c.args.self c.drain_all.new.ways.messages c.see.ensures.within (returns-clause-left c)
