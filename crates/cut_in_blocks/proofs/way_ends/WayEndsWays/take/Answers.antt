use Rattle.std.proofs.Common.{◌≡◌, true, Some, is_some, sym, subst}
use Rattle.block_discharge.specs.declared.letter.Letter.{Letter}
use Rattle.block_discharge.specs.Seen.{IsTake}
use Rattle.cut_in_blocks.specs.WayEnds.{WayEndsView, way_ends_view, seen_by}
use Rattle.cut_in_blocks.proofs.Ending.{front_is, front_some, take_kept, take_is}
use Rattle.cut_in_blocks.proofs.way_ends.WayEndsWays.take.Goals as goal

pub invariant_of-self : goal.invariant_of-self
invariant_of-self c =
    let e = way_ends_view c.self.inside.block c.self.inside.blocks c.self.inside.first.value c.self.inside.ways c.self.inside.slots.items c.self.inside.arcs in
    let some : is_some ((seen_by e).front c.args.from) ≡ true = subst (λ (q : WayEndsView). is_some ((seen_by q).front c.args.from) ≡ true) (sym c.self.view_is) c.requires in
    let found = front_some e c.args.from some in
    take_kept e c.take.new.self c.args.from found.0 c.self.invariant found.1 c.take.ensures.messages c.take.ensures.rooms

pub returns-clause-take : goal.returns-clause-take
returns-clause-take c =
    let e = way_ends_view c.self.inside.block c.self.inside.blocks c.self.inside.first.value c.self.inside.ways c.self.inside.slots.items c.self.inside.arcs in
    let e' = way_ends_view c.self.inside.block c.self.inside.blocks c.self.inside.first.value c.take.new.self c.self.inside.slots.items c.self.inside.arcs in
    subst (λ (q : WayEndsView). (l : Letter) → (seen_by q).front c.args.from ≡ Some l → IsTake c.args.from l.message (seen_by q) (seen_by e')) c.self.view_is
    (λ l is. take_is e c.take.new.self c.args.from l c.self.invariant (front_is e c.args.from l is) c.take.ensures.messages c.take.ensures.rooms)
