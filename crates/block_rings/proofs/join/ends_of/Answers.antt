use Rattle.std.proofs.Common.{◌≡◌, ◌∷◌, ◌++◌, length, map, sym, ◌∙◌, ap, subst, arith, Vec, Global}
use Rattle.std.specs.Vec.Iter.{into_iter_items}
use Rattle.std.proofs.lemmas.Grind.{common_steps}
use Rattle.block_workers.specs.declared.port.Port.{Port}
use Rattle.block_workers.specs.declared.ends.Ends.{Ends}
use Rattle.block_workers.specs.Ends.{ports}
use Rattle.block_workers.specs.Seeing.{AreRising}
use Rattle.block_rings.proofs.Joining.{row_here}
use Rattle.block_rings.proofs.join.ends_of.Goals as goal

pub in_room-requires : goal.in_room-requires
in_room-requires c =
    let items = λ (l : Vec Port Global). l.items in
    let done = map (λ (e : Ends). ports e) c.loop-list.all.items in
    let step = c.in-Some.ensures.steps in
    let gives = c.into_iter-list-iterator.ensures.into_iter_gives in
    let head : into_iter_items c.loop-list.list-iterator ≡ c.in-Some.list ∷ into_iter_items c.next.new.self = grind (arith, common_steps) in
    let all : into_iter_items c.into_iter-list-iterator.result ≡ c.args.lists.items = grind (arith, common_steps) in
    subst (AreRising c.args.blocks)
    (row_here done (map items (into_iter_items c.next.new.self)) (map items c.args.lists.items) c.in-Some.list.items
    (ap (λ r. done ++ map items r) (sym head) ∙ (c.loop-list.invariant ∙ ap (map items) all)))
    (c.requires (length done))
