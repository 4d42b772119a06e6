use Rattle.std.proofs.Common.{◌≡◌, ◌<◌, ◌∷◌, ◌++◌, length, map, reverse, sym, ◌∙◌, ap, subst, arith, Vec, Global}
use Rattle.std.proofs.lemmas.List.{length-map}
use Rattle.std.proofs.lemmas.Grind.{common_steps}
use Rattle.block_workers.specs.declared.seat.Seat.{Seat}
use Rattle.block_workers.specs.declared.worker.Worker.{Worker}
use Rattle.block_workers.specs.Workers.{AreNew}
use Rattle.rounds.proofs.DealtSeats.{no_turns, next_hand, less_held}
use Rattle.rounds.proofs.hands.enlist.Goals as goal

pub new-requires-clause-counted : goal.new-requires-clause-counted
new-requires-clause-counted g c κs within =
    let rest = reverse c.take_next-hand.new.list.items in
    let first = c.take_next-hand.result in
    let head : reverse c.loop-hand.hands.items ≡ first ∷ rest = c.take_next-hand.ensures.next in
    let items = λ (h : Vec Seat Global). h.items in
    let seats = λ (w : Worker _ _ _ _). w.seats.items in
    let vs = c.loop-hand.workers.items in
    let is : map seats vs ++ map items (first ∷ rest) ≡ map items c.args.hands.now.items = ap (λ r. map seats vs ++ map items r) (sym head) ∙ c.loop-hand.invariant.all in
    let new : AreNew first.items = subst AreNew (next_hand seats items vs first rest (map items c.args.hands.now.items) is) (c.requires.new (length vs)) in
    no_turns first.items new ∙ sym c.split_off.ensures.amount

pub push_reserved-requires : goal.push_reserved-requires
push_reserved-requires g c =
    let rest = reverse c.take_next-hand.new.list.items in
    let first = c.take_next-hand.result in
    let head : reverse c.loop-hand.hands.items ≡ first ∷ rest = c.take_next-hand.ensures.next in
    let items = λ (h : Vec Seat Global). h.items in
    let seats = λ (w : Worker _ _ _ _). w.seats.items in
    let vs = c.loop-hand.workers.items in
    let is : map seats vs ++ map items (first ∷ rest) ≡ map items c.args.hands.now.items = ap (λ r. map seats vs ++ map items r) (sym head) ∙ c.loop-hand.invariant.all in
    let less : length vs < length (map items c.args.hands.now.items) = less_held seats items vs first rest (map items c.args.hands.now.items) is in
    let long : length (map items c.args.hands.now.items) ≡ length c.args.hands.now.items = length-map c.args.hands.now.items items in
    let room = c.loop-hand.invariant.room in
    let had = c.requires.room in
    grind (arith, common_steps)
