use Rattle.std.proofs.Common.{◌≡◌, length, map, sym, ◌∙◌, subst, arith, vec_len}
use Rattle.std.proofs.lemmas.List.{length-map}
use Rattle.std.proofs.lemmas.Grind.{common_steps}
use Rattle.block_workers.specs.declared.worker.Worker.{Worker}
use Rattle.rounds.specs.Dealing.{AreHands, AreDealt}
use Rattle.rounds.proofs.Coming.{hands_come_back, seats_are_worked, workers_worked}
use Rattle.rounds.proofs.seat_work.work_seats.Goals as goal

pub collect-requires-clause-hands : goal.collect-requires-clause-hands
collect-requires-clause-hands g c κs within =
    let n : length c.args.deck.seats.items ≡ c.in_ok-workers.room.count = grind (arith, common_steps) in
    let back_len : vec_len c.in_ok-back.back ≡ length c.in_ok-back.back.items = grind (arith, common_steps) in
    let len : length c.in_ok-back.back.items ≡ length c.in_ok-workers.workers.items = grind (arith, common_steps) in
    let was_len : vec_len c.in_ok-workers.workers ≡ length c.in_ok-workers.workers.items = grind (arith, common_steps) in
    let seats = λ (w : Worker _ _ _ _). w.seats.items in
    let old = map seats c.in_ok-workers.workers.items in
    let new = map seats c.in_ok-back.back.items in
    let dealt = c.in_ok-workers.ensures.dealt in
    let worked = workers_worked seats c.in_ok-workers.workers.items c.in_ok-back.back.items len (λ i d below. c.in_ok-back.ensures.each i d (omega (arith, below, was_len))) in
    let are : AreHands c.args.threads (length c.args.deck.seats.items) new = hands_come_back c.args.threads (length c.args.deck.seats.items) old new dealt.shape worked in
    let t : c.args.threads ≡ vec_len c.in_ok-back.back = sym are.len ∙ (length-map c.in_ok-back.back.items seats ∙ sym back_len) in
    subst (λ m. AreHands (vec_len c.in_ok-back.back) m new) n (subst (λ k. AreHands k (length c.args.deck.seats.items) new) t are)

pub returns-clause-worked : goal.returns-clause-worked
returns-clause-worked g c =
    let back_len : vec_len c.in_ok-back.back ≡ length c.in_ok-back.back.items = grind (arith, common_steps) in
    let len : length c.in_ok-back.back.items ≡ length c.in_ok-workers.workers.items = grind (arith, common_steps) in
    let was_len : vec_len c.in_ok-workers.workers ≡ length c.in_ok-workers.workers.items = grind (arith, common_steps) in
    let seats = λ (w : Worker _ _ _ _). w.seats.items in
    let old = map seats c.in_ok-workers.workers.items in
    let new = map seats c.in_ok-back.back.items in
    let dealt = c.in_ok-workers.ensures.dealt in
    let worked = workers_worked seats c.in_ok-workers.workers.items c.in_ok-back.back.items len (λ i d below. c.in_ok-back.ensures.each i d (omega (arith, below, was_len))) in
    let t : vec_len c.in_ok-back.back ≡ c.args.threads = back_len ∙ (len ∙ (sym (length-map c.in_ok-workers.workers.items seats) ∙ dealt.shape.len)) in
    seats_are_worked c.args.threads c.args.deck.seats.items c.collect.result.seats.items old new dealt worked
    (subst (λ k. AreDealt k c.collect.result.seats.items new) t c.collect.ensures.dealt)
