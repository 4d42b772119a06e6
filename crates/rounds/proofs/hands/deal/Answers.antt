use Rattle.std.proofs.Common.{◌≡◌, map, subst, arith, Vec, Global, vec_len}
use Rattle.std.proofs.lemmas.Grind.{common_steps}
use Rattle.block_workers.specs.declared.seat.Seat.{Seat}
use Rattle.block_workers.specs.declared.worker.Worker.{Worker}
use Rattle.block_workers.specs.Workers.{AreNew}
use Rattle.rounds.specs.Dealing.{AreDealt}
use Rattle.rounds.proofs.DealtSeats.{enough, new_hands, each_held}
use Rattle.rounds.proofs.hands.deal.Goals as goal

pub fill-requires-clause-enough : goal.fill-requires-clause-enough
fill-requires-clause-enough g c =
    let t : vec_len c.empty_hands.new.hands ≡ c.args.threads = grind (arith, common_steps) in
    let n : c.len-count.result ≡ vec_len c.args.deck.seats = grind (arith, common_steps) in
    rw (t, n) (enough (vec_len c.args.deck.seats) c.args.threads c.requires.some)

pub returns-clause-dealt : goal.returns-clause-dealt
returns-clause-dealt g c =
    let t : vec_len c.empty_hands.new.hands ≡ c.args.threads = grind (arith, common_steps) in
    let is = c.enlist.ensures.workers in
    rw is (subst (λ k. AreDealt k c.args.deck.seats.items (map (λ (h : Vec Seat Global). h.items) c.fill.new.hands.items)) t c.fill.ensures.dealt)

pub returns-clause-new : goal.returns-clause-new
returns-clause-new g c i d below =
    let hands = map (λ (h : Vec Seat Global). h.items) c.fill.new.hands.items in
    each_held (λ (w : Worker _ _ _ _). w.seats.items) AreNew c.enlist.new.workers.items hands c.enlist.ensures.workers
    (new_hands (vec_len c.empty_hands.new.hands) c.args.deck.seats.items hands c.fill.ensures.dealt c.requires.new) i d (grind (arith, common_steps))
