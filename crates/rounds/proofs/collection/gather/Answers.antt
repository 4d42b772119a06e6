use Rattle.std.proofs.Common.{◌≡◌, ◌<◌, ◌∷◌, ◌++◌, ◌%◌, [], length, map, replicate, reverse, set, ◌∙◌, ap, subst, arith, vec_len, Vec, Global, sum_by}
use Rattle.std.proofs.lemmas.Grind.{common_steps}
use Rattle.block_workers.specs.declared.seat.Seat.{Seat}
use Rattle.block_workers.specs.Workers.{turns_of}
use Rattle.rounds.specs.Dealing.{hand, AreHands}
use Rattle.rounds.proofs.Gathering.{none_taken, sum_none, all_left, all_taken, taken_more, sum_more, has_next, left_less}
use Rattle.rounds.proofs.collection.gather.Goals as goal

pub loop-b-init : goal.loop-b-init
loop-b-init c =
    let t = c.len-threads.result in
    let none : c.args.seats.now.items ≡ [] = grind (arith, common_steps) in
    record {
      parts = replicate t [];
      len = grind (arith, common_steps);
      room = grind (arith, common_steps);
      count = grind (arith, common_steps);
      dealt = rw none (none_taken t (grind (arith, common_steps)));
      turns = rw none (sum_none (λ (s : Seat). s.turn) t);
      whole = λ w low. all_left t w (map (λ h. reverse h.items) c.args.hands.now.items);
    }

pub take_next-seat-requires : goal.take_next-seat-requires
take_next-seat-requires c =
    let inv = c.loop-b.invariant in
    let t = c.len-threads.result in
    let v = c.index_mut.result.now in
    let t_is : vec_len c.args.hands.now ≡ t = grind (arith, common_steps) in
    let whole = map (λ (h : Vec Seat Global). reverse h.items) c.args.hands.now.items in
    let are : AreHands t c.args.count whole = subst (λ k. AreHands k c.args.count whole) t_is c.requires.hands in
    let some : 0 < length (reverse v.items) =
    has_next t c.loop-b.b c.loop-b.seats.items inv.parts inv.dealt inv.count (λ (h : Vec Seat Global). reverse h.items) c.args.count c.loop-b.hands.items v whole (grind (arith, common_steps)) c.index_mut.ensures.value inv.whole are (grind (arith, common_steps)) in
    grind (arith, common_steps)

pub loop-b-preserved : goal.loop-b-preserved
loop-b-preserved c =
    let inv = c.loop-b.invariant in
    let t = c.len-threads.result in
    let n = c.loop-b.b in
    let cards = c.loop-b.seats.items in
    let v = c.index_mut.result.now in
    let x = c.take_next-seat.result in
    let long : length c.loop-b.hands.items ≡ t = grind (arith, common_steps) in
    let step : reverse v.items ≡ x ∷ reverse c.take_next-seat.new.list.items = grind (arith, common_steps) in
    let whole = map (λ (h : Vec Seat Global). reverse h.items) c.args.hands.now.items in
    let is = c.push_reserved.ensures.items in
    record {
      parts = set inv.parts (n % t) (hand inv.parts (n % t) ++ x ∷ []);
      len = inv.len;
      room = grind (arith, common_steps);
      count = grind (arith, common_steps);
      dealt = rw is (taken_more t n cards inv.parts inv.dealt inv.count x);
      turns = rw is (sum_more t n cards inv.parts inv.dealt inv.count (λ (s : Seat). s.turn) x inv.turns);
      whole = left_less t n cards inv.parts inv.dealt inv.count (λ (h : Vec Seat Global). reverse h.items) c.args.count c.loop-b.hands.items v whole long c.index_mut.ensures.value inv.whole c.take_next-seat.new.list x step;
    }

pub returns-clause-turns : goal.returns-clause-turns
returns-clause-turns c =
    let inv = c.loop-b.invariant in
    let t = c.len-threads.result in
    let t_is : vec_len c.args.hands.now ≡ t = grind (arith, common_steps) in
    let whole = map (λ (h : Vec Seat Global). reverse h.items) c.args.hands.now.items in
    let left = map (λ (h : Vec Seat Global). reverse h.items) c.loop-b.hands.items in
    let are : AreHands t c.args.count whole = subst (λ k. AreHands k c.args.count whole) t_is c.requires.hands in
    let all : length c.loop-b.seats.items ≡ c.args.count = grind (arith, common_steps) in
    let taken : AreHands t c.args.count inv.parts = subst (λ k. AreHands t k inv.parts) all inv.dealt.shape in
    inv.turns ∙ ap (sum_by turns_of) (all_taken t c.args.count inv.parts left whole taken are inv.whole)
