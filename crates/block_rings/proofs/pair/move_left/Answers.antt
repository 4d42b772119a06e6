use Rattle.std.proofs.Common.{◌≡◌, ◌+◌, length, refl, ◌∙◌, ap, subst, arith}
use Rattle.std.proofs.lemmas.Grind.{common_steps}
use Rattle.std.proofs.lemmas.List.{length-map}
use Rattle.block_discharge.specs.declared.letter.Letter.{Letter}
use Rattle.block_workers.specs.Ports.{letters_waiting}
use Rattle.block_rings.specs.Left.{AreKeptByWays}
use Rattle.block_rings.proofs.Moving.{left_is, same_port, some_first, long_more, kept_more, square_more, left_more, kept_tail, moved_all, taken_on, all_out}
use Rattle.block_rings.proofs.pair.move_left.Goals as goal

pub loop-init : goal.loop-init
loop-init c =
    let is = left_is _ _ _ c.see_left-count.ensures.left in
    let long = ap length is ∙ length-map (letters_waiting c.see_left-count.new.to) (λ (l : Letter). l.message) in
    let room = c.requires.room in
    record {
      kept = grind (arith, common_steps);
      rooms = refl;
      square = c.requires.square;
      left = refl;
      rest = omega arith;
      room = omega (arith, room, long);
      arcs = subst AreKeptByWays is c.requires.arcs;
      same = same_port c.see_left-count.new.to;
      put = refl;
      all = refl;
    }

pub take-requires : goal.take-requires
take-requires c =
    let rest = c.loop.invariant.rest in
    let count = c.see_left-count.ensures.count in
    let more = c.loop-test.true in
    some_first (letters_waiting c.loop.to) (omega (arith, rest, count, more))

pub loop-preserved : goal.loop-preserved
loop-preserved c =
    let was = c.loop.invariant in
    let old = c.loop.ways.messages in
    let new = c.put.new.self.messages in
    let m = c.take.result.message in
    let front = c.take.ensures.taken.waiting in
    let low_b = c.requires.first in
    let low_c = c.requires.second in
    let put = c.put.ensures.messages in
    let first = c.args.ways.now.messages in
    let shorter : length (letters_waiting c.loop.to) ≡ length (letters_waiting c.take.new.self) + 1 = (let e = ap length front in omega (arith, e)) in
    let longer = long_more first old new c.args.b c.args.c m was.square low_b low_c put in
    record {
      kept = kept_more first old new c.args.b c.args.c m was.square low_b low_c put was.kept;
      rooms = c.put.ensures.rooms ∙ was.rooms;
      square = square_more first old new c.args.b c.args.c m was.square low_b low_c put;
      left = left_more first old new c.args.b c.args.c m was.square low_b low_c put c.take.result _ _ _ front refl was.left;
      rest = (let before = was.rest in omega (arith, before, shorter));
      room = (let before = was.room in let rooms = c.put.ensures.rooms in grind (arith, common_steps));
      arcs = kept_tail c.take.result _ _ front was.arcs;
      same = grind (arith, common_steps);
      put = c.take.ensures.taken.put ∙ was.put;
      all = taken_on _ _ _ _ _ c.take.result c.take.ensures.taken.taken front was.all;
    }

pub returns-clause-messages : goal.returns-clause-messages
returns-clause-messages c =
    let was = c.loop.invariant in
    let rest = was.rest in
    let count = c.see_left-count.ensures.count in
    let done = c.loop-test.false in
    let none : length (letters_waiting c.loop.to) ≡ 0 = omega (arith, rest, count, done) in
    moved_all c.args.ways.now.messages c.loop.ways.messages c.args.b c.args.c (letters_waiting c.loop.to) (letters_waiting c.see_left-count.new.to) _ _ was.kept was.left none c.see_left-count.ensures.left

pub returns-clause-drained : goal.returns-clause-drained
returns-clause-drained c =
    let was = c.loop.invariant in
    let seen = c.see_left-count.ensures in
    let rest = was.rest in
    let count = seen.count in
    let done = c.loop-test.false in
    let none : length (letters_waiting c.loop.to) ≡ 0 = omega (arith, rest, count, done) in
    all_out _ _ _ _ _ _ _ seen.from.put seen.left seen.to.taken was.all none
