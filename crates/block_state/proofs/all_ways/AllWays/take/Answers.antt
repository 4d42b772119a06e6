use Rattle.std.proofs.lemmas.Grind.{common_steps}
use Rattle.std.proofs.Common.{drop, List, [], refl, ap, arith}
use Rattle.std.specs.Vec.{with_item}
use Rattle.std.specs.VecDeque.{deque_capacity}
use Rattle.block_events.specs.declared.message.Message.{Message}
use Rattle.block_state.specs.AllWays.{AllWaysView}
use Rattle.block_state.proofs.Nested.{item_changed}
use Rattle.block_state.proofs.all_ways.AllWays.take.Goals as goal

pub returns-clause-messages : goal.returns-clause-messages
returns-clause-messages c =
    (item_changed (λ r. r.items) (λ w. w.items) (λ w. deque_capacity w) c.self.inside.rows.items c.args.self.now.messages c.args.self.now.rooms c.args.from c.args.to
    c.index_mut.result.now (with_item c.index_mut.result.now c.args.to c.pop_front.new.self) c.index_mut-2.result.now c.pop_front.new.self (λ (q : List Message). drop 1 q) []
    (ap (λ (v : AllWaysView). v.messages) c.self.view_is) (ap (λ (v : AllWaysView). v.rooms) c.self.view_is) c.requires.from c.requires.to c.index_mut.ensures.value c.index_mut-2.ensures.value refl
    c.pop_front.ensures.rest c.pop_front.ensures.capacity).0

pub returns-clause-rooms : goal.returns-clause-rooms
returns-clause-rooms c =
    (item_changed (λ r. r.items) (λ w. w.items) (λ w. deque_capacity w) c.self.inside.rows.items c.args.self.now.messages c.args.self.now.rooms c.args.from c.args.to
    c.index_mut.result.now (with_item c.index_mut.result.now c.args.to c.pop_front.new.self) c.index_mut-2.result.now c.pop_front.new.self (λ (q : List Message). drop 1 q) []
    (ap (λ (v : AllWaysView). v.messages) c.self.view_is) (ap (λ (v : AllWaysView). v.rooms) c.self.view_is) c.requires.from c.requires.to c.index_mut.ensures.value c.index_mut-2.ensures.value refl
    c.pop_front.ensures.rest c.pop_front.ensures.capacity).1

pub index_mut-requires : goal.index_mut-requires
index_mut-requires c = grind (arith, common_steps)

pub index_mut-requires-2 : goal.index_mut-requires-2
index_mut-requires-2 c = grind (arith, common_steps)
