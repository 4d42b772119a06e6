use Rattle.std.proofs.Common.{◌<◌, [], length, map, ◌∙◌, ap, arith}
use Rattle.std.specs.VecDeque.{deque_capacity}
use Rattle.block_state.proofs.Nested.{opened_more, taken_more}
use Rattle.block_state.proofs.all_ways.AllWays.open.Goals as goal

pub rows-preserved : goal.rows-preserved
rows-preserved c =
    let l : c.rows.from < length c.args.rooms.now = omega (arith, c.len-from-end.ensures) in
    record {
      messages = rw c.in_ok-push.ensures.items (opened_more (λ row. map (λ way. way.items) row.items) (λ row. map (λ n. []) row) c.rows.rows.items c.in_ok-empty_ways.field-0 c.args.rooms.now c.rows.from c.rows.invariant.messages (c.in_ok-empty_ways.ensures.messages ∙ ap (map (λ n. [])) c.row.ensures) l);
      room = rw c.in_ok-push.ensures.items (taken_more (λ row. map (λ way. deque_capacity way) row.items) c.rows.rows.items c.in_ok-empty_ways.field-0 c.args.rooms.now c.rows.from c.rows.invariant.room (c.in_ok-empty_ways.ensures.rooms ∙ c.row.ensures) l);
    }
