use Rattle.std.proofs.Common.{refl, inl, inr}
use Rattle.cut_in_blocks.proofs.Taking.{Remembers, rows_step, taken_same}
use Rattle.cut_in_blocks.proofs.messages.take_all.Goals as goal
use Rattle.cut_in_blocks.proofs.messages.take_all.Goals.{then-take_row, else-take_row}

pub rows-preserved : goal.rows-preserved
rows-preserved c =
    let told : Remembers c.take_row.result c.rows.some c.if-take_row.some = elim c.if-take_row.branch [
      | then-take_row w ↦ inl (w.if-take_row.true, w.some-is)
      | else-take_row w ↦ inr (w.if-take_row.false, w.some-is)
    ] in
    rows_step c.args.state.now c.rows.state c.take_row.new.state c.rows.from c.rows.some c.take_row.result c.if-take_row.some c.rows.invariant.0 c.rows.invariant.1
    c.take_row.ensures.taken c.take_row.ensures.none told

pub returns-then-is_quiet-clause-taken : goal.returns-then-is_quiet-clause-taken
returns-then-is_quiet-clause-taken c = taken_same c.args.state.now c.args.state.now refl
