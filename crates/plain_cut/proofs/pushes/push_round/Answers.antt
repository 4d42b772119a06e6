use Rattle.std.proofs.Common.{arith, inl, inr, ◌≡◌, slice_index}
use Rattle.std.proofs.lemmas.Bool.{cases_lt}
use Rattle.std.proofs.lemmas.List.{get_or_read}
use Rattle.plain_cut.proofs.Steps.{steps_more}
use Rattle.plain_cut.proofs.Passes.{spent_round}
use Rattle.plain_cut.proofs.pushes.push_round.Goals as goal

pub returns-in_ok-stop-2-clause-steps : goal.returns-in_ok-stop-2-clause-steps
returns-in_ok-stop-2-clause-steps c =
    steps_more c.args.net.now c.args.v c.args.work.now c.push_places.new.work c.push_places-then-index-gt0.new.work c.in_ok-stop.ensures.steps c.in_ok-stop-2.ensures.steps

-- each direction stands behind the place of the stop, or before it
pub returns-in_ok-stop-2-clause-spent : goal.returns-in_ok-stop-2-clause-spent
returns-in_ok-stop-2-clause-spent c = λ p place.
    let v = c.args.v in
    let old = c.args.work.now in
    let first : c.index-first.result.now ≡ slice_index old.rows.starts.items v =
    get_or_read old.rows.starts.items v c.index-first.result.now (omega (arith, c.requires.work.shown.starts_len, c.requires.node)) c.index-first.ensures 0 in
    let last : c.index-last.result.now ≡ slice_index old.rows.ends.items v =
    get_or_read old.rows.ends.items v c.index-last.result.now (omega (arith, c.requires.work.shown.ends_len, c.requires.node)) c.index-last.ensures 0 in
    elim (cases_lt p c.min-from.result) [
      | inl before ↦ c.in_ok-stop-2.ensures.spent p (omega (arith, place.0, first)) before
      | inr behind ↦
          spent_round v c.min-from.result p old c.push_places.new.work c.push_places-then-index-gt0.new.work c.index-first.result.now
          c.in_ok-stop.ensures.push c.in_ok-stop-2.ensures.push c.in_ok-stop-2.ensures.others behind place
          (c.in_ok-stop.ensures.spent p behind (omega (arith, place.1, last)))
    ]
