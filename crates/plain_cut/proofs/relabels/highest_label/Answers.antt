use Rattle.std.proofs.Common.{arith, inl, inr, ◌≡◌, slice_index}
use Rattle.std.proofs.lemmas.Bool.{cases_lt}
use Rattle.std.proofs.lemmas.List.{get_or_read}
use Rattle.sink_distances.specs.Rows.{IsPlace}
use Rattle.plain_cut.proofs.relabels.highest_label.Goals as goal

pub lower-least-requires-clause-place : goal.lower-least-requires-clause-place
lower-least-requires-clause-place c =
    let first : c.index-p.result.now ≡ slice_index c.args.work.now.rows.starts.items c.args.v =
    get_or_read c.args.work.now.rows.starts.items c.args.v c.index-p.result.now (omega (arith, c.requires.work.shown.starts_len, c.requires.node)) c.index-p.ensures 0 in
    let last : c.index-p-end.result.now ≡ slice_index c.args.work.now.rows.ends.items c.args.v =
    get_or_read c.args.work.now.rows.ends.items c.args.v c.index-p-end.result.now (omega (arith, c.requires.work.shown.ends_len, c.requires.node)) c.index-p-end.ensures 0 in
    (omega (arith, first, c.row.auto.p), omega (arith, last, c.row-test.true))

pub row-preserved : goal.row-preserved
row-preserved c =
    let p = c.row.p in
    let told = c.lower-least.ensures in
    let first : c.index-p.result.now ≡ slice_index c.args.work.now.rows.starts.items c.args.v =
    get_or_read c.args.work.now.rows.starts.items c.args.v c.index-p.result.now (omega (arith, c.requires.work.shown.starts_len, c.requires.node)) c.index-p.ensures 0 in
    let last : c.index-p-end.result.now ≡ slice_index c.args.work.now.rows.ends.items c.args.v =
    get_or_read c.args.work.now.rows.ends.items c.args.v c.index-p-end.result.now (omega (arith, c.requires.work.shown.ends_len, c.requires.node)) c.index-p-end.ensures 0 in
    let place : IsPlace c.args.work.now.rows c.args.v p = (omega (arith, first, c.row.auto.p), omega (arith, last, c.row-test.true)) in
    record {
      rises = elim told.one [
        | inl same ↦ omega (arith, same, c.row.invariant.rises)
        | inr one ↦ omega (arith, one.1, c.requires.stuck.row p place one.0)
      ];
      fits = omega (arith, told.lower, c.row.invariant.fits);
      row = λ q from below room. elim (cases_lt q p) [
        | inl before ↦ omega (arith, c.row.invariant.row q from before room, told.lower)
        | inr after ↦
            let same : q ≡ p = omega (arith, below, after) in
            rw same (told.lowest (rw same at room))
      ];
    }

pub returns : goal.returns
returns c =
    let last : c.index-p-end.result.now ≡ slice_index c.args.work.now.rows.ends.items c.args.v =
    get_or_read c.args.work.now.rows.ends.items c.args.v c.index-p-end.result.now (omega (arith, c.requires.work.shown.ends_len, c.requires.node)) c.index-p-end.ensures 0 in
    record {
      rises = c.row.invariant.rises;
      lowest = record {
        fits = c.row.invariant.fits;
        sinks = λ room. absurd (omega (arith, room, c.requires.stuck.sinks));
        row = λ q place room. c.row.invariant.row q place.0 (omega (arith, place.1, last, c.row-test.false)) room;
      };
      limits = c.top_label-least.ensures.limits;
    }
