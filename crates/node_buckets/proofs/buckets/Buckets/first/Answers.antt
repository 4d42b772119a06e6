use Rattle.std.proofs.Common.{◌≡◌, ◌+◌, ◌<◌, ◌≤◌, ◌∙◌, length, slice_index, sym, ap, subst, arith}
use Rattle.std.proofs.lemmas.List.{get_or_read}
use Rattle.node_buckets.specs.Standing.{BucketsView, row_count, row_in, aside, IsEmpty}
use Rattle.node_buckets.proofs.Moving.{none_stands, first_stands}
use Rattle.node_buckets.proofs.buckets.Buckets.first.Goals as goal

pub returns-then-first-len : goal.returns-then-first-len
returns-then-first-len c =
    let h = c.self.invariant in
    let rows = c.self.inside.rows.items in
    let next = c.self.inside.next.items in
    let lr : c.args.row ≤ c.self.inside.buckets = subst (λ (s : BucketsView). c.args.row ≤ aside s) (sym c.self.view_is) c.requires in
    let place : c.len.result + c.args.row ≡ length rows + c.args.row = omega (arith, c.len.ensures, c.self.inside.rows.ok.0) in
    let read = get_or_read next _ c.index.result.now (omega (arith, place, h.size, lr)) c.index.ensures 0 ∙ ap (slice_index next) place in
    let node : slice_index next (length rows + c.args.row) < length rows = omega (arith, read, c.if-first-len.true, c.len-2.ensures, c.self.inside.rows.ok.0) in
    subst (λ (s : BucketsView). (c.index.result.now < row_count s) × (row_in s c.index.result.now ≡ c.args.row)) c.self.view_is
    (omega (arith, node, read), ap (slice_index rows) read ∙ first_stands _ _ rows next _ _ h lr node)

pub returns-else-first-len : goal.returns-else-first-len
returns-else-first-len c =
    let h = c.self.invariant in
    let rows = c.self.inside.rows.items in
    let next = c.self.inside.next.items in
    let lr : c.args.row ≤ c.self.inside.buckets = subst (λ (s : BucketsView). c.args.row ≤ aside s) (sym c.self.view_is) c.requires in
    let place : c.len.result + c.args.row ≡ length rows + c.args.row = omega (arith, c.len.ensures, c.self.inside.rows.ok.0) in
    let read = get_or_read next _ c.index.result.now (omega (arith, place, h.size, lr)) c.index.ensures 0 ∙ ap (slice_index next) place in
    let past : length rows ≤ slice_index next (length rows + c.args.row) = omega (arith, read, c.if-first-len.false, c.len-2.ensures, c.self.inside.rows.ok.0) in
    subst (λ (s : BucketsView). IsEmpty s c.args.row) c.self.view_is (none_stands _ _ rows next _ _ h lr past)
