use Rattle.std.proofs.Common.{◌≡◌, ℕ, ◌+◌, ◌-◌, ◌*◌, ◌<◌, ◌≤◌, ◌∙◌, arith, length, get_or}
use Rattle.std.proofs.lemmas.Nat.{row_fits, mul-add-lt}
use Rattle.std.proofs.Math.Nat.{mul_comm}
use borrow.Author.Count.{below_more}
use borrow.Rule.Slice.PartMut.{put_mid}
use Rattle.message_bound.specs.Costs.{parts}
use Rattle.message_bound.proofs.Filled.{kept_below, put_there}
use Rattle.message_bound.proofs.tables.fill.Goals as goal

pub loop-first-preserved : goal.loop-first-preserved
loop-first-preserved g c = λ m meant a b la lb.
    let w = c.args.problem.now.data_cost.labels in
    let xs = c.loop-first.entries in
    let ys = c.fill_row.new.row in
    let row = c.loop-first.first in
    let from = row * w in
    let n = from + w - from in
    let fits = row_fits row w w w c.loop-first-test.true (omega arith) in
    let inside : from ≤ length xs = omega (arith, fits, c.loop-first.auto.entries, c.requires.size) in
    let kept = λ (r : ℕ) (lr : r < row) (k : ℕ) (lk : k < w).
    kept_below from n xs ys (r * w + k) inside (omega (arith, mul-add-lt r w k row lr lk, mul_comm w row)) ∙ c.loop-first.invariant m meant r k lr lk in
    let own = λ (k : ℕ) (lk : k < w).
    put_there from n xs ys k inside (omega (arith, c.fill_row.auto.row)) (omega (arith, lk)) ∙ c.fill_row.ensures m meant k (omega (arith, lk, c.fill_row.auto.row)) in
    below_more (λ r. (k : ℕ) → k < w → get_or (put_mid from n xs ys) (r * w + k) 0 ≡ parts * m.smooth_cost c.args.weight r k) row kept own a la b lb
