use Rattle.std.proofs.Common.{◌≡◌, ℕ, ◌+◌, ◌-◌, ◌*◌, ◌<◌, ◌∙◌, sym, arith, length, get_or, take, drop}
use Rattle.std.specs.Prelude.{min}
use Rattle.std.proofs.Math.ListN.{length-take, length-drop}
use Rattle.std.proofs.lemmas.Nat.{row_fits}
use Rattle.std.proofs.lemmas.List.{get_or-take, get_or-drop}
use borrow.Author.Count.{below_more}
use Rattle.message_bound.specs.Costs.{square_apart}
use Rattle.message_bound.proofs.costs.square_of.Goals as goal

pub loop-first-preserved : goal.loop-first-preserved
loop-first-preserved c = λ a b la lb.
    let w = c.args.labels in
    let costs = c.args.costs.now in
    let from = c.loop-first.first * w in
    let n = from + w - from in
    let fits = row_fits c.loop-first.first w w w c.loop-first-test.true (omega arith) in
    let own = λ (k : ℕ) (lk : k < w).
    let inside : k < length (take n (drop from costs)) = omega (arith, length-take n (drop from costs), length-drop from costs, fits, lk, c.requires.size) in
    sym (get_or-drop from costs k 0) ∙ sym (get_or-take n (drop from costs) k 0 (omega (arith, lk)))
    ∙ c.row_is_square.ensures c.if-not-row_is_square.false k inside in
    below_more (λ r. (k : ℕ) → k < w → get_or costs (r * w + k) 0 ≡ min (get_or costs 1 0 * square_apart r k) (get_or costs (w - 1) 0)) c.loop-first.first
    (λ r lr k lk. c.loop-first.invariant r k lr lk) own a la b lb
