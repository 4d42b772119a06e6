use Rattle.std.proofs.Common.{◌∙◌, ℕ, List, Result, length, sym, ap, subst, IfOk, arith}
use Rattle.near_changes.specs.SideBySide.{AreZeroCodes, seen_start}
use Rattle.near_changes.proofs.Codes.{zeros_joined}
use Rattle.near_changes.proofs.join.join_parts.Goals as goal

pub loop-part-preserved : goal.loop-part-preserved
loop-part-preserved c = record {
  count = c.join_part.ensures.count ∙ c.loop-part.invariant.count;
  zeros = λ m move f sites known parts.
      let a = c.args in
      let j = c.loop-part.part in
      let is = sym c.index-parts-part.is ∙ c.in-Ok.is in
      let P : Result _ _ → Type 0 = λ r. IfOk r (λ v. AreZeroCodes m move f (seen_start (length a.choices.now.items) a.sizes j) v.items) in
      let told = subst P is (parts j c.index-parts-part.result c.loop-part-test.true) in
      let from = c.seen_window-seen.ensures.from ∙ ap (λ n. seen_start n a.sizes j) (omega (arith, c.len.ensures, c.loop-part.invariant.count)) in
      let Q : ℕ → Type 0 = λ k. AreZeroCodes m move f k c.in-Ok.codes.items in
      let R : List ℕ → Type 0 = λ ks. AreZeroCodes m move f c.seen_window-seen.result.from ks in
      zeros_joined m move f c.loop-part.choices.items c.join_part.new.choices.items c.seen_window-seen.result.from c.deref.result.now
      (c.loop-part.invariant.zeros m move f sites known parts)
      (subst R (sym c.deref.ensures.value) (subst Q (sym from) told)) c.join_part.ensures.zeros;
}
