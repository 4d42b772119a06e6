use Rattle.std.proofs.Common.{◌≡◌, ◌+◌, ◌<◌, ◌∙◌, ℕ, List, length, sym, ap, subst, arith, replicate}
use Rattle.node_buckets.proofs.Moving.{fresh_rows, held_rows, whole}
use Rattle.node_buckets.specs.Standing.{AreRows}
use Rattle.node_buckets.proofs.buckets.Buckets.clear.Goals as goal

pub part-requires : goal.part-requires
part-requires c = omega (arith, ap length c.as_mut_slice.ensures.value, c.self.invariant.size, c.self.invariant.small)

pub part-requires-2 : goal.part-requires-2
part-requires-2 c = omega (arith, ap length c.as_mut_slice-2.ensures.value, c.self.invariant.size, c.self.invariant.small, c.self.invariant.circles.size)

pub overflow_add-self-inside : goal.overflow_add-self-inside
overflow_add-self-inside c = omega (arith, c.self.invariant.small)

pub invariant_of-self : goal.invariant_of-self
invariant_of-self c =
    let h = c.self.invariant in
    let rows = c.self.inside.rows.items in
    let b = c.self.inside.buckets in
    let n = length rows in
    let filled : c.fill.new.self ≡ replicate (length c.as_mut_slice-3.result.now) (b + 1) = c.fill.ensures.after (λ y e. e) in
    let rows_len : length c.as_mut_slice-3.result.now ≡ n = ap length c.as_mut_slice-3.ensures.value in
    let next_len : length c.part.new.places ≡ length c.self.inside.next.items = c.part.ensures.size ∙ ap length c.as_mut_slice.ensures.value in
    let prev_len : length c.part-2.new.places ≡ length c.self.inside.prev.items = c.part-2.ensures.size ∙ ap length c.as_mut_slice-2.ensures.value in
    let lr = whole rows c.fill.new.self c.self.inside.rows.len (omega (arith, c.as_mut_slice-3.ensures.len, rows_len)) (c.fill.ensures.len ∙ rows_len) in
    let ln = whole c.self.inside.next.items c.part.new.places c.self.inside.next.len (omega (arith, c.as_mut_slice.ensures.len, ap length c.as_mut_slice.ensures.value)) next_len in
    let lp = whole c.self.inside.prev.items c.part-2.new.places c.self.inside.prev.len (omega (arith, c.as_mut_slice-2.ensures.len, ap length c.as_mut_slice-2.ensures.value)) prev_len in
    let some : 0 < b = omega (arith, h.top_in) in
    let made = fresh_rows b n c.fill.new.self c.part.new.places c.part-2.new.places (filled ∙ ap (λ (k : ℕ). replicate k (b + 1)) rows_len) some h.small (next_len ∙ h.size)
    (prev_len ∙ (h.circles.size ∙ h.size)) c.part.ensures.alone c.part-2.ensures.alone in
    held_rows _ _ _ _ _ _ _ ln lp (subst (λ (xs : List ℕ). AreRows 0 b xs c.part.new.places c.part-2.new.places) (sym lr) made)
