use Rattle.std.proofs.Common.{◌≡◌, ◌<◌, ◌∙◌, length, sym, ap, subst, arith}
use Rattle.node_buckets.specs.Circles.{without_link}
use Rattle.node_buckets.specs.Standing.{BucketsView, row_count}
use Rattle.node_buckets.proofs.Linking.{two_length}
use Rattle.node_buckets.proofs.Moving.{left_rows, held_rows, whole}
use Rattle.node_buckets.proofs.buckets.Buckets.remove.Goals as goal

pub unlink-requires-clause-small : goal.unlink-requires-clause-small
unlink-requires-clause-small c = omega (arith, ap length c.as_mut_slice.ensures.value, c.self.invariant.size, c.self.invariant.small)

pub invariant_of-self : goal.invariant_of-self
invariant_of-self c =
    let v = c.args.node in
    let next = c.self.inside.next.items in
    let prev = c.self.inside.prev.items in
    let lv : v < length c.self.inside.rows.items = subst (λ (s : BucketsView). v < row_count s) (sym c.self.view_is) c.requires in
    let en : c.unlink.new.next ≡ without_link next prev v = rw (c.as_mut_slice.ensures.value, c.as_mut_slice-2.ensures.value) at c.unlink.ensures.next in
    let ep : c.unlink.new.prev ≡ without_link prev next v = rw (c.as_mut_slice.ensures.value, c.as_mut_slice-2.ensures.value) at c.unlink.ensures.prev in
    let ln = whole next c.unlink.new.next c.self.inside.next.len (omega (arith, c.as_mut_slice.ensures.len, ap length c.as_mut_slice.ensures.value)) (ap length en ∙ two_length next _ _ v v) in
    let lp = whole prev c.unlink.new.prev c.self.inside.prev.len (omega (arith, c.as_mut_slice-2.ensures.len, ap length c.as_mut_slice-2.ensures.value)) (ap length ep ∙ two_length prev _ _ v v) in
    held_rows _ _ _ _ _ _ _ (ln ∙ en) (lp ∙ ep) (left_rows _ _ _ next prev v lv c.self.invariant)
