use Rattle.std.proofs.Common.{◌≡◌, ◌+◌, ◌<◌, ◌≤◌, ◌∙◌, length, sym, ap, subst, arith}
use Rattle.node_buckets.specs.Circles.{without_link, with_link, after_left}
use Rattle.node_buckets.specs.Standing.{BucketsView, row_count, aside}
use Rattle.node_buckets.proofs.Linking.{two_length}
use Rattle.node_buckets.proofs.Moving.{stood_rows, held_rows, whole}
use Rattle.node_buckets.proofs.buckets.Buckets.stand.Goals as goal

pub relink-requires-clause-small : goal.relink-requires-clause-small
relink-requires-clause-small c = omega (arith, ap length c.as_mut_slice.ensures.value, c.self.invariant.size, c.self.invariant.small)

pub invariant_of-self : goal.invariant_of-self
invariant_of-self c =
    let v = c.args.node in
    let rows = c.self.inside.rows.items in
    let next = c.self.inside.next.items in
    let prev = c.self.inside.prev.items in
    let lv : v < length rows = subst (λ (s : BucketsView). v < row_count s) (sym c.self.view_is) c.requires.node in
    let lr : c.args.row ≤ c.self.inside.buckets = subst (λ (s : BucketsView). c.args.row ≤ aside s) (sym c.self.view_is) c.requires.row in
    let s = length rows + c.args.row in
    let place : c.len.result + c.args.row ≡ s = omega (arith, c.len.ensures, c.self.inside.rows.ok.0) in
    let w = after_left next prev s v in
    let en : c.relink.new.next ≡ with_link (without_link next prev v) s v w = rw (place, c.as_mut_slice.ensures.value, c.as_mut_slice-2.ensures.value) at c.relink.ensures.next in
    let ep : c.relink.new.prev ≡ with_link (without_link prev next v) w v s = rw (place, c.as_mut_slice.ensures.value, c.as_mut_slice-2.ensures.value) at c.relink.ensures.prev in
    let ln = whole next c.relink.new.next c.self.inside.next.len (omega (arith, c.as_mut_slice.ensures.len, ap length c.as_mut_slice.ensures.value))
    (ap length en ∙ (two_length (without_link next prev v) s v v w ∙ two_length next _ _ v v)) in
    let lp = whole prev c.relink.new.prev c.self.inside.prev.len (omega (arith, c.as_mut_slice-2.ensures.len, ap length c.as_mut_slice-2.ensures.value))
    (ap length ep ∙ (two_length (without_link prev next v) w v v s ∙ two_length prev _ _ v v)) in
    let told = c.top_with-self-inside.ensures in
    held_rows _ _ _ _ _ _ _ (ln ∙ en) (lp ∙ ep) (stood_rows _ _ _ c.args.row rows next prev v lv lr told.low told.high told.covers c.self.invariant)
