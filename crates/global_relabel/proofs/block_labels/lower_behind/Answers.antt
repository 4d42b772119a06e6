use Rattle.std.proofs.Common.{◌≡◌, ℕ, ◌+◌, ◌<◌, slice_index, refl, sym, ap, subst, arith}
use Rattle.block_net.specs.Views.{CellsView, count, lane_in}
use Rattle.block_net.specs.Whole.{Whole, block_at}
use Rattle.block_split.specs.Split.{whole_of}
use Rattle.net_in_blocks.specs.Views.{IsSpot, blocks_in}
use Rattle.net_in_blocks.proofs.Steps.{at_read}
use Rattle.sink_distances.specs.Search.{found_of}
use Rattle.global_relabel.specs.Lowering.{FallsTo, StepsWithin}
use Rattle.global_relabel.proofs.Homing.{spot_at}
use Rattle.global_relabel.proofs.Places.{lane_at_place, lane_place}
use Rattle.global_relabel.proofs.Falling.{falls_none, falls_more, falls_low, falls_keep, falls_for, steps_back, labelled_none, labelled_more, labelled_all, far_of_lane, far_below}
use Rattle.global_relabel.proofs.block_labels.lower_behind.Goals as goal

pub lanes-init : goal.lanes-init
lanes-init c =
    let w : Whole = whole_of c.args.split.now.net.now c.args.split.now.parts.now in
    let b = c.args.block in
    let B = c.index-cells.result.now in
    let q = c.args.place in
    let at = at_read w (blocks_in w) b B c.requires.laid refl c.requires.block c.index-cells.ensures in
    let u = slice_index w.firsts b + q in
    let lq : q < count (block_at w b) = omega (arith, c.requires.place, c.requires.labels) in
    let spot : IsSpot w u b q = spot_at w c.requires.laid b c.requires.block q lq in
    let s = found_of c.args.labels.now c.args.queue.now c.args.end in
    record {
      falls = falls_none c.saturating_add-label.result (λ v. StepsWithin w b v q) s (record {
        queue = c.requires.ready.queue;
        below = λ i l. omega (arith, c.requires.ready.below i l, c.saturating_add-label.ensures, c.type_inv.labels (slice_index c.args.queue.now i));
      });
      given = λ v l. omega (arith, l, c.saturating_add-label.ensures, c.type_inv.labels v);
      labelled = labelled_none w u c.range-range.result.0 c.saturating_add-label.result c.args.labels.now
          (λ x l leaves out. omega (arith, (lane_place w b B u q at spot x l leaves out).0, c.range-range.ensures.first));
    }

pub lower_far-end-requires-clause-opposite : goal.lower_far-end-requires-clause-opposite
lower_far-end-requires-clause-opposite c =
    let w : Whole = whole_of c.args.split.now.net.now c.args.split.now.parts.now in
    let b = c.args.block in
    let B = c.index-cells.result.now in
    let q = c.args.place in
    let at = at_read w (blocks_in w) b B c.requires.laid refl c.requires.block c.index-cells.ensures in
    let u = slice_index w.firsts b + q in
    let lq : q < count (block_at w b) = omega (arith, c.requires.place, c.requires.labels) in
    let spot : IsSpot w u b q = spot_at w c.requires.laid b c.requires.block q lq in
    let j = c.lanes.j in
    let found = lane_at_place w b B u q at spot j (omega (arith, c.lanes.auto.j, c.range-range.ensures.first)) (omega (arith, c.lanes-test.true, c.range-range.ensures.end)) in
    found.2.back

pub lower_far-end-requires-clause-node : goal.lower_far-end-requires-clause-node
lower_far-end-requires-clause-node c =
    let w : Whole = whole_of c.args.split.now.net.now c.args.split.now.parts.now in
    let b = c.args.block in
    let B = c.index-cells.result.now in
    let q = c.args.place in
    let at = at_read w (blocks_in w) b B c.requires.laid refl c.requires.block c.index-cells.ensures in
    let u = slice_index w.firsts b + q in
    let lq : q < count (block_at w b) = omega (arith, c.requires.place, c.requires.labels) in
    let spot : IsSpot w u b q = spot_at w c.requires.laid b c.requires.block q lq in
    let j = c.lanes.j in
    let found = lane_at_place w b B u q at spot j (omega (arith, c.lanes.auto.j, c.range-range.ensures.first)) (omega (arith, c.lanes-test.true, c.range-range.ensures.end)) in
    omega (arith, far_below w b B u q j found.0 at spot found.1, c.requires.labels, c.lanes.invariant.falls.len, ap (λ (z : CellsView). count z) at.is)

pub lanes-preserved : goal.lanes-preserved
lanes-preserved c =
    let w : Whole = whole_of c.args.split.now.net.now c.args.split.now.parts.now in
    let b = c.args.block in
    let B = c.index-cells.result.now in
    let q = c.args.place in
    let at = at_read w (blocks_in w) b B c.requires.laid refl c.requires.block c.index-cells.ensures in
    let u = slice_index w.firsts b + q in
    let lq : q < count (block_at w b) = omega (arith, c.requires.place, c.requires.labels) in
    let spot : IsSpot w u b q = spot_at w c.requires.laid b c.requires.block q lq in
    let j = c.lanes.j in
    let found = lane_at_place w b B u q at spot j (omega (arith, c.lanes.auto.j, c.range-range.ensures.first)) (omega (arith, c.lanes-test.true, c.range-range.ensures.end)) in
    let inv = c.lanes.invariant in
    let new = c.lower_far-end.ensures in
    let label = c.saturating_add-label.result in
    let R : ℕ → Type 0 = λ v. StepsWithin w b v q in
    let R' : ℕ → Type 0 = λ v. (v ≡ (lane_in B j).far) × (0 < (lane_in B (lane_in B j).opposite).residual) in
    let s = found_of c.lanes.labels c.lanes.queue c.lanes.end in
    let t = found_of c.lower_far-end.new.labels c.lower_far-end.new.queue c.lower_far-end.result in
    let fell : FallsTo label R s t = falls_for label label R' R s t (omega arith) (λ v l. refl)
    (λ v why. subst (λ u. StepsWithin w b u q) (sym why.0) (steps_back w b B u q j found.0 at spot found.1 (omega (arith, why.1, found.2.residual)))) new.falls in
    record {
      falls = falls_more label R (found_of c.args.labels.now c.args.queue.now c.args.end) s t inv.falls fell;
      given = inv.given;
      labelled = labelled_more w u j label (lane_in B j).far (lane_in B (lane_in B j).opposite).residual c.lanes.labels c.lower_far-end.new.labels found.0
          c.requires.laid.placed inv.labelled (falls_low label R s t fell) found.1 (far_of_lane w b B u q j found.0 at spot found.1).place found.2.residual new.low;
    }

pub returns-clause-falls : goal.returns-clause-falls
returns-clause-falls c =
    let w : Whole = whole_of c.args.split.now.net.now c.args.split.now.parts.now in
    let R : ℕ → Type 0 = λ v. StepsWithin w c.args.block v c.args.place in
    let label = c.saturating_add-label.result in
    falls_for label (slice_index c.args.labels.now c.args.place + 1) R R (found_of c.args.labels.now c.args.queue.now c.args.end)
    (found_of c.lanes.labels c.lanes.queue c.lanes.end) (omega (arith, c.saturating_add-label.ensures))
    c.lanes.invariant.given (λ v why. why) c.lanes.invariant.falls

pub returns-clause-tight : goal.returns-clause-tight
returns-clause-tight c =
    let w : Whole = whole_of c.args.split.now.net.now c.args.split.now.parts.now in
    let b = c.args.block in
    let B = c.index-cells.result.now in
    let q = c.args.place in
    let at = at_read w (blocks_in w) b B c.requires.laid refl c.requires.block c.index-cells.ensures in
    let u = slice_index w.firsts b + q in
    let lq : q < count (block_at w b) = omega (arith, c.requires.place, c.requires.labels) in
    let spot : IsSpot w u b q = spot_at w c.requires.laid b c.requires.block q lq in
    let own = falls_keep c.saturating_add-label.result (λ v. StepsWithin w b v q) (found_of c.args.labels.now c.args.queue.now c.args.end)
    (found_of c.lanes.labels c.lanes.queue c.lanes.end) c.lanes.invariant.falls q (omega (arith, c.saturating_add-label.ensures)) in
    labelled_all w c.requires.laid b c.requires.block q c.lanes.j c.saturating_add-label.result c.lanes.labels c.lanes.invariant.labelled
    (omega (arith, own, c.saturating_add-label.ensures))
    (λ x l leaves out. omega (arith, (lane_place w b B u q at spot x l leaves out).1, c.range-range.ensures.end, c.lanes-test.false))
