use Rattle.std.proofs.Common.{suc, ◌≡◌, ◌∙◌, ◌+◌, ◌≤◌, ℕ, ℤ, List, All, length, take, vec_len, unsigned_abs, ap, sym, subst, arith}
use Rattle.std.proofs.lemmas.List.{take_all, length-map}
use Rattle.flow_network.specs.declared.arc.Arc.{Arc}
use Rattle.flow_network.specs.Cut.{IsArc}
use Rattle.sink_distances.specs.Laid.{arc_standing}
use Rattle.compile_cut.specs.Weights.{weights_size, arcs_size, IsAbove}
use Rattle.strip_nets.specs.RowForms.{arcs_in}
use Rattle.strip_nets.proofs.Writing.{first_low, second_low, next_arc, written_value, written_size, skipped_value, skipped_size, one_more, arc_of}
use Rattle.strip_nets.proofs.sides.write_form.Goals as goal
use Rattle.strip_nets.proofs.sides.write_form.Goals.{then-arc-gt0+in_ok-push, else-arc-gt0}

pub arc-arc-requires-clause-near : goal.arc-arc-requires-clause-near
arc-arc-requires-clause-near c = first_low _ _ c.args.form.now c.loop-index.index c.requires.laid.2 (omega (arith, c.loop-index-test.true, c.len-index-end.ensures, c.args.form.now.laying.firsts.ok.0))

pub arc-arc-requires-clause-far : goal.arc-arc-requires-clause-far
arc-arc-requires-clause-far c = second_low _ _ c.args.form.now c.loop-index.index c.requires.laid.2 (omega (arith, c.loop-index-test.true, c.len-index-end.ensures, c.args.form.now.laying.firsts.ok.0))

pub loop-index-preserved : goal.loop-index-preserved
loop-index-preserved c =
    let form = c.args.form.now in
    let k = c.loop-index.index in
    let l = let r : suc k ≤ length form.laying.firsts.items = omega (arith, c.loop-index-test.true, c.len-index-end.ensures, form.laying.firsts.ok.0) in r in
    let arc = c.arc-arc.result in
    let is = c.arc-arc.ensures in
    let next = next_arc form k arc l is in
    let old = c.loop-index.written in
    let i = c.loop-index.invariant in
    elim c.if-arc-gt0.branch [
      | then-arc-gt0+in_ok-push w ↦ rw w.written-is (record {
        constant = i.constant;
        weights = i.weights;
        value = λ x. written_value old.arcs.items w.push.new.self.items (take k (arcs_in form)) (take (k + 1) (arcs_in form)) arc x w.in_ok-push.ensures.items next (i.value x);
        size = written_size old.arcs.items w.push.new.self.items (take k (arcs_in form)) (take (k + 1) (arcs_in form)) arc w.in_ok-push.ensures.items next i.size;
        arcs = λ n all. subst (All (IsArc n)) (sym w.in_ok-push.ensures.items) (one_more (IsArc n) old.arcs.items arc (i.arcs n all) (arc_of n form k arc l is all));
        above = subst (All IsAbove) (sym w.in_ok-push.ensures.items) (one_more IsAbove old.arcs.items arc i.above w.if-arc-gt0.true);
      })
      | else-arc-gt0 w ↦ rw w.written-is (record {
        constant = i.constant;
        weights = i.weights;
        value = λ x. skipped_value old.arcs.items (take k (arcs_in form)) (take (k + 1) (arcs_in form)) arc x w.if-arc-gt0.false next (i.value x);
        size = skipped_size old.arcs.items (take k (arcs_in form)) (take (k + 1) (arcs_in form)) arc w.if-arc-gt0.false next i.size;
        arcs = i.arcs;
        above = i.above;
      })
    ]

pub returns-clause-bounded : goal.returns-clause-bounded
returns-clause-bounded c =
    let form = c.args.form.now in
    let h = c.requires.laid.2 in
    let i = c.loop-index.invariant in
    let new = c.loop-index.written in
    let all : take c.loop-index.index (arcs_in form) ≡ arcs_in form =
    take_all c.loop-index.index (arcs_in form) (omega (arith, c.loop-index-test.false, c.len-index-end.ensures, form.laying.firsts.ok.0, length-map form.laying.firsts.items (arc_standing form.laying.cells.items))) in
    let many : vec_len new.weights ≡ c.requires.laid.0 = new.weights.ok.0 ∙ ap (length {A = ℤ}) i.weights ∙ sym form.weights.ok.0 ∙ h.nodes in
    record {
      constant = omega (arith, ap unsigned_abs i.constant);
      size = omega (arith, ap (λ (ws : List ℤ). weights_size ws) i.weights, i.size, ap (λ (xs : List Arc). arcs_size xs) all, h.size);
      arcs = subst (λ (n : ℕ). All (IsArc n) new.arcs.items) (sym many) (i.arcs c.requires.laid.0 h.arcs_are);
      above = i.above;
    }
