use Rattle.std.proofs.Common.{arith, ap, refl, ◌≤◌, ◌+ℤ◌, w64, FitsSigned, to_z, length}
use Rattle.std.proofs.lemmas.Int.{to_z-of_z}
use Rattle.std.proofs.lemmas.List.{length-map}
use Rattle.pseudo_bool.specs.Energies.{Energy, term_value, assignment}
use Rattle.pseudo_bool.specs.Rows.{term_of}
use Rattle.pseudo_bool.proofs.RowLemmas.{row_is_term, sum_step, whole_sum}
use Rattle.pseudo_bool.proofs.energy.Energy.value.Goals as goal

pub value-total-requires-clause-term : goal.value-total-requires-clause-term
value-total-requires-clause-term c =
    let terms = rw (← c.as_slice-triples.ensures.value, ← c.deref-row-items.ensures.value) at c.self.invariant.0.terms in
    let variables = ap (λ (e : Energy). e.variables) c.self.view_is in
    rw (c.requires, ← variables)
    (row_is_term c.self.inside.variables c.as_slice-triples.result.now c.deref-row-items.result.now c.loop-row.row-index c.loop-row-test.true terms)

pub loop-row-preserved : goal.loop-row-preserved
loop-row-preserved c =
    let rows = c.deref-row-items.result.now in
    let ts = c.as_slice-triples.result.now in
    let count : length rows ≤ 8388608 = rw (c.deref-row-items.ensures.value) (omega (arith, length-map c.self.inside.rows.items (term_of c.self.inside.triples.items), c.self.invariant.0.count)) in
    let step = sum_step c.args.self.now.constant (to_z w64 c.loop-row.total-bits) c.value-total.result
    (λ row. term_value (assignment c.args.bits.now) (term_of ts row)) rows c.loop-row.row-index c.loop-row-test.true count
    c.loop-row.invariant.0 c.loop-row.invariant.1 c.value-total.ensures.value c.value-total.ensures.within in
    let part : FitsSigned w64 c.value-total.result = record { sfits = c.value-total.type_inv } in
    let sum : FitsSigned w64 (to_z w64 c.loop-row.total-bits +ℤ c.value-total.result) = step.fits in
    simp to_z-of_z (step.sum, step.small)

pub returns : goal.returns
returns c =
    let rows = rw (← c.as_slice-triples.ensures.value, ← c.deref-row-items.ensures.value) at (ap (λ (e : Energy). e.terms) c.self.view_is) in
    whole_sum c.args.self.now (assignment c.args.bits.now) c.as_slice-triples.result.now c.deref-row-items.result.now c.args.self.now.constant (to_z w64 c.loop-row.total-bits)
    c.loop-row.row-index refl rows c.loop-row-test.false c.loop-row.invariant.0
