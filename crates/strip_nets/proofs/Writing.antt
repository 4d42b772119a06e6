-- A form in rows, written as a sum of terms.
use Rattle.std.proofs.Common.{◌≡◌, ℕ, zero, suc, ◌+◌, ◌*◌, ◌<◌, ◌≤◌, ◌++◌, Bool, true, false, All, List, [], ◌∷◌, length, take, slice_index, vec_len, ℤ, ◌+ℤ◌, refl, sym, ap, subst, ◌∙◌, arith}
use Rattle.std.proofs.lemmas.List.{take_more, get_or-map, length-map}
use Rattle.std.proofs.lemmas.List.Elements.{All-append}
use Rattle.sums.specs.Sums.{count_if}
use Rattle.sink_distances.proofs.Putting.{place_low}
use Rattle.flow_network.specs.declared.arc.Arc.{Arc}
use Rattle.flow_network.specs.Cut.{enters, IsArc}
use Rattle.sink_distances.specs.Laid.{arc_standing, opposite_in}
use Rattle.sink_distances.specs.declared.rows.Cell.{Cell}
use Rattle.sink_distances.specs.Rows.{cell_in}
use Rattle.sink_distances.proofs.Making.{ends_len}
use Rattle.compile_cut.specs.Weights.{arcs_value, arcs_size}
use Rattle.compile_cut.specs.declared.quadratic.Quadratic.{Quadratic}
use Rattle.compile_cut.specs.Quadratics.{quadratic_value}
use Rattle.label_energies.specs.declared.change.Move.{Move}
use Rattle.label_energies.specs.Energies.{Instance}
use Rattle.move_energy.specs.declared.choice.Choice.{Choice}
use Rattle.move_energy.specs.Choices.{StandsFor}
use Rattle.strip_nets.specs.declared.material.RowForm.{RowForm}
use Rattle.strip_nets.specs.RowForms.{arcs_in}
use Rattle.strip_nets.specs.Strips.{IsRowForm}
use Rattle.strip_nets.proofs.Saving.{arcs_more, value_more}

pub first_low : (n : ℕ) (ends : List ℕ) (form : RowForm) (k : ℕ) → IsRowForm n ends form → k < length form.laying.firsts.items
    → slice_index form.laying.firsts.items k < length form.laying.cells.items
first_low n ends form k h l =
    let less : k < length (arcs_in form) = omega (arith, l, h.laid.firsts_len) in
    let f = form.laying in
    let low = place_low n ends (arcs_in form) f.starts.items f.nexts.items f.cells.items f.firsts.items (2 * k) h.laid (omega (arith, less, ap (length {A = ℕ}) h.full, ends_len (arcs_in form))) in
    omega (arith, (h.laid.each k less).first, low)

pub second_low : (n : ℕ) (ends : List ℕ) (form : RowForm) (k : ℕ) → IsRowForm n ends form → k < length form.laying.firsts.items
    → opposite_in form.laying.cells.items (slice_index form.laying.firsts.items k) < length form.laying.cells.items
second_low n ends form k h l =
    let less : k < length (arcs_in form) = omega (arith, l, h.laid.firsts_len) in
    let s = h.laid.each k less in
    let at = ap (λ (c : Cell). c.opposite) (ap (cell_in form.laying.cells.items) s.first ∙ s.forth) in
    let f = form.laying in
    let low = place_low n ends (arcs_in form) f.starts.items f.nexts.items f.cells.items f.firsts.items (2 * k + 1) h.laid (omega (arith, less, ap (length {A = ℕ}) h.full, ends_len (arcs_in form))) in
    omega (arith, at, low)

pub next_arc : (form : RowForm) (k : ℕ) (arc : Arc) → k < length form.laying.firsts.items → arc ≡ arc_standing form.laying.cells.items (slice_index form.laying.firsts.items k)
    → take (k + 1) (arcs_in form) ≡ take k (arcs_in form) ++ arc ∷ []
next_arc form k arc l is =
    let long : k < length (arcs_in form) = omega (arith, l, length-map form.laying.firsts.items (arc_standing form.laying.cells.items)) in
    let blank : Arc = record { from = 0; to = 0; capacity = 0 } in
    take_more (arcs_in form) k blank long
    ∙ ap (λ (x : Arc). take k (arcs_in form) ++ x ∷ []) (get_or-map (arc_standing form.laying.cells.items) form.laying.firsts.items k 0 blank l ∙ sym is)

none_if : (b : Bool) (k : ℕ) → k ≤ 0 → count_if b k ≡ 0
none_if true k h = omega (arith, h)
none_if false k h = refl

pub written_value : (old new done next : List Arc) (arc : Arc) (x : ℕ → Bool) → new ≡ old ++ arc ∷ [] → next ≡ done ++ arc ∷ [] → arcs_value old x ≡ arcs_value done x → arcs_value new x ≡ arcs_value next x
written_value old new done next arc x is at so_far =
    omega (arith, ap (λ (xs : List Arc). arcs_value xs x) is, ap (λ (xs : List Arc). arcs_value xs x) at, value_more old arc x, value_more done arc x, so_far)

pub written_size : (old new done next : List Arc) (arc : Arc) → new ≡ old ++ arc ∷ [] → next ≡ done ++ arc ∷ [] → arcs_size old ≡ arcs_size done → arcs_size new ≡ arcs_size next
written_size old new done next arc is at so_far =
    omega (arith, ap (λ (xs : List Arc). arcs_size xs) is, ap (λ (xs : List Arc). arcs_size xs) at, arcs_more old arc, arcs_more done arc, so_far)

pub skipped_value : (old done next : List Arc) (arc : Arc) (x : ℕ → Bool) → arc.capacity ≤ 0 → next ≡ done ++ arc ∷ [] → arcs_value old x ≡ arcs_value done x → arcs_value old x ≡ arcs_value next x
skipped_value old done next arc x none at so_far =
    omega (arith, ap (λ (xs : List Arc). arcs_value xs x) at, value_more done arc x, none_if (enters x arc) arc.capacity none, so_far)

pub skipped_size : (old done next : List Arc) (arc : Arc) → arc.capacity ≤ 0 → next ≡ done ++ arc ∷ [] → arcs_size old ≡ arcs_size done → arcs_size old ≡ arcs_size next
skipped_size old done next arc none at so_far = omega (arith, ap (λ (xs : List Arc). arcs_size xs) at, arcs_more done arc, none, so_far)

only : (P : Arc → Type 0) (arc : Arc) → P arc → All P (arc ∷ [])
only P arc p zero d l = p
only P arc p (suc k) d l = absurd (omega (arith, l))

pub one_more : (P : Arc → Type 0) (xs : List Arc) (arc : Arc) → All P xs → P arc → All P (xs ++ arc ∷ [])
one_more P xs arc h p = All-append P xs (arc ∷ []) h (only P arc p)

pub arc_of : (n : ℕ) (form : RowForm) (k : ℕ) (arc : Arc) → k < length form.laying.firsts.items → arc ≡ arc_standing form.laying.cells.items (slice_index form.laying.firsts.items k)
    → All (IsArc n) (arcs_in form) → IsArc n arc
arc_of n form k arc l is all =
    let long : k < length (arcs_in form) = omega (arith, l, length-map form.laying.firsts.items (arc_standing form.laying.cells.items)) in
    let blank : Arc = record { from = 0; to = 0; capacity = 0 } in
    subst (IsArc n) (get_or-map (arc_standing form.laying.cells.items) form.laying.firsts.items k 0 blank l ∙ sym is) (all k blank long)

-- what one form stands for, each form of the same values over the same nodes stands for
pub stands_on : (m : Instance) (move : Move) (f : ℕ → ℕ) (choice : ℕ → Choice) (variable : ℕ → ℕ) (old new : Quadratic) → vec_len new.weights ≡ vec_len old.weights
    → ((x : ℕ → Bool) → quadratic_value new x ≡ quadratic_value old x) → StandsFor m move f choice old variable → StandsFor m move f choice new variable
stands_on m move f choice variable old new len same s = record {
  rest = s.rest;
  site = s.site;
  value = λ x. ap (λ (z : ℤ). z +ℤ s.rest) (same x) ∙ s.value x;
  covers = λ p l opened. let has = s.covers p l opened in (omega (arith, has.0, len), has.1);
}
