-- The form of a strip whose pairs stand in rows, at the beginning and once its weights are laid on
-- it.
use Rattle.std.proofs.Common.{◌≡◌, ℕ, zero, suc, ◌+◌, ◌≤◌, List, [], ◌∷◌, length, map, vec_len, replicate, ℤ, pos, unsigned_abs, All, refl, sym, ap, subst, ◌∙◌, arith}
use Rattle.std.proofs.lemmas.List.Sums.{sum_by-cons}
use Rattle.std.proofs.lemmas.List.{length-replicate}
use Rattle.flow_network.specs.declared.arc.Arc.{Arc}
use Rattle.flow_network.specs.Cut.{IsArc}
use Rattle.sink_distances.specs.Laid.{arc_standing, arcs_standing}
use Rattle.sink_distances.specs.declared.laying.Laying.{Laying}
use Rattle.sink_distances.specs.Rows.{arc_ends}
use Rattle.sink_distances.specs.Laying.{ArePartLaid}
use Rattle.compile_cut.specs.Quadratics.{IsConstant}
use Rattle.compile_cut.specs.Weights.{weights_size, arcs_size}
use Rattle.strip_nets.specs.declared.material.RowForm.{RowForm}
use Rattle.strip_nets.specs.RowForms.{arcs_in, form_in, IsLaidTo}
use Rattle.strip_nets.specs.Strips.{IsRowForm}
use Rattle.strip_nets.proofs.Saving.{few_firsts}

zero_size : (n : ℕ) → weights_size (replicate n (pos 0)) ≡ 0
zero_size zero = refl
zero_size (suc n) = omega (arith, zero_size n, sum_by-cons unsigned_abs (pos 0) (replicate n (pos 0)))

empty_list : (xs : List ℕ) → length xs ≡ 0 → xs ≡ []
empty_list [] h = refl
empty_list (x ∷ xs) h = absurd (omega (arith, h))

no_arcs : (n : ℕ) (ends : List ℕ) (form : RowForm) → ArePartLaid n ends [] form.laying.starts.items form.laying.nexts.items form.laying.cells.items form.laying.firsts.items → arcs_in form ≡ []
no_arcs n ends form h = ap (λ (xs : List ℕ). map (arc_standing form.laying.cells.items) xs) (empty_list form.laying.firsts.items h.firsts_len)

none_are : (n : ℕ) → All (IsArc n) []
none_are n k d l = absurd (omega (arith, l))

pub begun_laid : (n : ℕ) (ends : List ℕ) (form : RowForm) → form.weights.items ≡ replicate n (pos 0)
    → ArePartLaid n ends [] form.laying.starts.items form.laying.nexts.items form.laying.cells.items form.laying.firsts.items → IsLaidTo n ends form
begun_laid n ends form zeros h =
    let none = no_arcs n ends form h in
    record {
      nodes = form.weights.ok.0 ∙ ap (length {A = ℤ}) zeros ∙ length-replicate n (pos 0);
      laid = subst (λ (xs : List Arc). ArePartLaid n ends xs form.laying.starts.items form.laying.nexts.items form.laying.cells.items form.laying.firsts.items) (sym none) h;
      arcs_are = subst (All (IsArc n)) (sym none) (none_are n);
      weights = omega (arith, ap (λ (ws : List ℤ). weights_size ws) zeros, zero_size n);
      arcs = omega (arith, ap (λ (xs : List Arc). arcs_size xs) none);
    }

pub begun_ends : (n : ℕ) (ends : List ℕ) (form : RowForm) → ArePartLaid n ends [] form.laying.starts.items form.laying.nexts.items form.laying.cells.items form.laying.firsts.items → arc_ends (arcs_in form) ≡ []
begun_ends n ends form h = ap arc_ends (no_arcs n ends form h)

pub begun_constant : (n : ℕ) (ends : List ℕ) (form : RowForm) → form.weights.items ≡ replicate n (pos 0)
    → ArePartLaid n ends [] form.laying.starts.items form.laying.nexts.items form.laying.cells.items form.laying.firsts.items → IsConstant (pos 0) n (form_in form)
begun_constant n ends form zeros h = record { constant_is = refl; weights = zeros; arcs = no_arcs n ends form h }

pub laid_rows : (n : ℕ) (ends : List ℕ) (old new : RowForm) (list : List ℤ) → IsLaidTo n ends old → new.laying ≡ old.laying → vec_len new.weights ≡ vec_len old.weights
    → weights_size new.weights.items ≤ weights_size old.weights.items + weights_size list → weights_size list ≤ 500000000000000 → length ends ≤ 16777216 → n ≤ 1048576
    → arc_ends (arcs_in old) ≡ ends → IsRowForm n ends new
laid_rows n ends old new list h same len more small few nodes full =
    let L : Laying → Type 0 = λ x. ArePartLaid n ends (arcs_standing x.cells.items x.firsts.items) x.starts.items x.nexts.items x.cells.items x.firsts.items in
    let E : Laying → Type 0 = λ x. arc_ends (arcs_standing x.cells.items x.firsts.items) ≡ ends in
    let A : Laying → Type 0 = λ x. All (IsArc n) (arcs_standing x.cells.items x.firsts.items) in
    let S : Laying → Type 0 = λ x. weights_size new.weights.items + arcs_size (arcs_standing x.cells.items x.firsts.items) ≤ 1000000000000000 in
    record {
      nodes = len ∙ h.nodes;
      few = nodes;
      laid = subst L (sym same) h.laid;
      full = subst E (sym same) full;
      arcs_are = subst A (sym same) h.arcs_are;
      size = subst S (sym same) (omega (arith, more, small, h.weights, h.arcs, few_firsts n ends old h, few));
    }
