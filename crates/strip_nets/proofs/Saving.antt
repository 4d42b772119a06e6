-- What a pair that is put saves.
use Rattle.std.proofs.Common.{◌≡◌, ◌≢◌, zero, suc, ℕ, ◌+◌, ◌*◌, ◌<◌, ◌≤◌, ◌++◌, Bool, true, false, List, [], ◌∷◌, All, length, take, set, slice_index, vec_len, ℤ, pos, ◌+ℤ◌, ◌-ℤ◌, unsigned_abs, length-append, length-take, refl, sym, ap, subst, ◌∙◌, arith}
use Rattle.std.specs.Prelude.{◌&&◌, not}
use Rattle.std.proofs.lemmas.Int.{ints}
use Rattle.std.proofs.lemmas.List.Elements.{All-append}
use Rattle.std.proofs.lemmas.List.Sums.{sum_by-set, sum_by-append, sum_by-cons}
use Rattle.sums.specs.Sums.{count_if}
use Rattle.sums.specs.IntegerSums.{int_counted}
use Rattle.sums.proofs.IntegerSumLemmas.{abs-sub}
use Rattle.flow_network.specs.declared.arc.Arc.{Arc}
use Rattle.flow_network.specs.Cut.{enters, IsArc}
use Rattle.pseudo_bool.specs.Energies.{entry}
use Rattle.compile_cut.specs.Weights.{weights_value, weights_size, arcs_value, arcs_size}
use Rattle.compile_cut.proofs.WeightLemmas.{weights_value-add}
use Rattle.move_energy.specs.Built.{AddsCost}
use Rattle.sink_distances.specs.declared.rows.Cell.{Cell}
use Rattle.sink_distances.specs.Rows.{arc_ends}
use Rattle.sink_distances.specs.Laying.{ArePartLaid}
use Rattle.sink_distances.proofs.Making.{ends_len}
use Rattle.sink_distances.proofs.Putting.{next_pair, near_is, far_is, place_low, arcs_stand}
use Rattle.strip_nets.specs.declared.material.RowForm.{RowForm}
use Rattle.strip_nets.specs.RowForms.{arcs_in, form_in, IsFirstPart, IsLaidTo}

pub next_of : (ends : List ℕ) (arcs : List Arc) (a b : ℕ) → IsFirstPart (arc_ends arcs ++ a ∷ b ∷ []) ends
    → take (2 * length arcs + 2) ends ≡ arc_ends arcs ++ a ∷ b ∷ []
next_of ends arcs a b begins =
    ap (λ (k : ℕ). take k ends) (let e : 2 * length arcs + 2 ≡ length (arc_ends arcs ++ a ∷ b ∷ []) = omega (arith, length-append (arc_ends arcs) (a ∷ b ∷ []), ends_len arcs) in e) ∙ begins

-- both ends of the next pair have a place
pub near_place : (n a b : ℕ) (ends : List ℕ) (arcs : List Arc) (starts nexts : List ℕ) (cells : List Cell) (firsts : List ℕ) → ArePartLaid n ends arcs starts nexts cells firsts
    → take (2 * length arcs + 2) ends ≡ arc_ends arcs ++ a ∷ b ∷ [] → a < n → slice_index nexts a < length cells
near_place n a b ends arcs starts nexts cells firsts h next l =
    let p = next_pair ends arcs a b h.begins next in
    omega (arith, near_is n a b ends arcs starts nexts cells firsts h p l, place_low n ends arcs starts nexts cells firsts (2 * length arcs) h (omega (arith, p.long)))

pub far_place : (n a b : ℕ) (ends : List ℕ) (arcs : List Arc) (starts nexts : List ℕ) (cells : List Cell) (firsts : List ℕ) → ArePartLaid n ends arcs starts nexts cells firsts
    → take (2 * length arcs + 2) ends ≡ arc_ends arcs ++ a ∷ b ∷ [] → a ≢ b → b < n → slice_index nexts b < length cells
far_place n a b ends arcs starts nexts cells firsts h next off l =
    let p = next_pair ends arcs a b h.begins next in
    omega (arith, far_is n a b ends arcs starts nexts cells firsts h p off l, place_low n ends arcs starts nexts cells firsts (2 * length arcs + 1) h p.long)

-- how many pairs there are at most
pub few_firsts : (n : ℕ) (ends : List ℕ) (form : RowForm) → IsLaidTo n ends form → 2 * length form.laying.firsts.items ≤ length ends
few_firsts n ends form h =
    let arcs = arcs_in form in
    omega (arith, h.laid.firsts_len, ends_len arcs, ap (length {A = ℕ}) h.laid.begins, length-take (2 * length arcs) ends)

pub arcs_more : (arcs : List Arc) (arc : Arc) → arcs_size (arcs ++ arc ∷ []) ≡ arcs_size arcs + arc.capacity
arcs_more arcs arc = sum_by-append (λ (x : Arc). x.capacity) arcs (arc ∷ []) ∙ omega (arith, sum_by-cons (λ (x : Arc). x.capacity) arc [])

pub value_more : (arcs : List Arc) (arc : Arc) (x : ℕ → Bool) → arcs_value (arcs ++ arc ∷ []) x ≡ arcs_value arcs x + count_if (enters x arc) arc.capacity
value_more arcs arc x = sum_by-append (λ (y : Arc). count_if (enters x y) y.capacity) arcs (arc ∷ []) ∙ omega (arith, sum_by-cons (λ (y : Arc). count_if (enters x y) y.capacity) arc [])

size_less : (ws : List ℤ) (i : ℕ) (s : ℕ) → i < length ws → weights_size (set ws i (entry ws i -ℤ pos s)) ≤ weights_size ws + s
size_less ws i s l = omega (arith, sum_by-set unsigned_abs ws i (entry ws i -ℤ pos s) (pos 0) l, abs-sub (entry ws i) (pos s))

pub one_arc : (n : ℕ) (arc : Arc) → IsArc n arc → All (IsArc n) (arc ∷ [])
one_arc n arc h zero d l = h
one_arc n arc h (suc k) d l = absurd (omega (arith, l))

pub saving_laid : (n a b s : ℕ) (ends : List ℕ) (old new : RowForm) → IsLaidTo n ends old → s ≤ 20000000 → a < n → b < n
    → ArePartLaid n ends (arcs_in old ++ record { from = a; to = b; capacity = s } ∷ []) new.laying.starts.items new.laying.nexts.items new.laying.cells.items new.laying.firsts.items
    → vec_len new.weights ≡ vec_len old.weights → new.weights.items ≡ set old.weights.items b (entry old.weights.items b -ℤ pos s)
    → IsLaidTo n ends new
saving_laid n a b s ends old new h small la l part len less =
    let arc : Arc = record { from = a; to = b; capacity = s } in
    let same = arcs_stand n ends (arcs_in old ++ arc ∷ []) new.laying.starts.items new.laying.nexts.items new.laying.cells.items new.laying.firsts.items part in
    let many : length new.laying.firsts.items ≡ length old.laying.firsts.items + 1 = omega (arith, part.firsts_len, h.laid.firsts_len, length-append (arcs_in old) (arc ∷ [])) in
    let W : List ℤ → Type 0 = λ ws. weights_size ws ≤ 20000000 * length new.laying.firsts.items in
    let A : List Arc → Type 0 = λ xs. arcs_size xs ≤ 20000000 * length new.laying.firsts.items in
    record {
      nodes = len ∙ h.nodes;
      laid = subst (λ (xs : List Arc). ArePartLaid n ends xs new.laying.starts.items new.laying.nexts.items new.laying.cells.items new.laying.firsts.items) (sym same) part;
      arcs_are = subst (All (IsArc n)) (sym same) (All-append (IsArc n) (arcs_in old) (arc ∷ []) h.arcs_are (one_arc n arc (record { from = la; to = l })));
      weights = subst W (sym less) (omega (arith, many, h.weights, small, size_less old.weights.items b s (omega (arith, l, h.nodes, old.weights.ok.0))));
      arcs = subst A (sym same) (omega (arith, many, h.arcs, small, arcs_more (arcs_in old) arc));
    }

ends_more : (arcs : List Arc) (arc : Arc) → arc_ends (arcs ++ arc ∷ []) ≡ arc_ends arcs ++ arc.from ∷ arc.to ∷ []
ends_more [] arc = refl
ends_more (x ∷ arcs) arc = ap (λ (xs : List ℕ). x.from ∷ x.to ∷ xs) (ends_more arcs arc)

pub saving_ends : (n a b s : ℕ) (ends : List ℕ) (old new : RowForm)
    → ArePartLaid n ends (arcs_in old ++ record { from = a; to = b; capacity = s } ∷ []) new.laying.starts.items new.laying.nexts.items new.laying.cells.items new.laying.firsts.items
    → arc_ends (arcs_in new) ≡ arc_ends (arcs_in old) ++ a ∷ b ∷ []
saving_ends n a b s ends old new part =
    let arc : Arc = record { from = a; to = b; capacity = s } in
    ap arc_ends (arcs_stand n ends (arcs_in old ++ arc ∷ []) new.laying.starts.items new.laying.nexts.items new.laying.cells.items new.laying.firsts.items part) ∙ ends_more (arcs_in old) arc

saved : (x y : Bool) (s : ℕ) → int_counted y (pos 0 -ℤ pos s) +ℤ pos (count_if (y && not x) s) +ℤ pos s ≡ pos (count_if (not (x && y)) s)
saved true true s = omega (arith, ints)
saved true false s = omega (arith, ints)
saved false true s = omega (arith, ints)
saved false false s = omega (arith, ints)

less_is : (w : ℤ) (s : ℕ) → w -ℤ pos s ≡ w +ℤ (pos 0 -ℤ pos s)
less_is w s = omega (arith, ints)

pub saving_costs : (n a b s : ℕ) (ends : List ℕ) (old new : RowForm) → IsLaidTo n ends old → b < n
    → ArePartLaid n ends (arcs_in old ++ record { from = a; to = b; capacity = s } ∷ []) new.laying.starts.items new.laying.nexts.items new.laying.cells.items new.laying.firsts.items
    → new.weights.items ≡ set old.weights.items b (entry old.weights.items b -ℤ pos s)
    → AddsCost (form_in old) (form_in new) (λ x. count_if (not (x a && x b)) s)
saving_costs n a b s ends old new h l part less =
    let arc : Arc = record { from = a; to = b; capacity = s } in
    let same = arcs_stand n ends (arcs_in old ++ arc ∷ []) new.laying.starts.items new.laying.nexts.items new.laying.cells.items new.laying.firsts.items part in
    record {
      rest = pos s;
      value = λ x.
          let arcs : arcs_value (arcs_in new) x ≡ arcs_value (arcs_in old) x + count_if (x b && not (x a)) s = ap (λ (xs : List Arc). arcs_value xs x) same ∙ value_more (arcs_in old) arc x in
          let weights : weights_value new.weights.items x ≡ weights_value old.weights.items x +ℤ int_counted (x b) (pos 0 -ℤ pos s) =
          ap (λ (ws : List ℤ). weights_value ws x) less
          ∙ ap (λ (w : ℤ). weights_value (set old.weights.items b w) x) (less_is (entry old.weights.items b) s)
          ∙ weights_value-add old.weights.items b (pos 0 -ℤ pos s) x (omega (arith, l, h.nodes, old.weights.ok.0)) in
          omega (arith, ints, arcs, weights, saved (x a) (x b) s);
    }
