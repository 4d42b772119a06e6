-- What the closures of a form's costs answer, and where its move ends.
use Rattle.std.proofs.Common.{◌≡◌, ◌<◌, ◌+◌, ◌*◌, ◌/◌, ◌%◌, ◌∙◌, ℕ, ℤ, pos, List, replicate, refl, sym, ap, subst, vec_len}
use Rattle.std.proofs.lemmas.Nat.{div-mul-add, mod-mul-add}
use Rattle.flow_network.specs.declared.arc.Arc.{Arc}
use Rattle.label_field.specs.PairLists.{PairList}
use Rattle.label_energies.specs.declared.change.Move.TheVariants.{Expand}
use Rattle.label_energies.specs.Moves.{IsBest}
use Rattle.cost_store.specs.Posed.{instance_by_pair}
use Rattle.pseudo_bool.specs.Energies.{entry}
use Rattle.compile_cut.specs.declared.quadratic.Quadratic.{Quadratic}
use Rattle.form_costs.specs.FormCosts.{side_cost, arc_cost, instance_of_form, AreFormPairs}

-- a line of a pair's costs is that of its first label
pub line_cost : (arcs : List Arc) (number a b : ℕ) (z : ℤ) → a < 2 → z ≡ pos (arc_cost arcs ((number * 2 + a) / 2) ((number * 2 + a) % 2) b) → z ≡ pos (arc_cost arcs number a b)
line_cost arcs number a b z low is = is ∙ (λ i. pos (arc_cost arcs (div-mul-add number 2 a low i) (mod-mul-add number 2 a low i) b))

-- the problem that was stored is that of the form
pub best_of_form : (q : Quadratic) (pairs : PairList) (labels : ℕ) (f g : List ℕ) (sites : ℕ) → labels ≡ 2 → f ≡ replicate sites 0 → sites ≡ pairs.sites → AreFormPairs q pairs
    → IsBest (instance_by_pair pairs labels (λ p label. side_cost (entry q.weights.items p) label) (arc_cost q.arcs.items)) (Expand 1) f g
    → IsBest (instance_of_form q pairs) (Expand 1) (replicate (vec_len q.weights) 0) g
best_of_form q pairs labels f g sites two start count h best =
    let L : ℕ → Type 0 = λ k. IsBest (instance_by_pair pairs k (λ p label. side_cost (entry q.weights.items p) label) (arc_cost q.arcs.items)) (Expand 1) f g in
    let F : List ℕ → Type 0 = λ xs. IsBest (instance_of_form q pairs) (Expand 1) xs g in
    subst F (start ∙ ap (λ (n : ℕ). replicate n 0) (count ∙ h.sites)) (subst L two best)
