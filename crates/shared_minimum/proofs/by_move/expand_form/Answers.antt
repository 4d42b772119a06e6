use Rattle.std.proofs.Common.{◌∙◌, ◌+◌, ◌*◌, ◌/◌, ◌%◌, ℕ, ℤ, List, pos, ap}
use Rattle.flow_network.specs.declared.arc.Arc.{Arc}
use Rattle.label_field.specs.LabelFields.{LabelField}
use Rattle.cost_store.specs.Posed.{instance_by_pair}
use Rattle.pseudo_bool.specs.Energies.{entry}
use Rattle.form_costs.specs.FormCosts.{side_cost, arc_cost}
use Rattle.shared_minimum.proofs.Moved.{line_cost, best_of_form}
use Rattle.shared_minimum.proofs.by_move.expand_form.Goals as goal

pub returns : goal.returns
returns g c =
    let a = c.args in
    let q = a.form.now in
    let at_sites : ℕ → ℕ → ℕ = λ p label. side_cost (entry q.weights.items p) label in
    let between : ℕ → ℕ → ℕ → ℕ = arc_cost q.arcs.items in
    let weights = c.as_slice-weights.ensures.value in
    let arcs = c.as_slice-arcs.ensures.value in
    let labels = c.new-data_cost.result.labels in
    let two = ap (λ d. d.labels) c.new-data_cost.ensures.stored in
    let meant = c.by_pair-problem.ensures.means at_sites between
    (rw c.new-data_cost.ensures.stored (λ p label z lp ll is. is ∙ ap (λ (ws : List ℤ). pos (side_cost (entry ws p) label)) weights))
    (rw (c.new-data_cost.ensures.stored, c.by_pair-pair_costs.ensures.stored) (λ number x y z ln lx ly is.
    line_cost q.arcs.items number x y z lx (is ∙ ap (λ (list : List Arc). pos (arc_cost list ((number * 2 + x) / 2) ((number * 2 + x) % 2) y)) arcs))) in
    let moved = c.in-Ok-make_move.ensures.moved (instance_by_pair a.pairs labels at_sites between) meant in
    best_of_form q a.pairs labels c.in-Ok.labelling.at c.make_move.new.labelling.at c.sites-sites.result two (ap (λ (l : LabelField). l.at) c.in-Ok.ensures) c.sites-sites.ensures.value c.requires.pairs moved.2
