use Rattle.std.proofs.Common.{◌∙◌, ap, arith, rules}
use Rattle.flow_network.specs.Cut.{set_of}
use Rattle.pseudo_bool.specs.Energies.{Energy, assignment}
use Rattle.compile_cut.proofs.Best.{best_of_cut, front_shows}
use Rattle.minimum.proofs.minimise_by.Goals as goal

pub returns-clause-best : goal.returns-clause-best
returns-clause-best g c =
    let count = c.variables.ensures.value ∙ ap (λ (e : Energy). e.variables) c.energy-formula.ensures.value in
    best_of_cut c.args.energy c.in-Ok.compiled.net c.in-Ok.compiled.constant (set_of c.in_ok-assignment.assignment.items)
    (assignment c.truncate.new.self.items) c.in-Ok.ensures.variables c.in-Ok.ensures.shown
    c.in_ok-assignment.ensures.smallest
    (λ i l. front_shows _ _ _ c.truncate.ensures.items i (omega (arith, l, count)))

pub returns-clause-count : goal.returns-clause-count
returns-clause-count g c = search rules

pub returns-clause-value : goal.returns-clause-value
returns-clause-value g c = search rules
