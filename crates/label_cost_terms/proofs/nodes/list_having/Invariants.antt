use Rattle.std.proofs.Common.{◌≡◌, ◌==◌}
use Rattle.label_energies.specs.Energies.{labelling}
use Rattle.label_cost_terms.specs.LabelCosts.{nodes_of}
use Rattle.label_cost_terms.proofs.nodes.list_having.Given as goal

abbrev pub invariant-loop-site : goal.invariant-loop-site
invariant-loop-site l = l.nodes.items ≡ nodes_of (λ p. labelling l.at p == l.label) l.variables.choices.items l.site
