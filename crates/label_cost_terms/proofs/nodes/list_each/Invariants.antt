use Rattle.std.proofs.Common.{◌≡◌, true}
use Rattle.label_cost_terms.specs.LabelCosts.{nodes_of}
use Rattle.label_cost_terms.proofs.nodes.list_each.Given as goal

abbrev pub invariant-loop-site : goal.invariant-loop-site
invariant-loop-site l = l.nodes.items ≡ nodes_of (λ p. true) l.variables.choices.items l.site
