use Rattle.std.proofs.Common.{◌∙◌, w64, FitsSigned, arith}
use Rattle.std.proofs.lemmas.Int.{to_z-of_z}
use Rattle.cost_store.proofs.Meaning.{data_meant}
use Rattle.cost_store.proofs.problem.Problem.site_cost.Goals as goal

pub cost-requires-clause-keeps : goal.cost-requires-clause-keeps
cost-requires-clause-keeps g c = c.requires.posed.costs

pub cost-requires-clause-inside : goal.cost-requires-clause-inside
cost-requires-clause-inside g c = (omega (arith, c.requires.inside.0, c.requires.posed.data_sites), c.requires.inside.1)

pub returns-clause-cost : goal.returns-clause-cost
returns-clause-cost g c = λ m meant.
    let fits : FitsSigned w64 c.cost.result = record { sfits = c.cost.type_inv } in
    to_z-of_z w64 c.cost.result fits ∙ c.cost.ensures.entry m.data_cost (data_meant _ _ _ m c.requires.posed meant)
