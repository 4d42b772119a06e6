use Rattle.std.proofs.Common.{ℕ, List, ℤ, Result, sym, subst}
use Rattle.move_energy.specs.declared.error.BuildError.{BuildError}
use Rattle.one_move.specs.declared.left.Built.{Built}
use Rattle.label_energies.specs.declared.change.Move.{Move}
use Rattle.label_energies.specs.declared.change.Move.TheVariants.{Expand}
use Rattle.label_cost_terms.specs.LabelCosts.{AreCostsOf}
use Rattle.cost_store.specs.LabelCosts.{costs_of, AreCosts, AreCostly, AreFree}
use Rattle.one_move.specs.LabelCosts.{IsFreeFor}
use Rattle.one_move.specs.Building.{IsBuiltMove}
use Rattle.one_move.proofs.Answers.{built_free, costs_free, costs_listed, costs_set}
use Rattle.one_move.proofs.building.build_move.Goals as goal

pub build_with_costs-requires-clause-label_costs : goal.build_with_costs-requires-clause-label_costs
build_with_costs-requires-clause-label_costs g c = λ κs lives.
    let costs = c.args.problem.now.label_costs in
    let S : List ℤ → Type 0 = λ list. AreCostly list in
    let A : List ℤ → Type 0 = λ list. AreCosts c.args.problem.now.data_cost.labels list in
    let some = subst S c.costs_of-costs.ensures (c.has_cost-costly.ensures.some c.if-costly.true) in
    subst A (sym c.costs_of-costs.ensures) (costs_set c.args.problem.now.data_cost.labels costs c.requires.asked.posed.label_costs some)

pub returns-then-costly-clause-built : goal.returns-then-costly-clause-built
returns-then-costly-clause-built g c = λ m meant.
    let costs = c.args.problem.now.label_costs in
    let S : List ℤ → Type 0 = λ list. AreCostly list in
    let some = subst S c.costs_of-costs.ensures (c.has_cost-costly.ensures.some c.if-costly.true) in
    let L : ℕ → Type 0 = λ k. AreCosts k (costs_of costs) in
    let are = costs_listed m costs (subst L (sym meant.labels_are) (costs_set c.args.problem.now.data_cost.labels costs c.requires.asked.posed.label_costs some)) meant.costs_are in
    let O : List ℤ → Type 0 = λ list. AreCostsOf m list in
    let M : Move → Type 0 = λ move. IsBuiltMove m move c.args.at.now c.build_with_costs.new.space.built c.build_with_costs.result in
    subst M (sym c.in-Expand.is) (c.build_with_costs.ensures.built m meant (subst O (sym c.costs_of-costs.ensures) are))

pub returns-in-Swap-clause-built : goal.returns-in-Swap-clause-built
returns-in-Swap-clause-built g c = λ m meant.
    let costs = c.args.problem.now.label_costs in
    let F : Move → Type 0 = λ move. IsFreeFor move (costs_of costs) in
    let R : Result Built BuildError → Type 0 = λ r. IsBuiltMove m c.args.change c.args.at.now c.build_plain.new.space.built r in
    subst R (sym c.at_price.ensures) (built_free m c.args.change c.args.at.now c.build_plain.new.space.built c.build_plain.result (costs_free m costs meant.costs_are (subst F c.in-Swap.is c.requires.free))
    (c.build_plain.ensures.built m meant))

pub returns-else-costly-clause-built : goal.returns-else-costly-clause-built
returns-else-costly-clause-built g c = λ m meant.
    let costs = c.args.problem.now.label_costs in
    let S : List ℤ → Type 0 = λ list. AreFree list in
    let none = subst S c.costs_of-costs.ensures (c.has_cost-costly.ensures.none c.if-costly.false) in
    let R : Result Built BuildError → Type 0 = λ r. IsBuiltMove m (Expand c.in-Expand.alpha) c.args.at.now c.build_plain-in-Expand.new.space.built r in
    let M : Move → Type 0 = λ move. IsBuiltMove m move c.args.at.now c.build_plain-in-Expand.new.space.built c.at_price-in-Expand.result in
    subst M (sym c.in-Expand.is) (subst R (sym c.at_price-in-Expand.ensures) (built_free m (Expand c.in-Expand.alpha) c.args.at.now c.build_plain-in-Expand.new.space.built c.build_plain-in-Expand.result
    (costs_free m costs meant.costs_are none) (c.build_plain-in-Expand.ensures.built m meant)))
