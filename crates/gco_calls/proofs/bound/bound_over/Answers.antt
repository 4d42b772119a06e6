use Rattle.std.proofs.Common.{◌∙◌, map, refl}
use Rattle.cost_store.specs.LabelCosts.{costs_of}
use Rattle.cost_store.specs.Limits.{data_limit, smooth_limit}
use Rattle.cost_store.specs.Promises.{cost_in}
use Rattle.moves.specs.Instances.{instance_of}
use Rattle.gco_calls.proofs.Tables.{table_keeps, tables_meant}
use Rattle.gco_calls.proofs.bound.bound_over.Goals as goal

pub new-data_cost-requires : goal.new-data_cost-requires
new-data_cost-requires g c =
    table_keeps g.N.Number.value data_limit c.args.data.now _ _ _ _ (c.sites-sites.ensures.value ∙ c.requires.sites) c.labels-labels.ensures.value
    c.labels-labels.ensures.sizes.2 c.requires.data.0 c.requires.data.1

pub new-smooth_cost-requires : goal.new-smooth_cost-requires
new-smooth_cost-requires g c =
    table_keeps g.N.Number.value smooth_limit c.args.smooth.now _ _ _ _ c.labels-labels.ensures.value c.labels-labels.ensures.value
    c.labels-labels.ensures.sizes.2 c.requires.smooth.0 c.requires.smooth.1

pub returns : goal.returns
returns g c =
    let value = g.N.Number.value in
    c.bound_problem.ensures
    (instance_of c.args.ready.pairs c.args.ready.start.labels (cost_in c.args.ready.start.labels (map value c.args.data.now)) (map value c.args.smooth.now) (costs_of c.args.ready.label_costs))
    (rw (c.new-data_cost.ensures.stored, c.new-smooth_cost.ensures.stored) (tables_meant _ _ _ value c.args.data.now c.args.smooth.now _ _ c.requires.weighted refl c.labels-labels.ensures.value
    c.requires.data.0 c.requires.data.1 c.requires.smooth.0 c.requires.smooth.1 (λ a b z ans. ans) (λ a b z ans. ans)))
