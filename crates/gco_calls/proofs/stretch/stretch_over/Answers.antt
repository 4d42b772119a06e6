use Rattle.std.proofs.Common.{◌∙◌, map, refl}
use Rattle.cost_store.specs.LabelCosts.{costs_of}
use Rattle.cost_store.specs.Limits.{data_limit}
use Rattle.cost_store.specs.Promises.{cost_in}
use Rattle.moves.specs.Instances.{instance_of}
use Rattle.moves.proofs.Instances.{table_instance}
use Rattle.gco_calls.proofs.Tables.{table_answers, table_keeps}
use Rattle.gco_calls.proofs.stretch.stretch_over.Goals as goal

pub new-data_cost-requires : goal.new-data_cost-requires
new-data_cost-requires g c =
    table_keeps g.N.Number.value data_limit c.args.data.now _ _ _ _ (c.sites-sites.ensures.value ∙ c.requires.sites) c.labels-labels.ensures.value
    c.labels-labels.ensures.sizes.2 c.requires.data.0 c.requires.data.1

pub returns-clause-stretch : goal.returns-clause-stretch
returns-clause-stretch g c =
    c.stretch_with_table.ensures.run
    (instance_of c.args.ready.pairs c.args.ready.start.labels (cost_in c.args.ready.start.labels (map g.N.Number.value c.args.data.now)) c.args.smooth.now (costs_of c.args.ready.label_costs))
    (rw c.new-data_cost.ensures.stored (table_instance _ _ _ _ _ _ c.requires.smooth.0 c.requires.smooth.1
    (table_answers g.N.Number.value data_limit c.args.data.now _ _ _ c.labels-labels.ensures.value c.requires.data.0 c.requires.data.1)))
    (record { each = λ label below. refl })
