use Rattle.std.proofs.Common.{◌∙◌, ◌*◌, refl, sym}
use Rattle.cost_store.specs.Limits.{site_cost_limit}
use Rattle.cost_store.specs.LabelCosts.{costs_of}
use Rattle.moves.specs.Instances.{instance_of, data_entry}
use Rattle.moves.proofs.Entries.{data_keeps, data_along}
use Rattle.moves.proofs.Instances.{table_instance}
use Rattle.moves.proofs.tables.run_tables.Goals as goal

pub new-data_cost-requires : goal.new-data_cost-requires
new-data_cost-requires g c =
    data_keeps site_cost_limit c.args.data.now c.sites-sites.result c.labels-labels.result
    (c.requires.data.0 ∙ (λ i. sym (c.sites-sites.ensures.value ∙ c.requires.sites) i * sym c.labels-labels.ensures.value i))
    c.labels-labels.ensures.sizes.2 c.requires.data.1

pub returns-clause-run : goal.returns-clause-run
returns-clause-run g c =
    c.run_with_table.ensures.run (instance_of c.args.pairs c.args.request.start.labels (data_entry c.args.request.start.labels c.args.data.now) c.args.smooth.now (costs_of c.args.label_costs))
    (rw c.new-data_cost.ensures.stored (table_instance _ _ _ _ _ _ c.requires.smooth.0 c.requires.smooth.1
    (λ a b z la lb is. data_along c.args.data.now a b z _ _ c.labels-labels.ensures.value is)))
    (record { each = λ label below. refl })

pub returns-clause-bounded : goal.returns-clause-bounded
returns-clause-bounded g c =
    c.run_with_table.ensures.bounded (instance_of c.args.pairs c.args.request.start.labels (data_entry c.args.request.start.labels c.args.data.now) c.args.smooth.now (costs_of c.args.label_costs))
    (rw c.new-data_cost.ensures.stored (table_instance _ _ _ _ _ _ c.requires.smooth.0 c.requires.smooth.1
    (λ a b z la lb is. data_along c.args.data.now a b z _ _ c.labels-labels.ensures.value is)))
    (record { each = λ label below. refl })

pub returns-clause-over_metric : goal.returns-clause-over_metric
returns-clause-over_metric g c =
    c.run_with_table.ensures.over_metric (instance_of c.args.pairs c.args.request.start.labels (data_entry c.args.request.start.labels c.args.data.now) c.args.smooth.now (costs_of c.args.label_costs))
    (rw c.new-data_cost.ensures.stored (table_instance _ _ _ _ _ _ c.requires.smooth.0 c.requires.smooth.1
    (λ a b z la lb is. data_along c.args.data.now a b z _ _ c.labels-labels.ensures.value is)))
    (record { each = λ label below. refl })
