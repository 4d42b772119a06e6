use Rattle.std.proofs.Common.{refl}
use Rattle.vision.proofs.Metrics.{shape_metric_table}
use Rattle.vision.proofs.job.is_metric_cost.Goals as goal

pub returns-in-Potts : goal.returns-in-Potts
returns-in-Potts c = (
  (λ yes. shape_metric_table c.args.shape c.args.labels c.requires.table.0 c.args.table.now c.requires.labels c.requires.table.1
      (λ same. (let is = c.in-Potts.is in absurd (cc (is, same)))) c.requires.table.2),
  λ metric. refl,
)

pub returns-in-Linear : goal.returns-in-Linear
returns-in-Linear c = (
  (λ yes. shape_metric_table c.args.shape c.args.labels c.requires.table.0 c.args.table.now c.requires.labels c.requires.table.1
      (λ same. (let is = c.in-Linear.is in absurd (cc (is, same)))) c.requires.table.2),
  λ metric. refl,
)
