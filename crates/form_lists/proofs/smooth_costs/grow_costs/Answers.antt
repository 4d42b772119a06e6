use Rattle.std.proofs.Common.{◌*◌, arith}
use Rattle.form_lists.proofs.Asking.{grown_all, len_enough}
use Rattle.form_lists.proofs.smooth_costs.grow_costs.Goals as goal

pub returns-clause-same : goal.returns-clause-same
returns-clause-same c = λ k. grown_all c.args.costs.now.items c.resize.new.self.items (c.args.labels * 256) _ k c.resize.result c.args.costs.now.ok.0 (omega (arith, c.if-count-len.false, c.len.ensures)) c.resize.ensures.items

pub returns-clause-size : goal.returns-clause-size
returns-clause-size c = len_enough c.resize.new.self.items (c.args.labels * 256) _ _ c.resize.result c.resize.new.self.ok.0 c.resize.ensures.len
