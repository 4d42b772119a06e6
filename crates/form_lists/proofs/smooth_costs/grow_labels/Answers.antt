use Rattle.std.proofs.Common.{false}
use Rattle.form_lists.proofs.Asking.{grown_same, grown_len}
use Rattle.form_lists.proofs.smooth_costs.grow_labels.Goals as goal

pub returns-clause-same : goal.returns-clause-same
returns-clause-same c = λ k l. grown_same c.args.labels.now.items c.resize.new.self.items 256 _ k false c.resize.result c.args.labels.now.ok.0 c.resize.ensures.items l

pub returns-clause-size : goal.returns-clause-size
returns-clause-size c = grown_len c.resize.new.self.items 256 _ _ c.resize.result c.resize.new.self.ok.0 c.resize.ensures.len
