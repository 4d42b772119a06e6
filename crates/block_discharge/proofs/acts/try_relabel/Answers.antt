use Rattle.std.proofs.Common.{◌<◌, arith}
use Rattle.block_net.specs.Views.{label_in}
use Rattle.block_discharge.proofs.Doing.{done_rise, does_rise}
use Rattle.block_discharge.proofs.acts.try_relabel.Goals as goal

pub returns-clause-does : goal.returns-clause-does
returns-clause-does c =
    let high : label_in c.args.cells.now.block c.args.v < c.highest_label-label.result = omega arith in
    λ s. does_rise c.args.cells.now.block c.relabel.new.self.block s c.args.v c.highest_label-label.result c.requires high c.highest_label-label.ensures.value c.relabel.ensures.block

pub returns-clause-done : goal.returns-clause-done
returns-clause-done c =
    let high : label_in c.args.cells.now.block c.args.v < c.highest_label-label.result = omega arith in
    λ some s. done_rise c.args.cells.now.block c.relabel.new.self.block s c.args.v c.highest_label-label.result c.requires high c.highest_label-label.ensures.value c.relabel.ensures.block
