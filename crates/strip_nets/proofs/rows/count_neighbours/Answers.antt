use Rattle.std.proofs.Common.{arith}
use Rattle.move_energy.proofs.Parts.{starts_rise}
use Rattle.strip_nets.proofs.rows.count_neighbours.Goals as goal

pub overflow_sub-result : goal.overflow_sub-result
overflow_sub-result c = omega (arith, starts_rise c.args.material.now.form.pairs.now c.args.material.now.form.ends.now c.args.site c.requires.can.over.by_site c.requires.site)
