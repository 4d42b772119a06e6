use Rattle.std.proofs.Common.{length, arith}
use Rattle.label_energies.specs.Energies.{labelling}
use Rattle.site_bounds.proofs.Passing.{passed_sized, passed_waits, passed_total, passed_decides}
use Rattle.site_bounds.proofs.bounds.Bounds.pass_rest.Goals as goal

pub returns : goal.returns
returns c =
    let old = c.args.self.now in
    let new = c.pass_to.new.self in
    let n = length c.args.form.now.at.now in
    let passes = c.pass_to.ensures in
    record {
      sized = (passed_sized n n old new passes c.requires.budget.sized (omega arith)).sized;
      summed = passes.summed;
      waiting = passed_waits n old new passes c.requires.waiting;
      same = (passes.waiting, passes.choices);
      total = passed_total n old new passes;
      decided = λ m move read begun. passed_decides m move (labelling c.args.form.now.at.now) n old new passes begun;
    }
