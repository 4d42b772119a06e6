use Rattle.std.proofs.Common.{◌∙◌, ap, arith}
use Rattle.site_bounds.specs.Working.{least_shift, greatest_shift}
use Rattle.move_energy.proofs.RiseNumbers.{passed_on, passed_range}
use Rattle.site_bounds.proofs.Ranges.{raised_shifts, raised_range, raised_total}
use Rattle.site_bounds.proofs.bounds.Bounds.shift_bounds.Goals as goal

pub returns-clause-shifts : goal.returns-clause-shifts
returns-clause-shifts c =
    raised_shifts c.args.site c.args.value c.args.surplus _ _ c.args.self.now c.raise.new.self c.requires.site.0 c.requires.site.1 c.raise.ensures.least c.raise.ensures.greatest
    (passed_on c.least_shift.result c.least_shift.ensures.range ∙ c.least_shift.ensures.value ∙ ap (least_shift c.args.value) (passed_on c.args.surplus c.requires.surplus))
    (passed_on c.greatest_shift.result c.greatest_shift.ensures.range ∙ c.greatest_shift.ensures.value ∙ ap (greatest_shift c.args.value) (passed_on c.args.surplus c.requires.surplus))

pub returns-clause-range : goal.returns-clause-range
returns-clause-range c =
    raised_range c.args.site _ _ 20000000 c.args.self.now c.raise.new.self c.raise.ensures c.requires.site c.requires.known
    (passed_range c.least_shift.result 20000000 (omega arith) c.least_shift.ensures.range) (passed_range c.greatest_shift.result 20000000 (omega arith) c.greatest_shift.ensures.range)

pub returns-clause-total : goal.returns-clause-total
returns-clause-total c =
    raised_total c.args.site 20000000 _ _ c.args.self.now c.raise.new.self c.raise.ensures c.requires.site c.requires.known
    (passed_range c.greatest_shift.result 20000000 (omega arith) c.greatest_shift.ensures.range)
