use Rattle.std.proofs.Common.{◌∙◌, ℤ, ap, length, sym, w64}
use Rattle.std.proofs.lemmas.Int.{to_z-of_z}
use Rattle.gco_arrays.specs.Energies.{energy_given}
use Rattle.gco_calls.specs.Outcomes.{value_told}
use Rattle.gco_calls.proofs.Bits.{bits_same, value_same}
use Rattle.gco_calls.proofs.minimise.answer_minimum.Goals as goal

pub returns-in-Ok-clause-best : goal.returns-in-Ok-clause-best
returns-in-Ok-clause-best c = λ ok.
    rw (c.copy_bits.ensures, c.as_slice.ensures.value, bits_same c.in-Ok.found.assignment.items) (rw (to_z-of_z w64 c.args.constant c.ranges.constant) at c.in-Ok.ensures.best)

pub returns-in-Ok-clause-value : goal.returns-in-Ok-clause-value
returns-in-Ok-clause-value c = λ ok.
    c.put.ensures ∙ ap (λ (value : ℤ). value_told value) ((rw (to_z-of_z w64 c.args.constant c.ranges.constant) at c.in-Ok.ensures.value)
    ∙ sym (value_same (energy_given (length c.args.assignment.now) c.args.constant c.args.ones.now c.args.twos.now c.args.threes.now) c.in-Ok.found.assignment.items
    c.copy_bits.new.to (rw c.as_slice.ensures.value at c.copy_bits.ensures)))
