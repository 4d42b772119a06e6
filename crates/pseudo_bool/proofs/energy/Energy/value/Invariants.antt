use Rattle.std.proofs.Common.{◌≡◌, ◌+◌, ◌*◌, ◌≤◌, take, ◌+ℤ◌, unsigned_abs}
use Rattle.sums.specs.IntegerSums.{int_sum_by}
use Rattle.pseudo_bool.specs.declared.limits.TheConstants.{VALUE_LIMIT, CONSTANT_LIMIT}
use Rattle.pseudo_bool.specs.Energies.{term_value, assignment}
use Rattle.pseudo_bool.specs.Rows.{term_of}
use Rattle.pseudo_bool.proofs.energy.Energy.value.Given as goal

abbrev pub invariant-loop-row : goal.invariant-loop-row
invariant-loop-row l =
    (l.total ≡ l.fn.self.constant +ℤ int_sum_by (λ row. term_value (assignment l.bits) (term_of l.triples row)) (take l.row-index l.row-items)) ×
    (unsigned_abs l.total ≤ CONSTANT_LIMIT + VALUE_LIMIT * l.row-index)
