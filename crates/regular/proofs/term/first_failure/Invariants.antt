use Rattle.std.proofs.Common.{◌<◌}
use Rattle.regular.specs.declared.fixed.Fixed.{Fixed}
use Rattle.regular.specs.Regularity.{IsRegularTable, order_of, projection}
use Rattle.regular.proofs.term.first_failure.Given as goal

abbrev pub invariant-loop-order : goal.invariant-loop-order
invariant-loop-order l = (earlier : Fixed) → order_of earlier < l.order → IsRegularTable (projection l.table earlier)
