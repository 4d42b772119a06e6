use Rattle.std.proofs.Common.{All, map, take}
use Rattle.cost_store.specs.Promises.{IsCost}
use Rattle.gco_arrays.proofs.checks.check_table.Given as goal

abbrev pub invariant-loop-index : goal.invariant-loop-index
invariant-loop-index g l = All (IsCost l.most) (take l.index (map g.N.Number.value l.table))
