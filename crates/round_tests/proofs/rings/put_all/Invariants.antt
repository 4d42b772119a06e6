use Rattle.std.proofs.Common.{◌≤◌}
use Rattle.block_workers.specs.Ports.{IsSamePort}
use Rattle.round_tests.proofs.rings.put_all.Given as goal

abbrev pub invariant-loop : goal.invariant-loop
invariant-loop g l = record {
  same : IsSamePort l.initial.port l.port;
  some : 1 ≤ l.amount;
  most : l.amount ≤ 50001;
}
