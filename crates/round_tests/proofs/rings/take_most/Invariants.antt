use Rattle.std.proofs.Common.{◌≤◌}
use Rattle.block_workers.specs.Ports.{IsSamePort}
use Rattle.round_tests.proofs.rings.take_most.Given as goal

abbrev pub invariant-loop : goal.invariant-loop
invariant-loop g l = record {
  same : IsSamePort l.initial.port l.port;
  most : l.next ≤ 50001;
}
