use Rattle.block_discharge.specs.Seen.{IsLook}
use Rattle.block_workers.specs.Seeing.{AreSame, ways_of_ports}
use Rattle.block_workers.proofs.ends.has_letter.Given as goal

abbrev pub invariant-loop-k : goal.invariant-loop-k
invariant-loop-k l = record {
  look : IsLook (ways_of_ports l.initial.ports.items) (ways_of_ports l.ports.items);
  same : AreSame l.initial.ports.items l.ports.items;
}
