-- The ends of a block as its ports.
use Rattle.std.specs.Prelude.{List}
use Rattle.block_workers.specs.declared.port.Port.{Port}
use Rattle.block_workers.specs.declared.ends.Ends.{Ends}

abbrev pub ports : Ends → List Port
ports ends = ends.ports.items
