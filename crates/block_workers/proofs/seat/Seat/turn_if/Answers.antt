use Rattle.std.proofs.Common.{refl}
use Rattle.block_discharge.proofs.Runs.{look_same}
use Rattle.block_workers.specs.Ends.{ports}
use Rattle.block_workers.specs.Seeing.{ways_of_ports}
use Rattle.block_workers.proofs.Looking.{same_ports}
use Rattle.block_workers.proofs.Working.{went_look}
use Rattle.block_workers.proofs.seat.Seat.turn_if.Goals as goal

pub returns-then-not-may-clause-went : goal.returns-then-not-may-clause-went
returns-then-not-may-clause-went c =
    let ends = c.args.self.now.ends in
    went_look c.args.self.now _ refl refl refl (same_ports (ports ends)) (look_same (ways_of_ports (ports ends)))
