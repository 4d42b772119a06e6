use Rattle.std.proofs.Common.{nat_lt, false, sym}
use Rattle.block_workers.specs.declared.port.Port.{Port}
use Rattle.block_workers.specs.Ports.{free}
use Rattle.block_workers.proofs.Reading.{read_none}
use Rattle.block_workers.proofs.Looking.{same_ports, looked, kept, found_kept, room_seen}
use Rattle.block_workers.proofs.ends.Ends.room.Goals as goal

pub returns-in_default-clause-same : goal.returns-in_default-clause-same
returns-in_default-clause-same c = same_ports c.args.self.now.ports.items

pub returns-in_default-clause-value : goal.returns-in_default-clause-value
returns-in_default-clause-value c = sym (read_none false (λ (p : Port). nat_lt 0 (free p)) c.args.self.now.ports.items c.args.to c.in_default.ensures)

pub invariant_of-self-2 : goal.invariant_of-self-2
invariant_of-self-2 c =
    let at = c.in-Some.ensures in
    record { found = found_kept c.args.self.now.ports.items c.args.self.now.places.items c.in-Some.k c.index_mut.result.now c.room.new.self c.args.self.now.found at.place c.index_mut.ensures.value c.room.ensures.look.same }

pub returns-clause-look : goal.returns-clause-look
returns-clause-look c = looked c.args.self.now.ports.items c.in-Some.k c.index_mut.result.now c.room.new.self c.in-Some.ensures.place c.index_mut.ensures.value c.room.ensures.look

pub returns-clause-same : goal.returns-clause-same
returns-clause-same c = kept c.args.self.now.ports.items c.in-Some.k c.index_mut.result.now c.room.new.self c.in-Some.ensures.place c.index_mut.ensures.value c.room.ensures.look.same

pub returns-clause-value : goal.returns-clause-value
returns-clause-value c =
    room_seen c.args.self.now.ports.items c.args.to c.in-Some.k c.index_mut.result.now c.room.new.self c.room.result c.in-Some.ensures c.index_mut.ensures.value c.room.ensures.look.same c.room.ensures.value
