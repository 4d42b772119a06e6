use Rattle.std.proofs.Common.{◌≡◌, nat_lt, false, true, sym, ◌∙◌}
use Rattle.block_workers.specs.declared.port.Port.{Port}
use Rattle.block_workers.specs.Ports.{free}
use Rattle.block_workers.proofs.Reading.{read_none}
use Rattle.block_workers.proofs.Looking.{no_truth, same_ports, kept, found_kept, room_there, put_there}
use Rattle.block_workers.proofs.ends.Ends.put.Goals as goal

pub put-requires-clause-room : goal.put-requires-clause-room
put-requires-clause-room c =
    room_there c.args.self.now.ports.items c.args.to c.in-Some.k c.index_mut.result.now c.in-Some.ensures c.index_mut.ensures.value c.requires.room

pub invariant_of-self : goal.invariant_of-self
invariant_of-self c =
    let at = c.in-Some.ensures in
    record { found = found_kept c.args.self.now.ports.items c.args.self.now.places.items c.in-Some.k c.index_mut.result.now c.put.new.self c.args.self.now.found at.place c.index_mut.ensures.value c.put.ensures.same }

pub returns-in-Some-clause-put : goal.returns-in-Some-clause-put
returns-in-Some-clause-put c = put_there c.args.self.now.ports.items c.args.to c.in-Some.k c.index_mut.result.now c.put.new.self c.args.letter c.in-Some.ensures c.index_mut.ensures.value c.put.ensures

pub returns-in-Some-clause-same : goal.returns-in-Some-clause-same
returns-in-Some-clause-same c = kept c.args.self.now.ports.items c.in-Some.k c.index_mut.result.now c.put.new.self c.in-Some.ensures.place c.index_mut.ensures.value c.put.ensures.same

pub returns-in_default-clause-put : goal.returns-in_default-clause-put
returns-in_default-clause-put c =
    let none = read_none false (λ (p : Port). nat_lt 0 (free p)) c.args.self.now.ports.items c.args.to c.in_default.ensures in
    let no : false ≡ true = sym none ∙ c.requires.room in absurd (no_truth no)

pub returns-in_default-clause-same : goal.returns-in_default-clause-same
returns-in_default-clause-same c = same_ports c.args.self.now.ports.items
