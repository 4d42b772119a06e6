use Rattle.std.proofs.Common.{List, sym, ◌∙◌, ap, subst}
use Rattle.block_discharge.specs.declared.letter.Letter.{Letter}
use Rattle.block_workers.specs.Ports.{letters_put, letters_taken}
use Rattle.block_workers.specs.Seeing.{messages}
use Rattle.block_rings.specs.Left.{AreKeptByWays, rest_of}
use Rattle.block_rings.specs.Links.{link}
use Rattle.block_rings.proofs.Draining.{second_room, second_drained}
use Rattle.block_rings.proofs.pair.PortPair.drain.Goals as goal

pub move_left-requires-clause-room : goal.move_left-requires-clause-room
move_left-requires-clause-room c = rw (c.other-b.ensures, c.other-c.ensures) c.requires.room.room_down

pub move_left-requires-clause-arcs : goal.move_left-requires-clause-arcs
move_left-requires-clause-arcs c = c.requires.room.arcs_down

pub move_left-requires-2-clause-room : goal.move_left-requires-2-clause-room
move_left-requires-2-clause-room c =
    let was = c.requires in
    let one = c.move_left.ensures in
    second_room (link c.args.self.now) c.args.ways.now.messages c.move_left.new.ways.messages c.other-b.result c.other-c.result _ _ was.square was.order was.blocks
    c.other-b.ensures c.other-c.ensures (ap (λ ls. messages ls) one.put) (ap (λ ls. messages ls) one.from.taken) one.messages _ _ one.rooms was.room

pub move_left-requires-2-clause-arcs : goal.move_left-requires-2-clause-arcs
move_left-requires-2-clause-arcs c =
    let one = c.move_left.ensures in
    subst (λ (sent : List Letter). AreKeptByWays (rest_of (messages sent) (messages (letters_taken c.move_left.new.from)))) (sym one.put)
    (subst (λ (took : List Letter). AreKeptByWays (rest_of (messages (letters_put c.args.self.now.second)) (messages took))) (sym one.from.taken) c.requires.room.arcs_up)

pub returns-clause-messages : goal.returns-clause-messages
returns-clause-messages c =
    let was = c.requires in
    let one = c.move_left.ensures in
    second_drained (link c.args.self.now) c.args.ways.now.messages c.move_left.new.ways.messages c.other-b.result c.other-c.result _ _ was.square was.order was.blocks
    c.other-b.ensures c.other-c.ensures (ap (λ ls. messages ls) one.put) (ap (λ ls. messages ls) one.from.taken) one.messages _ c.move_left-2.ensures.messages

pub returns-clause-drained : goal.returns-clause-drained
returns-clause-drained c =
    let one = c.move_left.ensures in
    let two = c.move_left-2.ensures in
    record { down = two.put ∙ (one.drained ∙ sym two.from.taken); up = two.drained }
