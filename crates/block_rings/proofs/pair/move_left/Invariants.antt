use Rattle.std.proofs.Common.{◌≡◌, ◌+◌, ◌≤◌, ◌++◌, length}
use Rattle.block_events.specs.States.{way_at, put_way}
use Rattle.block_events.specs.Soundness.{IsSquare}
use Rattle.block_state.specs.AllWays.{room_at}
use Rattle.block_workers.specs.Ports.{IsSamePort, letters_put, letters_taken, letters_waiting}
use Rattle.block_workers.specs.Seeing.{messages}
use Rattle.block_rings.specs.Left.{AreKeptByWays}
use Rattle.block_rings.proofs.pair.move_left.Given as goal

abbrev pub invariant-loop : goal.invariant-loop
invariant-loop l = record {
  kept : l.ways.messages ≡ put_way l.initial.ways.messages l.b l.c (way_at l.ways.messages l.b l.c);
  rooms : l.ways.rooms ≡ l.initial.ways.rooms;
  square : IsSquare (length l.initial.ways.messages) l.ways.messages;
  left : way_at l.ways.messages l.b l.c ++ messages (letters_waiting l.to)
      ≡ way_at l.initial.ways.messages l.b l.c ++ messages (letters_waiting l.initial.to);
  rest : length (letters_waiting l.to) + l.counter ≡ length (letters_waiting l.initial.to);
  room : length (way_at l.ways.messages l.b l.c) + length (letters_waiting l.to) ≤ room_at l.ways.rooms l.b l.c;
  arcs : AreKeptByWays (messages (letters_waiting l.to));
  same : IsSamePort l.initial.to l.to;
  put : letters_put l.to ≡ letters_put l.initial.to;
  all : letters_taken l.to ++ letters_waiting l.to ≡ letters_taken l.initial.to ++ letters_waiting l.initial.to;
}
