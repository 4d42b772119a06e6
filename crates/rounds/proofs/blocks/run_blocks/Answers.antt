use Rattle.std.proofs.Common.{◌<◌, ◌≤◌, length, arith}
use Rattle.block_workers.specs.Workers.{turns_of}
use Rattle.rounds.proofs.Runs.{still_mated, have_run, room_kept}
use Rattle.rounds.proofs.blocks.run_blocks.Goals as goal

pub gather_seats-requires-clause-mated : goal.gather_seats-requires-clause-mated
gather_seats-requires-clause-mated g c =
    let blocks = c.args.blocks in
    let some : 0 < length blocks.items = omega (arith, c.requires.some, blocks.ok.0) in
    still_mated blocks.items c.args.options.now.ring c.seats_for.new.stock.deck.seats.items c.in_ok-back.back.seats.items some c.in_ok-seats_for.ensures.seated c.in_ok-seats_for.ensures.joined c.in_ok-back.ensures.worked

pub returns-clause-run : goal.returns-clause-run
returns-clause-run g c =
    let blocks = c.args.blocks in
    let some : 0 < length blocks.items = omega (arith, c.requires.some, blocks.ok.0) in
    let e = c.gather_seats.ensures in
    let all = c.in_ok-book.ensures.budget.1 in
    let some_drawn = c.in_ok-back.ensures.few in
    let few : turns_of c.in_ok-back.back.seats.items ≤ c.args.options.now.turns = omega (arith, all, some_drawn) in
    have_run blocks.items c.args.options.now.ring c.seats_for.new.stock.deck.seats.items c.in_ok-back.back.seats.items some c.in_ok-seats_for.ensures.seated c.in_ok-seats_for.ensures.joined c.in_ok-back.ensures.worked
    c.args.options.now.turns c.gather_seats.result.blocks.items c.gather_seats.result.rings c.requires.options.ring_least e.blocks e.count e.sent e.taken few

pub returns-clause-room : goal.returns-clause-room
returns-clause-room g c =
    let blocks = c.args.blocks in
    let some : 0 < length blocks.items = omega (arith, c.requires.some, blocks.ok.0) in
    room_kept blocks.items c.args.options.now.ring c.seats_for.new.stock.deck.seats.items c.in_ok-back.back.seats.items some c.in_ok-seats_for.ensures.seated c.in_ok-seats_for.ensures.joined c.in_ok-back.ensures.worked
    c.gather_seats.result.rings c.gather_seats.ensures.room
