use Rattle.std.proofs.Common.{◌≡◌, ◌*◌, ◌≤◌, length, sym, subst, arith, vec_capacity}
use Rattle.block_rings.specs.Mated.{ports_in}
use Rattle.block_rings.proofs.Callers.{ports_few}
use Rattle.rounds.specs.Seated.{ends_of_seats, ports_of}
use Rattle.rounds.proofs.round_space.gather_seats.Goals as goal

pub pair-requires-clause-room : goal.pair-requires-clause-room
pair-requires-clause-room c =
    let seats = c.args.deck.seats in
    let space = c.args.space in
    let lists = ports_of (ends_of_seats seats.items) in
    let mated = c.requires.mated in
    let is : length seats.items ≡ space.count = omega (arith, c.requires.count, seats.ok.0) in
    let few : ports_in lists ≤ space.count * space.count = subst (λ m. ports_in lists ≤ m * m) is (ports_few (length seats.items) lists mated) in
    subst (λ l. ports_in l ≤ 2 * vec_capacity space.pairs) (sym c.apart.ensures.lists) (omega (arith, few, space.for_pairs))
