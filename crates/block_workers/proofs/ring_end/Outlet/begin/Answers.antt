use Rattle.std.proofs.Common.{◌≡◌, length, sym, ◌∙◌, ap, arith}
use Rattle.std.proofs.lemmas.List.{nil_from_length}
use Rattle.rtrb.specs.Ring.{sent, received}
use Rattle.block_workers.specs.RingEnds.{letters_seen}
use Rattle.block_workers.proofs.RingEnds.{none_since, all_taken, some_left}
use Rattle.block_workers.proofs.ring_end.Outlet.begin.Goals as goal
use Rattle.block_workers.proofs.ring_end.Outlet.begin.Goals.{then-left-gt0-via-then-left-gt0, then-left-gt0-via-else-left-gt0+then-capacity-room, then-left-gt0-via-else-left-gt0+else-capacity-room+then-inlet-most}

pub returns-then-left-gt0-clause-refused : goal.returns-then-left-gt0-clause-refused
returns-then-left-gt0-clause-refused c = λ no serve.
    let seen = c.see_left-left.ensures in
    let count = seen.count in
    let room = serve.room in
    let few = serve.few in
    let same = seen.inlet.same.0.1 in
    let counted = seen.counted in
    elim c.then-left-gt0.branch [
      | then-left-gt0-via-then-left-gt0 w ↦
          let some = w.if-left-gt0.true in
          some_left _ _ _ seen.left (omega (arith, count, some)) serve.empty
      | then-left-gt0-via-else-left-gt0+then-capacity-room w ↦
          let off = w.if-capacity-room.true in
          let is = w.capacity.ensures in
          absurd (omega (arith, off, is, same, room))
      | then-left-gt0-via-else-left-gt0+else-capacity-room+then-inlet-most w ↦
          let more = w.if-inlet-most.true in
          absurd (omega (arith, more, counted, few))
    ]

pub invariant_of-self : goal.invariant_of-self
invariant_of-self c =
    let seen = c.see_left-left.ensures in
    let count = seen.count in
    let none = c.if-left-gt0.false in
    let same = all_taken (sent c.see_left-left.new.inlet.ring) (received c.see_left-left.new.self.ring) (letters_seen c.see_left-left.new.self) seen.all (omega (arith, count, none)) in
    let long = ap length same in
    let counted = c.see_left-left.new.inlet.counted in
    record { since = omega (arith, long, counted) }

pub returns-clause-empty : goal.returns-clause-empty
returns-clause-empty c = λ yes.
    let inlet = c.see_left-left.new.inlet in
    let outlet = c.see_left-left.new.self in
    let seen = c.see_left-left.ensures in
    let count = seen.count in
    let left = c.if-left-gt0.false in
    let none : length (letters_seen outlet) ≡ 0 = omega (arith, count, left) in
    let same = all_taken (sent inlet.ring) (received outlet.ring) (letters_seen outlet) seen.all none in
    let long : length (received outlet.ring) ≡ length (sent inlet.ring) = ap length same in
    let counted = inlet.counted in
    let top = inlet.ring.counts.2 in
    let free = seen.free in
    let is = c.capacity.ensures in
    let room = c.if-capacity-room.false in
    let most = c.if-inlet-most.false in
    record {
      room = sym is ∙ room;
      put = none_since inlet.count (sent inlet.ring) counted;
      taken = none_since inlet.count (received outlet.ring) (long ∙ counted);
      free = omega (arith, top, free, is, room, most, long, c.ranges.room.fits);
      seen = nil_from_length (letters_seen outlet) none;
    }
