use Rattle.std.proofs.Common.{◌≡◌, ◌≤◌, ◌++◌, length, sym, ◌∙◌, ap, arith}
use Rattle.block_workers.specs.Ports.{letters_put, letters_taken, letters_waiting, capacity}
use Rattle.block_rings.proofs.Leaving.{letters_few, letters_split}
use Rattle.block_rings.proofs.pair.PortPair.see.Goals as goal

pub returns-clause-seen : goal.returns-clause-seen
returns-clause-seen c =
    let old = c.args.self.now in
    let one = c.see_left.ensures in
    let two = c.see_left-2.ensures in
    let back : letters_put old.second ≡ letters_taken old.first ++ letters_waiting c.see_left-2.new.to = sym one.to.put ∙ (two.left ∙ ap (λ t. t ++ letters_waiting c.see_left-2.new.to) one.from.taken) in
    let few : length (letters_waiting c.see_left-2.new.to) ≤ capacity old.second = omega (arith, two.count, two.room, one.to.same.to_ring.0.1) in
    record {
      few_down = letters_few (letters_put old.first) (letters_taken old.second) (letters_waiting c.see_left.new.to) (capacity old.first) one.left (omega (arith, one.count, one.room));
      few_up = letters_few (letters_put old.second) (letters_taken old.first) (letters_waiting c.see_left-2.new.to) (capacity old.second) back few;
      down = letters_split (letters_put old.first) (letters_taken old.second) (letters_waiting c.see_left.new.to) one.left;
      up = letters_split (letters_put old.second) (letters_taken old.first) (letters_waiting c.see_left-2.new.to) back;
    }
