use Rattle.block_workers.proofs.Looking.{found_same}
use Rattle.block_workers.proofs.ends.Ends.has_letter.Goals as goal

pub invariant_of-self : goal.invariant_of-self
invariant_of-self c = record {
  found = found_same c.args.self.now.ports.items c.has_letter.new.ports.items c.args.self.now.places.items c.has_letter.ensures.same c.args.self.now.found;
}
