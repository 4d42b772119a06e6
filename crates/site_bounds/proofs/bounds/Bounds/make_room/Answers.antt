use Rattle.std.proofs.Common.{refl, arith}
use Rattle.site_bounds.proofs.bounds.Bounds.make_room.Goals as goal

pub returns-clause-sized : goal.returns-clause-sized
returns-clause-sized c =
    let count = c.args.self.now.choices.ok.0 in
    record {
      sized = record {
        choices = refl;
        least = omega (arith, c.resize.new.self.ok.0, c.in_ok-resize.ensures.len, count);
        greatest = omega (arith, c.resize-2.new.self.ok.0, c.in_ok-resize-2.ensures.len, count);
      };
      within = c.requires;
    }
