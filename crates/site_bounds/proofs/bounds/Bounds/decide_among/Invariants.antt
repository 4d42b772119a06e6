use Rattle.std.proofs.Common.{length}
use Rattle.site_bounds.specs.Listed.{CoversOpen}
use Rattle.site_bounds.proofs.Course.{IsUnderWay, AreAhead, AreBehind}
use Rattle.site_bounds.proofs.bounds.Bounds.decide_among.Given as goal

abbrev pub invariant-loop-place : goal.invariant-loop-place
invariant-loop-place l = record {
  way : IsUnderWay l.form l.fn.self l.self;
  ahead : (among : CoversOpen l.fn.self.choices.items l.sites) → AreAhead among.before (length l.fn.self.choices.items) l.place l.self;
  behind : (among : CoversOpen l.fn.self.choices.items l.sites) → AreBehind among.before (length l.fn.self.choices.items) l.place l.self;
}
