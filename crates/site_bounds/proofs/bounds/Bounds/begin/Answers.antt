use Rattle.std.proofs.Common.{refl, arith}
use Rattle.site_bounds.proofs.Opening.{begins_closed}
use Rattle.site_bounds.proofs.bounds.Bounds.begin.Goals as goal

pub returns-clause-closed : goal.returns-clause-closed
returns-clause-closed c = begins_closed c.args.sites _ _ _ (omega (arith, c.clear.ensures)) c.clear.new.self.ok.0 c.in_ok-resize.ensures.items

pub returns-clause-unsummed : goal.returns-clause-unsummed
returns-clause-unsummed c = record { summed = refl; none = omega (arith, c.clear-2.ensures) }
