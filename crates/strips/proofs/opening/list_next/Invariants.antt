use Rattle.std.proofs.Common.{◌-◌, ◌<◌, ◌≤◌}
use Rattle.move_energy.specs.Choices.{AreOpenSites}
use Rattle.strip_nets.specs.Views.{strip_view}
use Rattle.strips.proofs.opening.list_next.Given as goal

abbrev pub invariant-sites : goal.invariant-sites
invariant-sites l = record {
  opened : AreOpenSites (strip_view l.known l.first l.site) l.opened.items;
  within : l.site ≤ l.end;
  later : l.from ≤ l.site;
  further : 0 < l.more → l.from < l.site;
  few : l.more ≤ l.site;
  most : l.more ≤ l.size;
}

abbrev pub decreases-sites : goal.decreases-sites
decreases-sites l = l.end - l.site
