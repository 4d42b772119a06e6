use Rattle.std.proofs.Common.{◌≡◌, ℕ, ◌<◌, get_or}
use Rattle.near_changes.specs.Working.{AreShown, IsSiteSeen}
use Rattle.near_changes.proofs.stage.Stage.see_fresh.Given as goal

abbrev pub invariant-loop-index : goal.invariant-loop-index
invariant-loop-index l = record {
  shown : AreShown l.cut.choices.now l.cut.bits.now l.self;
  seen : (k : ℕ) → k < l.index → IsSiteSeen l.cut.choices.now l.cut.bits.now (get_or l.fn.self.fresh_sites.items k 0) l.self;
  fresh : l.self.fresh ≡ l.fn.self.fresh;
  fresh_sites : l.self.fresh_sites ≡ l.fn.self.fresh_sites;
  opened : l.self.opened ≡ l.fn.self.opened;
}
