use Rattle.std.proofs.Common.{◌≡◌, ℕ, ◌<◌, ◌≤◌, get_or, length}
use Rattle.near_changes.specs.Working.{AreShown, IsWider, AreSeenAround}
use Rattle.near_changes.proofs.stage.Stage.see_beside.Given as goal

abbrev pub invariant-loop-index : goal.invariant-loop-index
invariant-loop-index l = record {
  shown : AreShown l.cut.choices.now l.cut.bits.now l.self;
  wider : IsWider l.fn.self l.self;
  within : l.index ≤ length l.self.taking.items;
  seen : (k : ℕ) → k < l.index → AreSeenAround l.pairs l.ends l.cut.choices.now l.cut.bits.now (get_or l.self.taking.items k 0) l.self;
  fresh : l.self.fresh ≡ l.fn.self.fresh;
  fresh_sites : l.self.fresh_sites ≡ l.fn.self.fresh_sites;
  opened : l.self.opened ≡ l.fn.self.opened;
}
