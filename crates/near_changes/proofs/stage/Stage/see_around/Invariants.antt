use Rattle.std.proofs.Common.{◌≡◌, ℕ, ◌<◌}
use Rattle.move_energy.specs.BySite.{pair_of}
use Rattle.near_changes.specs.Working.{AreShown, IsWider, IsSeenAcross}
use Rattle.near_changes.proofs.stage.Stage.see_around.Given as goal

abbrev pub invariant-loop-index : goal.invariant-loop-index
invariant-loop-index l = record {
  shown : AreShown l.cut.choices.now l.cut.bits.now l.self;
  wider : IsWider l.fn.self l.self;
  seen : (k : ℕ) → k < l.index → IsSeenAcross l.cut.choices.now l.cut.bits.now l.site (pair_of l.ends l.site k) l.self;
  fresh : l.self.fresh ≡ l.fn.self.fresh;
  fresh_sites : l.self.fresh_sites ≡ l.fn.self.fresh_sites;
  opened : l.self.opened ≡ l.fn.self.opened;
}
