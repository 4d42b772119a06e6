use Rattle.std.proofs.Common.{◌≡◌, ◌≢◌, ◌⊎◌, ℕ, ◌<◌, true, length}
use Rattle.move_energy.specs.BySite.{pair_of}
use Rattle.label_energies.specs.Energies.{labelling}
use Rattle.near_changes.specs.Looking.{is_marked, AreBeside}
use Rattle.near_changes.specs.Working.{AreSiteMarks, StaysMarked, IsMarkedAcross}
use Rattle.near_changes.proofs.stage.Stage.mark_around.Given as goal

abbrev pub invariant-loop-index : goal.invariant-loop-index
invariant-loop-index l = record {
  marks : AreSiteMarks (length l.at) l.self.fresh.items l.self.fresh_sites.items;
  stays : StaysMarked l.fn.self.fresh.items l.self.fresh.items;
  only : (p : ℕ) → is_marked l.self.fresh.items p ≡ true → (is_marked l.fn.self.fresh.items p ≡ true)
      ⊎ ((labelling l.at p ≢ l.alpha) × ((p ≡ l.site) ⊎ AreBeside l.pairs l.site p));
  own : labelling l.at l.site ≢ l.alpha → is_marked l.self.fresh.items l.site ≡ true;
  beside : (k : ℕ) → k < l.index
      → IsMarkedAcross l.alpha (labelling l.at) l.site (is_marked l.self.fresh.items) (pair_of l.ends l.site k);
}
