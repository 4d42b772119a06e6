use Rattle.std.proofs.Common.{◌≡◌, ◌+◌, ◌-◌, ◌*◌, ◌≤◌, ℕ, length}
use Rattle.move_energy.specs.BySite.{neighbours_start, grouped_at, AreBySite}
use Rattle.label_energies.specs.declared.change.Move.{Move}
use Rattle.label_energies.specs.Energies.{Instance, labelling}
use Rattle.site_forms.specs.Numbers.{IsFormOf}
use Rattle.site_bounds.specs.Working.{IsSummed, AreWaiting, IsWithinRange, ArePartlyDecided, greatest_total}
use Rattle.site_bounds.proofs.Spreading.{IsSpread}
use Rattle.site_bounds.proofs.bounds.Bounds.decide.Given as goal

abbrev pub invariant-loop-place : goal.invariant-loop-place
invariant-loop-place l = record {
  choices : l.self.choices ≡ l.initial.self.choices;
  sized : IsSummed (length l.form.at.now) l.self;
  same : l.self.summed ≡ l.fn.self.summed;
  waiting : AreWaiting (l.fn.self.summed) l.self;
  more : length l.self.waiting.items ≤ length l.fn.self.waiting.items + (l.place - neighbours_start l.form.ends.now l.site);
  range : (most : ℕ) → IsWithinRange most l.fn.self → IsWithinRange (most + 20000000 * (l.place - neighbours_start l.form.ends.now l.site)) l.self;
  total : greatest_total l.self ≤ greatest_total l.fn.self + 20000000 * (l.place - neighbours_start l.form.ends.now l.site);
  spread : (m : Instance) (move : Move) → IsFormOf m move l.form
      → (decided : ArePartlyDecided m move (labelling l.form.at.now) (l.fn.self.summed) l.fn.self)
      → (by_site : AreBySite l.form.pairs.now l.form.ends.now)
      → IsSpread m move (labelling l.form.at.now) (l.fn.self.summed) decided.decisions l.site l.value (grouped_at l.form.ends.now by_site.places) l.place l.self;
}
