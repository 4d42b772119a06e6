use Rattle.std.proofs.Common.{◌≡◌, ◌+◌, ◌≤◌, length}
use Rattle.label_energies.specs.declared.change.Move.{Move}
use Rattle.label_energies.specs.Energies.{Instance, labelling}
use Rattle.site_forms.specs.Numbers.{IsFormOf}
use Rattle.site_bounds.specs.Finding.{IsInBudget, ends_left, total_left}
use Rattle.site_bounds.specs.Working.{AreWaiting, ArePartlyDecided, StayDecided}
use Rattle.site_bounds.proofs.bounds.Bounds.decide_waiting.Given as goal

abbrev pub invariant-deciding : goal.invariant-deciding
invariant-deciding l = record {
  budget : IsInBudget l.form l.self;
  same : l.self.summed ≡ l.fn.self.summed;
  waiting : AreWaiting (l.fn.self.summed) l.self;
  closed : StayDecided l.fn.self l.self;
  total : total_left l.form l.self ≤ total_left l.form l.fn.self;
  decided : (m : Instance) (move : Move) → IsFormOf m move l.form
      → ArePartlyDecided m move (labelling l.form.at.now) (l.fn.self.summed) l.fn.self
      → ArePartlyDecided m move (labelling l.form.at.now) (l.fn.self.summed) l.self;
}

abbrev pub decreases-deciding : goal.decreases-deciding
decreases-deciding l = length l.self.waiting.items + ends_left l.form l.self
