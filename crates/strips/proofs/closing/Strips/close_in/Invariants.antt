use Rattle.std.proofs.Common.{◌≤◌, ◌-◌}
use Rattle.move_energy.specs.Choices.{choice_at, AreOpenSites}
use Rattle.move_energy.specs.Weights.{AreWeights}
use Rattle.move_energy.specs.MoveValues.{move_value}
use Rattle.site_forms.specs.Numbers.{WhereRead}
use Rattle.persistency.specs.Agreeing.{Agree}
use Rattle.strips.specs.Closing.{CanClose}
use Rattle.strip_nets.specs.Views.{strip_view}
use Rattle.strips.proofs.closing.Strips.close_in.Given as goal

abbrev pub invariant-strips : goal.invariant-strips
invariant-strips l = record {
  inside : l.to ≤ l.all;
  can : CanClose l.form l.basis l.variables.choices.items;
  opened : AreOpenSites (strip_view l.variables.choices.items 0 l.to) l.self.opened.items;
  agree : WhereRead l.form (λ m move f. AreWeights m move f (choice_at l.basis.start.now) l.basis.weights.now → Agree m.sites (move_value m move f) (choice_at l.basis.start.now)
      → Agree m.sites (move_value m move f) (choice_at l.variables.choices.items));
}

abbrev pub decreases-strips : goal.decreases-strips
decreases-strips l = l.all - l.to
