use Rattle.std.proofs.Common.{◌≡◌, ◌≤◌, ◌-◌, List, length}
use Rattle.label_energies.specs.declared.change.Move.{Move}
use Rattle.label_energies.specs.Energies.{Instance, IsInstance, labelling}
use Rattle.move_energy.specs.declared.choice.Choice.{Choice}
use Rattle.move_energy.specs.Choices.{choice_at, AreOpenSites}
use Rattle.move_energy.specs.MoveValues.{move_value}
use Rattle.site_forms.specs.Numbers.{IsFormOf}
use Rattle.persistency.specs.Agreeing.{Agree}
use Rattle.strip_nets.specs.Views.{KeepsChosen, strip_view}
use Rattle.strips.proofs.parting.close_range.Given as goal

abbrev pub invariant-strips : goal.invariant-strips
invariant-strips l = record {
  inside : l.end ≤ l.to;
  from : l.from ≤ l.end;
  count : length l.known.items ≡ length l.fn.known.items;
  goes_on : (start : List Choice) → KeepsChosen start l.fn.known.items → KeepsChosen start l.known.items;
  opened : AreOpenSites (strip_view l.known.items l.from l.end) l.strips.opened.items;
  agree : (m : Instance) (move : Move) → IsFormOf m move l.form → IsInstance m
      → Agree m.sites (move_value m move (labelling l.form.at.now)) (choice_at l.fn.known.items)
      → Agree m.sites (move_value m move (labelling l.form.at.now)) (choice_at l.known.items);
}

abbrev pub decreases-strips : goal.decreases-strips
decreases-strips l = l.to - l.end
