use Rattle.site_bounds.proofs.Putting.{passed_forced}
use Rattle.move_energy.proofs.Rising.{move_falls, move_over}
use Rattle.move_energy.specs.MoveValues.{move_value}
use Rattle.site_bounds.proofs.laws.move_is_submodular.Goals as goal

pub returns : goal.returns
returns c = record {
  falls = move_falls;
  sites = move_over;
  passed = λ m move f ds pairs allowed passed. passed_forced (move_value m move f) ds (move_falls m move f pairs allowed) passed;
}
