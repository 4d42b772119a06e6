use Rattle.std.proofs.Common.{◌≡◌, ◌+◌, ◌*◌, ◌≤◌, length, map, take, sum_by}
use Rattle.std.specs.Prelude.{vec_len, vec_capacity}
use Rattle.label_energies.specs.declared.change.Move.{Move}
use Rattle.label_energies.specs.Energies.{Instance, IsInstance, labelling}
use Rattle.compile_cut.specs.Weights.{weights_size}
use Rattle.move_energy.specs.BySite.{degree}
use Rattle.move_energy.specs.Choices.{choice_at}
use Rattle.site_bounds.specs.Parts.{site_weight}
use Rattle.site_forms.specs.Numbers.{IsFormOf}
use Rattle.strip_nets.proofs.reading.read_weights.Given as goal

abbrev pub invariant-loop-index : goal.invariant-loop-index
invariant-loop-index l = record {
  room : length l.opened ≤ vec_capacity l.weights;
  len : vec_len l.weights ≡ l.index;
  size : weights_size l.weights.items ≤ 10000000 * l.index + 10000000 * sum_by (degree l.form.ends.now) (take l.index l.opened);
  listed : (m : Instance) (move : Move) → IsFormOf m move l.form → IsInstance m
      → l.weights.items ≡ map (site_weight m move (labelling l.form.at.now) (choice_at l.known)) (take l.index l.opened);
}
