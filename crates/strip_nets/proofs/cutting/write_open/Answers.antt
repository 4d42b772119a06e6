use Rattle.std.proofs.Common.{◌∙◌}
use Rattle.label_energies.specs.Energies.{labelling}
use Rattle.move_energy.specs.Choices.{choice_at, open_rank}
use Rattle.strip_nets.specs.RowForms.{form_in}
use Rattle.strip_nets.proofs.Writing.{stands_on}
use Rattle.strip_nets.proofs.cutting.write_open.Goals as goal

pub write_form-requires : goal.write_form-requires
write_form-requires c = record { laid = (_, _, c.in_ok-lay_open.ensures.laid.1) }

pub returns-clause-nodes : goal.returns-clause-nodes
returns-clause-nodes c = c.in_ok-write_form.ensures.nodes ∙ c.in_ok-lay_open.ensures.laid.1.nodes

pub returns-clause-stands : goal.returns-clause-stands
returns-clause-stands c = λ m move read starts.
    let a = c.args in
    let known = a.material.now.known.now in
    stands_on m move (labelling a.material.now.form.at.now) (choice_at known) (open_rank known) (form_in c.lay_open.new.room.form) c.write_form.new.written
    c.in_ok-write_form.ensures.nodes c.in_ok-write_form.ensures.value (c.in_ok-lay_open.ensures.stands m move read starts)
