use Rattle.std.proofs.Common.{◌∙◌}
use Rattle.label_energies.specs.Energies.{labelling}
use Rattle.strip_nets.specs.RowForms.{form_in}
use Rattle.strip_nets.proofs.Looking.{stage_least}
use Rattle.strip_nets.proofs.cutting.cut_open.Goals as goal

pub row_side-requires : goal.row_side-requires
row_side-requires c = record { laid = (_, _, c.in_ok-lay_open.ensures.laid.1) }

pub returns-clause-count : goal.returns-clause-count
returns-clause-count c = c.in_ok-bits.ensures.bits ∙ c.in_ok-lay_open.ensures.laid.1.nodes

pub returns-clause-least : goal.returns-clause-least
returns-clause-least c = λ m move read starts.
    let a = c.args in
    stage_least m move (labelling a.material.now.form.at.now) a.material.now.known.now (form_in c.lay_open.new.room.form) c.in_ok-bits.bits.items read.instance
    (c.in_ok-lay_open.ensures.stands m move read starts) c.in_ok-bits.ensures.least
