use Rattle.persistency.proofs.Forms.{less_border_form, reweighed_form}
use Rattle.persistency.proofs.laws.form_less_border.Goals as goal

pub returns : goal.returns
returns c = record { value = less_border_form; weights = reweighed_form }
