use Rattle.form_costs.proofs.Values.{form_rest, form_energy}
use Rattle.form_costs.proofs.Best.{best_is_minimum}
use Rattle.form_costs.proofs.laws.form_is_energy.Goals as goal

pub returns : goal.returns
returns c = record { form = λ q pairs h. (form_rest q, form_energy q pairs h); minimum = best_is_minimum }
