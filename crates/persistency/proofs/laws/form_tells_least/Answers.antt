use Rattle.persistency.proofs.Forms.{form_least, form_smallest}
use Rattle.persistency.proofs.laws.form_tells_least.Goals as goal

pub returns : goal.returns
returns c = record { least = form_least; smallest = form_smallest }
