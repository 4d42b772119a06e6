use Rattle.persistency.proofs.Agreeing.{each_agreed, none_agree, opened_agree}
use Rattle.persistency.proofs.laws.agreeing_is_by_variable.Goals as goal

pub returns : goal.returns
returns c = record { each = each_agreed; none = none_agree; opened = opened_agree }
