use Rattle.kept_labels.proofs.Giving.{kept_back}
use Rattle.kept_labels.proofs.Plain.{kept_plain}
use Rattle.kept_labels.proofs.laws.kept_is_plain.Goals as goal

pub returns : goal.returns
returns c = record { kept = kept_back; plain = kept_plain }
