use Rattle.flow_network.proofs.Duality.{least_of_certified}
use Rattle.flow_network.proofs.laws.certified_is_least.Goals as goal

pub returns : goal.returns
returns c = λ net flow side value h d. record { least = least_of_certified net flow side value h d; capacity = d.told }
