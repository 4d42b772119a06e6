use Rattle.flow_network.proofs.Smallest.{smallest_least, capacity_of_reach}
use Rattle.flow_network.proofs.laws.reach_is_smallest.Goals as goal

pub returns : goal.returns
returns c = λ net flow side h p r still.
    record { smallest = smallest_least net flow side h p r still; full = capacity_of_reach net flow side h p r still }
