-- What a yes to a cut means.
use Rattle.std.proofs.Common.{Result, Ok, Err, IfOk, IsTrue, ◌↔◌, Bool}
use Rattle.std.specs.declared.alloc.AllocError.{AllocError}
use Rattle.flow_network.specs.declared.solved.Solved.{Solved}
use Rattle.flow_network.specs.Cut.{Network, IsNet}
use Rattle.flow_network.specs.Answer.{side_of, IsRightCut}
use Rattle.flow_network.specs.Laws.{IsLeastCutOf}
use Rattle.flow_network.proofs.Duality.{least_of_certified}

-- a right cut is a least cut of that value
pub least_of_right : (net : Network) (s : Solved) → IsNet net → IsRightCut net s → IsLeastCutOf net (side_of s) s.value
least_of_right net s h r =
    record { least = least_of_certified net _ (side_of s) s.value h r.certified; capacity = r.certified.told }

-- where yes means a right cut, it means a least cut of that value
pub least_when : (net : Network) (s : Solved) → IsNet net → (r : Result Bool AllocError)
    → IfOk r (λ yes. IsTrue yes ↔ IsRightCut net s) → IfOk r (λ yes. IsTrue yes → IsLeastCutOf net (side_of s) s.value)
least_when net s h (Ok answer) means = λ yes. least_of_right net s h (means.0 yes)
least_when net s h (Err f) means = means
