-- Labels that rise and excess that comes down to the sink (Goldberg, Tarjan 1988, section 3).
use Rattle.std.specs.Prelude.{◌≡◌, ℕ, ◌+◌, ◌-◌, ◌*◌, ◌<◌, ◌≤◌, List, length, slice_index}
use Rattle.sums.specs.Sums.{sum_below}
use Rattle.flow_network.specs.Cut.{Network, nodes, total_capacity}
use Rattle.flow_network.specs.Preflow.{Flow, excess, IsPreflow}
use Rattle.flow_network.specs.Labels.{IsLabelling}

-- the label of a node that is cut off from the sink, where there are so many nodes: two more than
-- they are, above the length of every path
abbrev pub top_label : ℕ → ℕ
top_label count = count + 2

-- that label in a net
abbrev pub top : Network → ℕ
top net = top_label (nodes net)

-- a preflow, its excess in a list, and labels that fit it
pub record IsLabelledPreflow (net : Network) (flow : Flow) (kept labels : List ℕ) : Type 0 where
  pub preflow : IsPreflow net flow
  pub kept_len : length kept ≡ nodes net
  pub told : (v : ℕ) → v < nodes net → slice_index kept v ≡ excess net flow v
  pub labelling : IsLabelling net flow labels
  pub below_top : (v : ℕ) → v < nodes net → slice_index labels v ≤ top net

-- how far the labels can still rise
abbrev pub rise_left : Network → List ℕ → ℕ
rise_left net labels = sum_below (nodes net) (λ v. top net - slice_index labels v)

-- how far the excess stands above the sink
abbrev pub excess_height : Network → List ℕ → List ℕ → ℕ
excess_height net kept labels =
    sum_below (nodes net) (λ v. slice_index kept v * (slice_index labels v + 1))

-- what each push and each new label lowers
abbrev pub work_left : Network → List ℕ → List ℕ → ℕ
work_left net kept labels =
    rise_left net labels * (total_capacity net + 1) + excess_height net kept labels
