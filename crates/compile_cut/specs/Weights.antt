use Rattle.std.specs.Prelude.{◌≡◌, ℕ, suc, ◌+◌, ◌<◌, ◌≤◌, Bool, List, All, length, sum_by, vec_len}
use Rattle.std.specs.Prelude.{ℤ, pos, negsuc, ◌+ℤ◌, unsigned_abs}
use Rattle.std.specs.Global.{Vec}
use Rattle.sums.specs.Sums.{count_if}
use Rattle.sums.specs.IntegerSums.{int_sum_below, int_counted}
use Rattle.pseudo_bool.specs.Energies.{entry}
use Rattle.flow_network.specs.declared.arc.Arc.{Arc}
use Rattle.flow_network.specs.Cut.{IsArc, enters}

-- the weights of the nodes of a set
abbrev pub weights_value : List ℤ → (ℕ → Bool) → ℤ
weights_value weights x = int_sum_below (length weights) (λ i. int_counted (x i) (entry weights i))

-- all weights together, without their signs
abbrev pub weights_size : List ℤ → ℕ
weights_size weights = sum_by unsigned_abs weights

-- what the arcs carry into the set
abbrev pub arcs_value : List Arc → (ℕ → Bool) → ℕ
arcs_value arcs x = sum_by (λ arc. count_if (enters x arc) arc.capacity) arcs

-- all that the arcs can carry
abbrev pub arcs_size : List Arc → ℕ
arcs_size arcs = sum_by (λ arc. arc.capacity) arcs

-- the arc can carry something
abbrev pub IsAbove : Arc → Type 0
IsAbove arc = 0 < arc.capacity

-- arcs are added, each between two nodes of a list: of their total capacity this much is carried
-- into a set
pub record AddsArcs (old new : List Arc) (ends : List ℕ) (total : ℕ) (carried : (ℕ → Bool) → ℕ)
    : Type 0 where
  pub value : (x : ℕ → Bool) → arcs_value new x ≡ arcs_value old x + carried x
  pub size : arcs_size new ≡ arcs_size old + total
  pub nodes : (n : ℕ) → All (λ end. end < n) ends → All (IsArc n) old → All (IsArc n) new
  pub above : All IsAbove old → All IsAbove new

-- numbers of at most this total size are added to weights: a set's weight grows by this much
pub record AddsWeights (old new : Vec ℤ) (most : ℕ) (added : (ℕ → Bool) → ℤ) : Type 0 where
  pub len : vec_len new ≡ vec_len old
  pub value : (x : ℕ → Bool)
      → weights_value new.items x ≡ weights_value old.items x +ℤ added x
  pub size : weights_size new.items ≤ weights_size old.items + most

-- the capacity that a weight above 0 is at the source
abbrev pub source_part : ℤ → ℕ
source_part (pos n) = n
source_part (negsuc n) = 0

-- the capacity that a weight below 0 is at the sink
abbrev pub sink_part : ℤ → ℕ
sink_part (pos n) = 0
sink_part (negsuc n) = suc n
