-- A quadratic form as what two labels cost.
use Rattle.std.specs.Prelude.{◌≡◌, ℕ, zero, suc, ◌<◌, ◌≤◌, ◌==◌, ◌++◌, ◌∷◌, [], Bool, false, List}
use Rattle.std.specs.Prelude.{length, map, replicate, slice_index, slice_index_or, take, vec_len}
use Rattle.std.specs.Prelude.{unsigned_abs, ℤ, pos, negsuc, ◌+ℤ◌}
use Rattle.flow_network.specs.declared.arc.Arc.{Arc}
use Rattle.label_field.specs.declared.pair.Pair.{Pair}
use Rattle.label_field.specs.PairLists.{PairList, IsPairList}
use Rattle.label_energies.specs.declared.change.Move.TheVariants.{Expand}
use Rattle.label_energies.specs.Energies.{Instance, energy}
use Rattle.label_energies.specs.Moves.{IsBest}
use Rattle.cost_store.specs.Limits.{site_cost_limit, pair_cost_limit}
use Rattle.cost_store.specs.Posed.{instance_by_pair}
use Rattle.pseudo_bool.specs.Energies.{Energy, IsEnergy, entry, digit}
use Rattle.compile_cut.specs.declared.quadratic.Quadratic.{Quadratic}
use Rattle.compile_cut.specs.Quadratics.{quadratic_value, SaysValues}
use Rattle.compile_cut.specs.Shown.{IsSmallestLeastAssignment}

-- what a label costs a site whose node has this weight: the dearer of the two costs its size
abbrev pub side_cost : ℤ → ℕ → ℕ
side_cost (pos n) zero = 0
side_cost (pos n) (suc label) = n
side_cost (negsuc n) zero = suc n
side_cost (negsuc n) (suc label) = 0

-- the capacity of the arc of a number
abbrev pub capacity_in : List Arc → ℕ → ℕ
capacity_in arcs number =
    (slice_index_or arcs number (record { from = 0; to = 0; capacity = 0 })).capacity

-- what two labels cost the pair of an arc: its capacity where the first is 0 and the second is not
abbrev pub arc_cost : List Arc → ℕ → ℕ → ℕ → ℕ
arc_cost arcs number zero zero = 0
arc_cost arcs number zero (suc b) = capacity_in arcs number
arc_cost arcs number (suc a) b = 0

-- the pair of an arc
abbrev pub pair_of_arc : Arc → Pair
pair_of_arc arc = record { first = arc.from; second = arc.to; weight = 0 }

-- the pairs are those of these arcs
abbrev pub AreArcPairs : List Arc → PairList → Type 0
AreArcPairs arcs pairs = pairs.list ≡ map pair_of_arc arcs

-- the pair of one arc more, of a capacity that a pair may cost
pub record AddsArc (arc : Arc) (old new : PairList) : Type 0 where
  pub sites : new.sites ≡ old.sites
  pub weighted : new.numbered ≡ old.numbered
  pub list : new.list ≡ old.list ++ pair_of_arc arc ∷ []
  pub capacity : arc.capacity ≤ pair_cost_limit

-- the pairs are those of the form, whose numbers are costs
pub record AreFormPairs (q : Quadratic) (pairs : PairList) : Type 0 where
  pub are : IsPairList pairs
  pub sites : pairs.sites ≡ vec_len q.weights
  pub weighted : pairs.numbered ≡ false
  pub list : AreArcPairs q.arcs.items pairs
  pub weights : (p : ℕ) → unsigned_abs (entry q.weights.items p) ≤ site_cost_limit
  pub capacities : (k : ℕ) → k < length q.arcs.items
      → capacity_in q.arcs.items k ≤ pair_cost_limit

-- the problem of a form
abbrev pub instance_of_form : Quadratic → PairList → Instance
instance_of_form q pairs = instance_by_pair pairs 2
    (λ p label. side_cost (entry q.weights.items p) label) (arc_cost q.arcs.items)

-- the labelling that an assignment is
abbrev pub bits_as_labels : (ℕ → Bool) → ℕ → ℕ
bits_as_labels x p = digit (x p)

-- the value is the energy of that labelling, but for a fixed number
abbrev pub FormIsEnergy : Type 0
FormIsEnergy = (q : Quadratic) (pairs : PairList) → AreFormPairs q pairs → (rest : ℤ)
    × ((x : ℕ → Bool) → quadratic_value q x
    ≡ rest +ℤ pos (energy (instance_of_form q pairs) (bits_as_labels x)))

-- the best labelling that an expansion of label 1 from label 0 reaches is the least assignment of
-- the energy with the fewest ones
abbrev pub BestIsMinimum : Type 0
BestIsMinimum = (e : Energy) (q : Quadratic) (pairs : PairList) (g : List ℕ) (x : ℕ → Bool)
    → IsEnergy e → SaysValues e q → e.variables ≤ vec_len q.weights → AreFormPairs q pairs
    → IsBest (instance_of_form q pairs) (Expand 1) (replicate (vec_len q.weights) 0) g
    → ((p : ℕ) → p < e.variables → x p ≡ (slice_index g p == 1))
    → IsSmallestLeastAssignment e x
