-- Weak duality: messages move costs between sites and pairs, and whatever they are, what the sites
-- cost at least then is a bound from below.
use Rattle.std.specs.Prelude.{◌==◌, ℕ, suc, ◌<◌, ℤ, pos, ◌+ℤ◌, ◌≤ℤ◌, List, [], ◌∷◌}
use Rattle.sums.specs.IntegerSums.{int_sum_below, int_counted}
use Rattle.label_field.specs.declared.pair.Pair.{Pair}
use Rattle.label_energies.specs.Energies.{Instance, IsInstance}
use Rattle.message_bound.specs.Bounds.{IsLowerBound}

-- what the messages of pairs, the first of them number k, add at a label of a site: each pair has a
-- message for its first site and one for its second, below 0 where it takes off
abbrev pub added_at : (ℕ → ℕ → ℤ) → (ℕ → ℕ → ℤ) → List Pair → ℕ → ℕ → ℕ → ℤ
added_at to_first to_second [] k site label = pos 0
added_at to_first to_second (pair ∷ pairs) k site label =
    (int_counted (pair.first == site) (to_first k label)
    +ℤ int_counted (pair.second == site) (to_second k label))
    +ℤ added_at to_first to_second pairs (suc k) site label

-- what a label costs a site once all messages are passed (the costs "reparameterised")
abbrev pub adjusted_cost : Instance → (ℕ → ℕ → ℤ) → (ℕ → ℕ → ℤ) → ℕ → ℕ → ℤ
adjusted_cost m to_first to_second site label =
    pos (m.data_cost site label) +ℤ added_at to_first to_second m.pairs 0 site label

-- no pair adds more than it costs: at each two labels its messages are together at most their cost
abbrev pub AreAfforded : Instance → (ℕ → ℕ → ℤ) → (ℕ → ℕ → ℤ) → List Pair → ℕ → Type 0
AreAfforded m to_first to_second [] k = Unit {0}
AreAfforded m to_first to_second (pair ∷ pairs) k =
    ((a b : ℕ) → a < m.labels → b < m.labels
    → (to_first k a +ℤ to_second k b) ≤ℤ pos (m.smooth_cost pair.weight a b))
    × AreAfforded m to_first to_second pairs (suc k)

-- messages that the pairs can afford prove a bound: a number for each site that no label there
-- costs less than, once they are passed. The sum of these numbers is one that no energy is below
abbrev pub WeakDuality : Type 0
WeakDuality =
    (m : Instance) (to_first to_second : ℕ → ℕ → ℤ) (least : ℕ → ℤ) → IsInstance m
    → AreAfforded m to_first to_second m.pairs 0
    → ((site label : ℕ) → site < m.sites → label < m.labels
    → least site ≤ℤ adjusted_cost m to_first to_second site label)
    → IsLowerBound m (int_sum_below m.sites least)
