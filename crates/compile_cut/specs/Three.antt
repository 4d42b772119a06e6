use Rattle.std.specs.Prelude.{◌≡◌, ℕ, suc, ◌+◌, ◌*◌, ◌<◌, ◌≤◌, Bool, not, ◌&&◌, List, [], ◌∷◌, All}
use Rattle.std.specs.Prelude.{ℤ}
use Rattle.std.specs.Prelude.{pos}
use Rattle.std.specs.Prelude.{negsuc, ◌+ℤ◌, ◌-ℤ◌, ◌≤ℤ◌, unsigned_abs}
use Rattle.sums.specs.Sums.{count_if}
use Rattle.sums.specs.IntegerSums.{int_counted}
use Rattle.pseudo_bool.specs.Limits.{value_limit}
use Rattle.pseudo_bool.specs.Energies.{entry, digit, IsValue}
use Rattle.regular.specs.declared.fixed.Fixed.{Fixed}
use Rattle.regular.specs.Regularity.{IsRegularTable, projection}
use Rattle.compile_cut.specs.declared.adding.Nodes.{Nodes}
use Rattle.compile_cut.specs.declared.three.ThreeArcs.{ThreeArcs}
use Rattle.compile_cut.specs.declared.three.ThreePart.{ThreePart}

-- the numbers of three variables are numbers of nodes
pub record AreNodesBelow (count : ℕ) (nodes : Nodes) : Type 0 where
  pub first : nodes.first < count
  pub second : nodes.second < count
  pub third : nodes.third < count

-- each projection of a table of three variables is regular
abbrev pub AreProjectionsRegular : List ℤ → Type 0
AreProjectionsRegular table =
    (fixed : Fixed) → fixed.position < 3 → IsRegularTable (projection table fixed)

-- a table of three variables of numbers in their range, each projection of which is regular
pub record IsRegularOfThree (table : List ℤ) : Type 0 where
  pub values : All IsValue table
  pub regular : AreProjectionsRegular table

-- four places of a list of this length
pub record AreFourPlaces (count a b c d : ℕ) : Type 0 where
  pub first : a < count
  pub second : b < count
  pub third : c < count
  pub fourth : d < count

-- what a table has at two places less what it has at two others
abbrev pub balance_at : List ℤ → ℕ → ℕ → ℕ → ℕ → ℤ
balance_at table a b c d = entry table a +ℤ entry table b -ℤ entry table c -ℤ entry table d

-- the coefficient of the product of the three variables, in the polynomial that a table is
abbrev pub cubic_weight : List ℤ → ℤ
cubic_weight table = balance_at table 1 2 0 3 +ℤ balance_at table 4 7 5 6

-- the table over the complemented variables in the reverse order
abbrev pub turned_table : List ℤ → List ℤ
turned_table table =
    entry table 7 ∷ entry table 3 ∷ entry table 5 ∷ entry table 1 ∷ entry table 6 ∷ entry table 2
    ∷ entry table 4 ∷ entry table 0 ∷ []

-- what the arcs between a hidden node of this weight and three others carry into a set:
-- where the weight is above 0 they lead to the three, and where it is below 0 to the hidden node
abbrev pub hidden_value : ℤ → Bool → Bool → Bool → Bool → ℕ
hidden_value (pos n) w x y z =
    count_if (x && not w) n + count_if (y && not w) n + count_if (z && not w) n
hidden_value (negsuc n) w x y z =
    count_if (w && not x) (suc n) + count_if (w && not y) (suc n) + count_if (w && not z) (suc n)

-- the value of the parts, where the hidden node's arcs carry this much
abbrev pub part_sum : ThreePart → Bool → Bool → Bool → Bool → ℕ → ℤ
part_sum p w x y z carried =
    p.constant +ℤ int_counted x p.first +ℤ int_counted y p.second +ℤ int_counted z p.third
    +ℤ int_counted w p.hidden
    +ℤ pos (count_if (y && not x) p.arcs.first_second + count_if (z && not x) p.arcs.first_third
    + count_if (z && not y) p.arcs.second_third + carried)

-- the value of the parts, where the hidden node is in the set or not
abbrev pub part_value : ThreePart → Bool → Bool → Bool → Bool → ℤ
part_value p w x y z = part_sum p w x y z (hidden_value p.hidden w x y z)

-- what a table of three variables has at their values
abbrev pub entry_of_three : List ℤ → Bool → Bool → Bool → ℤ
entry_of_three table x y z = entry table (4 * digit x + 2 * digit y + digit z)

-- what the table has is the least value of the parts over the hidden node
pub record IsLeastOverHidden (table : List ℤ) (p : ThreePart) : Type 0 where
  pub lower : (w x y z : Bool) → entry_of_three table x y z ≤ℤ part_value p w x y z
  pub reached : (x y z : Bool) → (w : Bool) × (part_value p w x y z ≡ entry_of_three table x y z)

-- what the arcs between the variables carry, by what a table has where one variable is 0
pub record AreArcsAtZeros (table : List ℤ) (arcs : ThreeArcs) : Type 0 where
  pub first_second : pos arcs.first_second ≡ balance_at table 2 4 0 6
  pub first_third : pos arcs.first_third ≡ balance_at table 1 4 0 5
  pub second_third : pos arcs.second_third ≡ balance_at table 1 2 0 3
  pub small : arcs.first_second + arcs.first_third + arcs.second_third ≤ 12 * value_limit

-- the parts of a table by what it has where one variable is 0, and a hidden node of this weight
pub record IsSplitAtZeros (table : List ℤ) (weight : ℤ) (p : ThreePart) : Type 0 where
  pub constant : p.constant ≡ entry table 0
  pub first : p.first ≡ entry table 4 -ℤ entry table 0
  pub second : p.second ≡ entry table 6 -ℤ entry table 4
  pub third : p.third ≡ balance_at table 0 3 1 2 +ℤ (entry table 5 -ℤ entry table 4)
  pub arcs : AreArcsAtZeros table p.arcs
  pub hidden : p.hidden ≡ weight

-- the parts are small
pub record IsThreePartSmall (p : ThreePart) : Type 0 where
  pub constant : IsValue p.constant
  pub first : unsigned_abs p.first ≤ 8 * value_limit
  pub second : unsigned_abs p.second ≤ 2 * value_limit
  pub third : unsigned_abs p.third ≤ 8 * value_limit
  pub outer : unsigned_abs p.first + unsigned_abs p.third ≤ 10 * value_limit
  pub hidden : unsigned_abs p.hidden ≤ 8 * value_limit
  pub arcs : p.arcs.first_second + p.arcs.first_third + p.arcs.second_third ≤ 12 * value_limit
