use Rattle.std.specs.Prelude.{◌≡◌, ◌*◌, ◌≤◌, List, ℤ, pos, ◌-ℤ◌, unsigned_abs}
use Rattle.pseudo_bool.specs.Limits.{value_limit}
use Rattle.pseudo_bool.specs.Energies.{entry, IsValue}
use Rattle.compile_cut.specs.declared.parts.OnePart.{OnePart}
use Rattle.compile_cut.specs.declared.parts.PairPart.{PairPart}
use Rattle.compile_cut.specs.Three.{balance_at}

-- a table's value is the constant, and the weight where the variable is 1: both are small
pub record IsOnePart (table : List ℤ) (p : OnePart) : Type 0 where
  pub constant : p.constant ≡ entry table 0
  pub weight : p.weight ≡ entry table 1 -ℤ entry table 0
  pub small_constant : IsValue p.constant
  pub small_weight : unsigned_abs p.weight ≤ 2 * value_limit

-- a table's value is the constant, the weights of the variables that are 1, and the arc where the
-- first is 0 and the second is 1: all of them are small
pub record IsPairPart (table : List ℤ) (p : PairPart) : Type 0 where
  pub constant : p.constant ≡ entry table 0
  pub first : p.first ≡ entry table 2 -ℤ entry table 0
  pub second : p.second ≡ entry table 3 -ℤ entry table 2
  pub arc : pos p.arc ≡ balance_at table 1 2 0 3
  pub small_constant : IsValue p.constant
  pub small_first : unsigned_abs p.first ≤ 2 * value_limit
  pub small_second : unsigned_abs p.second ≤ 2 * value_limit
  pub small_arc : p.arc ≤ 4 * value_limit
