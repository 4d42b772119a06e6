-- By how much each pair's cost rises where one of its ends turns, listed pair by pair.
use Rattle.std.specs.Prelude.{ℕ, ◌<◌, ◌≤◌, true, false, pos, List, length, slice_index_or}
use Rattle.std.specs.Prelude.{unsigned_abs}
use Rattle.label_field.specs.declared.pair.Pair.{Pair}
use Rattle.label_energies.specs.declared.change.Move.{Move}
use Rattle.label_energies.specs.Energies.{Instance}
use Rattle.cost_store.specs.Limits.{pair_cost_limit}
use Rattle.move_energy.specs.BySite.{pair_in}
use Rattle.move_energy.specs.Rising.{AreRises}
use Rattle.form_lists.specs.declared.by_pair.PairRises.{PairRises}

-- what a pair rises by at its two ends was read of it
pub record AreSidesOf (m : Instance) (move : Move) (f : ℕ → ℕ) (pair : Pair) (sides : PairRises)
    : Type 0 where
  pub first : AreRises m move pair.weight true (f pair.first) (f pair.second) sides.first
  pub second : AreRises m move pair.weight false (f pair.second) (f pair.first) sides.second

-- the rises of the pair at a place of a list
abbrev pub sides_in : List PairRises → ℕ → PairRises
sides_in sides i =
    slice_index_or sides i (record {
      first = record { low = pos 0; high = pos 0 };
      second = record { low = pos 0; high = pos 0 };
    })

-- those of each pair were read of it
abbrev pub AreSidesRead : Instance → Move → (ℕ → ℕ) → List PairRises → Type 0
AreSidesRead m move f sides =
    (i : ℕ) → i < length sides → AreSidesOf m move f (pair_in m.pairs i) (sides_in sides i)

-- none of a pair's rises is larger than its cost
pub record AreSidesSmall (sides : PairRises) : Type 0 where
  pub first : (unsigned_abs sides.first.low ≤ pair_cost_limit)
      × (unsigned_abs sides.first.high ≤ pair_cost_limit)
  pub second : (unsigned_abs sides.second.low ≤ pair_cost_limit)
      × (unsigned_abs sides.second.high ≤ pair_cost_limit)

-- nor of any pair's
abbrev pub AreAllSmall : List PairRises → Type 0
AreAllSmall sides = (i : ℕ) → i < length sides → AreSidesSmall (sides_in sides i)
