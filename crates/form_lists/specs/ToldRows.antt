-- The table of rises by what is known, as it is written.
use Rattle.std.specs.Prelude.{◌≡◌, ℕ, ◌<◌, ◌≤◌, true, false, cond, ℤ, pos, ◌*ℤ◌, List}
use Rattle.std.specs.Prelude.{unsigned_abs}
use Rattle.cost_store.specs.Limits.{pair_cost_limit}
use Rattle.move_energy.specs.declared.choice.Choice.{Choice}
use Rattle.move_energy.specs.declared.rises.EndRises.{EndRises}
use Rattle.move_energy.specs.Choices.{bit_of}
use Rattle.site_forms.specs.declared.by_known.ToldRises.{ToldRises}
use Rattle.site_forms.specs.Fields.{unit_rises_at}

-- at least and at most, by the rises while the other end is at 0 and while it is at 1
abbrev pub known_rises : ℤ → ℤ → Choice → ToldRises
known_rises low high choice = record {
  least = cond (bit_of choice true) high low;
  greatest = cond (bit_of choice false) high low;
}

-- these are the rises of a pair of this weight, and those of weight 1 are such
pub record AreTimes (weight : ℕ) (units : EndRises) (choice : Choice) (told : ToldRises) : Type 0
  where
    pub least : told.least ≡ pos weight *ℤ cond (bit_of choice true) units.high units.low
    pub greatest : told.greatest ≡ pos weight *ℤ cond (bit_of choice false) units.high units.low
    pub small : (unsigned_abs told.least ≤ pair_cost_limit)
        × (unsigned_abs told.greatest ≤ pair_cost_limit)

-- the rises of weight 1 are not large, of so many labels
abbrev pub AreUnitsSmall : ℕ → List EndRises → Type 0
AreUnitsSmall labels table = (own other : ℕ) → own < labels → other < labels
    → (unsigned_abs (unit_rises_at table true own other).low ≤ 10000)
    × (unsigned_abs (unit_rises_at table true own other).high ≤ 10000)
