-- The table of rises by what is known, as it is filled.
use Rattle.std.proofs.Common.{◌≡◌, ℕ, ◌+◌, ◌*◌, ◌<◌, ◌≤◌, refl, sym, Bool, true, false, cond, List, All, slice_index, ℤ, pos, ◌*ℤ◌, ◌-ℤ◌, unsigned_abs, ap, ◌∙◌, arith}
use Rattle.std.proofs.lemmas.Int.{ints}
use Rattle.move_energy.specs.declared.choice.Choice.{Choice}
use Rattle.move_energy.specs.declared.choice.Choice.TheVariants.{Open, Zero, One}
use Rattle.move_energy.specs.declared.rises.EndRises.{EndRises}
use Rattle.move_energy.specs.declared.by_site.Neighbours.{Neighbours}
use Rattle.move_energy.specs.Choices.{bit_of}
use Rattle.site_forms.specs.declared.by_known.ToldRises.{ToldRises}
use Rattle.site_forms.specs.Fields.{table_cost, code_of, known_place, weighed_rise, AreUnitRises, AreToldFor, AreToldRises, AreUniform, AreScaled, AreExpanding, unit_rises_at}
use Rattle.site_forms.proofs.Entries.{small_cost, label_within, site_label_within}
use Rattle.site_forms.proofs.Places.{scaled}
use Rattle.form_lists.specs.declared.lists.FormLists.{FormLists}
use Rattle.form_lists.specs.Lists.{IsToldTable, IsToldAsSaid, AreMoveLabels}
use Rattle.label_energies.specs.Moves.{IsSwap}
use Rattle.label_energies.specs.declared.change.Move.{Move}
use Rattle.label_energies.specs.declared.change.Move.TheVariants.{Expand, Swap}
use Rattle.form_lists.specs.ToldRows.{known_rises, AreTimes, AreUnitsSmall}

pub code_small : (choice : Choice) → code_of choice ≤ 2
code_small Open = omega arith
code_small Zero = omega arith
code_small One = omega arith

pub times_of : (weight : ℕ) (units : EndRises) (low high : ℤ) (choice : Choice) → low ≡ pos weight *ℤ units.low → high ≡ pos weight *ℤ units.high
    → unsigned_abs low ≤ 10000000 → unsigned_abs high ≤ 10000000 → AreTimes weight units choice (known_rises low high choice)
times_of weight units low high Open l h ls hs = record { least = h; greatest = l; small = (hs, ls) }
times_of weight units low high Zero l h ls hs = record { least = l; greatest = l; small = (ls, ls) }
times_of weight units low high One l h ls hs = record { least = h; greatest = h; small = (hs, hs) }

-- what stands before a place of the row, or in another row, is at none of the three places there
pub earlier : (own n other : ℕ) (choice : Choice) → other < n → known_place own other choice < own * 256 + n * 4
earlier own n other choice l = (let c = code_small choice in omega (arith, l, c))

pub within_row : (own other : ℕ) (choice : Choice) → other < 64 → known_place own other choice < own * 256 + 256
within_row own other choice l = (let c = code_small choice in omega (arith, l, c))

-- ---- the rises of a pair, by those of weight 1

times_rise : (stays turns smooth : List ℕ) (weight own other : ℕ) (units : EndRises) (bit : Bool) → AreUnitRises stays turns smooth true own other units
    → pos weight *ℤ cond bit units.high units.low ≡ weighed_rise stays turns smooth weight own other bit
times_rise stays turns smooth weight own other units true are =
    ap (λ z. pos weight *ℤ z) are.high
    ∙ scaled weight (table_cost smooth true (slice_index turns own) (slice_index turns other)) (table_cost smooth true (slice_index stays own) (slice_index turns other))
times_rise stays turns smooth weight own other units false are =
    ap (λ z. pos weight *ℤ z) are.low
    ∙ scaled weight (table_cost smooth true (slice_index turns own) (slice_index stays other)) (table_cost smooth true (slice_index stays own) (slice_index stays other))

pub told_of : (stays turns smooth : List ℕ) (weight own other : ℕ) (choice : Choice) (units : EndRises) (told : ToldRises) → AreUnitRises stays turns smooth true own other units
    → AreTimes weight units choice told → AreToldRises stays turns smooth weight own other choice told
told_of stays turns smooth weight own other choice units told are times = record {
  least = times.least ∙ times_rise stays turns smooth weight own other units (bit_of choice true) are;
  greatest = times.greatest ∙ times_rise stays turns smooth weight own other units (bit_of choice false) are;
  small = times.small;
}

-- ---- the lists of which the form is lent

unit_within : (a b : ℕ) (z : ℤ) → z ≡ pos a -ℤ pos b → a ≤ 10000 → b ≤ 10000 → unsigned_abs z ≤ 10000
unit_within a b z is l h = omega (arith, ints, is, l, h)

-- rises of weight 1 are differences of costs
pub units_small : (stays turns smooth : List ℕ) (labels : ℕ) (table : List EndRises) → ((place : ℕ) → slice_index smooth place ≤ 10000)
    → ((first : Bool) (own other : ℕ) → own < labels → other < labels → AreUnitRises stays turns smooth first own other (unit_rises_at table first own other))
    → AreUnitsSmall labels table
units_small stays turns smooth labels table small are own other l h =
    let units = are true own other l h in (
      unit_within _ _ _ units.low (small_cost smooth true _ _ small) (small_cost smooth true _ _ small),
      unit_within _ _ _ units.high (small_cost smooth true _ _ small) (small_cost smooth true _ _ small),
    )

-- a table of all labels serves those of sites
table_of : (weight labels : ℕ) (at : List ℕ) (lists : FormLists) → All (λ label. label < labels) at → lists.listed ≡ false → IsToldTable weight labels lists
    → AreToldFor weight at lists.stays.items lists.turns.items lists.smooth.costs.items lists.smooth.symmetric lists.few lists.listed lists.told.items
table_of weight labels at lists all weighted told = record {
  weighted = weighted;
  mirrored = told.mirrored;
  labels = told.few;
  rows = λ u l. (let below = label_within at u labels l all in let rows = told.rows in omega (arith, below, rows));
  rises = λ own other choice mine theirs. told.rises own other choice (site_label_within at labels own all mine) (site_label_within at labels other all theirs);
}

pub uniform_of : (ends : Neighbours) (labels : ℕ) (at : List ℕ) (lists : FormLists) → All (λ label. label < labels) at → lists.listed ≡ false → IsToldAsSaid labels ends lists
    → lists.uniform ≡ true → AreUniform ends at lists.stays.items lists.turns.items lists.smooth.costs.items lists.smooth.symmetric lists.few lists.listed lists.told.items
uniform_of ends labels at lists all weighted told is = record { even = (told.even is).0; table = table_of ends.weight labels at lists all weighted (told.even is).1 }

pub scaled_of : (ends : Neighbours) (labels : ℕ) (at : List ℕ) (lists : FormLists) → All (λ label. label < labels) at → lists.listed ≡ false → IsToldAsSaid labels ends lists
    → lists.scaled ≡ true → AreScaled ends at lists.stays.items lists.turns.items lists.smooth.costs.items lists.smooth.symmetric lists.few lists.listed lists.told.items
scaled_of ends labels at lists all weighted told is = record { differ = (told.unit is).0; table = table_of 1 labels at lists all weighted (told.unit is).1 }

-- and an expansion's label is told by what labels become
pub expanding_of : (ends : Neighbours) (labels : ℕ) (at : List ℕ) (move : Move) (lists : FormLists) (alpha : ℕ) → All (λ label. label < labels) at
    → AreMoveLabels labels move lists → (IsSwap move → ⊥) → ((a : ℕ) → move ≡ Expand a → alpha ≡ a) → lists.listed ≡ false → ends.even ≡ true → ends.weight ≤ 1000
    → lists.smooth.symmetric ≡ true → lists.few ≡ false
    → AreExpanding ends at lists.stays.items lists.turns.items lists.smooth.symmetric lists.few lists.listed alpha
expanding_of ends labels at (Expand a) lists alpha all become expands is weighted even light mirrored many = record {
  weighted = weighted;
  even = even;
  light = light;
  mirrored = mirrored;
  many = many;
  stay = λ own mine. become.stays_are own (site_label_within at labels own all mine);
  turn = λ own mine. become.turns_are own (site_label_within at labels own all mine) ∙ sym (is a refl);
}
expanding_of ends labels at (Swap a b) lists alpha all become expands is weighted even light mirrored many = absurd (expands tt)
