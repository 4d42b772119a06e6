-- The rises of a pair by the labels of its ends, and where they stand in a table.
use Rattle.std.specs.Prelude.{◌≡◌, ℕ, ◌+◌, ◌*◌, Bool, true, false, cond, ℤ}
use Rattle.label_energies.specs.declared.change.Move.{Move}
use Rattle.label_energies.specs.Energies.{Instance}
use Rattle.label_energies.specs.Moves.{label_after}
use Rattle.move_energy.specs.declared.rises.EndRises.{EndRises}
use Rattle.move_energy.specs.Ends.{end_rise}

-- the most labels of a table: its rises take 64 KB
abbrev pub table_labels : ℕ
table_labels = 64

-- where the rises of these labels stand: a row for each own label, those of first ends before those
-- of second ends
abbrev pub entry_place : Bool → ℕ → ℕ → ℕ
entry_place first own other = (cond first 0 64 + own) * 64 + other

-- by how much the cost of a pair of this weight rises where an end of this label, the first or the
-- second, turns, while the neighbour of the other label has this bit
abbrev pub label_rise : Instance → Move → ℕ → Bool → ℕ → ℕ → Bool → ℤ
label_rise m move weight first own other bit =
    end_rise m weight first (label_after move own false) (label_after move own true)
    (label_after move other bit)

-- these are the rises, while the neighbour's value is 0 and while it is 1
abbrev pub AreRises : Instance → Move → ℕ → Bool → ℕ → ℕ → EndRises → Type 0
AreRises m move weight first own other rises =
    (rises.low ≡ label_rise m move weight first own other false)
    × (rises.high ≡ label_rise m move weight first own other true)
