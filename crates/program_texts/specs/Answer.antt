-- The answer to an energy.
use Rattle.std.specs.Prelude.{◌≡◌, ◌==◌, ℕ, Bool, true, false, ℤ, List, [], ◌++◌, codes, length}
use Rattle.std.specs.Prelude.{map, if◌then◌else◌}
use Rattle.std.specs.Fmt.{signed_decimal}
use Rattle.pseudo_bool.specs.Energies.{Energy, assignment, value_at}
use Rattle.compile_cut.specs.Shown.{IsSmallestLeastAssignment}

-- a yes-no value as a character
abbrev pub digit_code : Bool → ℕ
digit_code false = 48
digit_code true = 49

-- a blank and the digits of the variables in order, where there are any
abbrev pub digits_text : List Bool → List ℕ
digits_text bits = (if length bits == 0 then [] else codes " ") ++ map digit_code bits

-- the two lines of an answer
abbrev pub answer_text : ℤ → List Bool → List ℕ
answer_text minimum bits =
    codes "minimum " ++ signed_decimal minimum ++ codes "\nassignment"
    ++ digits_text bits ++ codes "\n"

-- the text tells the least value of the energy, and of the least assignments the one with the
-- fewest ones
pub record AnswersEnergy (e : Energy) (text : List ℕ) : Type 0 where
  pub bits : List Bool
  pub count : length bits ≡ e.variables
  pub best : IsSmallestLeastAssignment e (assignment bits)
  pub is : text ≡ answer_text (value_at e (assignment bits)) bits
