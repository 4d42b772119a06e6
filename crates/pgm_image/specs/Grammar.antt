-- The texts of a header, and of numbers.
use Rattle.std.specs.Prelude.{ℕ, List, [], ◌∷◌, ◌++◌, length, ◌≡◌, ◌+◌, ◌-◌, ◌*◌, ◌<◌, ◌≤◌, ◌==◌}
use Rattle.std.specs.Prelude.{◌&&◌, Bool, true, false, not, if◌then◌else◌}
use Rattle.pgm_image.specs.Signs.{is_space, is_line_end, is_digit}
use Rattle.pgm_image.specs.declared.header.Form.{Form}
use Rattle.pgm_image.specs.declared.header.Form.TheVariants.{Raw, Plain}

-- Any mix of white-space bytes and comments. A comment runs from a `#` to the next line end, that
-- byte included. `true`: a comment's rest, and then such a mix.
unfoldable pub is_mix : Bool → List ℕ → Bool
is_mix c [] = not c
is_mix true (b ∷ bs) = if is_line_end b then is_mix false bs else is_mix true bs
is_mix false (b ∷ bs) = if is_space b then is_mix false bs else (b == 35) && is_mix true bs

-- a white-space byte, and then any mix
unfoldable pub is_gap : List ℕ → Bool
is_gap [] = false
is_gap (b ∷ bs) = is_space b && is_mix false bs

unfoldable pub all_digits : List ℕ → Bool
all_digits [] = true
all_digits (b ∷ bs) = is_digit b && all_digits bs

-- the value of digits that follow the number n
unfoldable pub value : ℕ → List ℕ → ℕ
value n [] = n
value n (b ∷ bs) = value (10 * n + (b - 48)) bs

-- one or more digits of this value
pub record IsNumber (text : List ℕ) (n : ℕ) : Type 0 where
  pub digits : all_digits text ≡ true
  pub some : 0 < length text
  pub is_value : value 0 text ≡ n

-- these numbers, each after a gap
abbrev pub AreNumbers : List ℕ → List ℕ → Type 0
AreNumbers [] text = text ≡ []
AreNumbers (n ∷ ns) text = (gap : List ℕ) × (digits : List ℕ) × (more : List ℕ)
    × (is_gap gap ≡ true) × IsNumber digits n × AreNumbers ns more
    × (text ≡ gap ++ (digits ++ more))

abbrev pub magic : Form → List ℕ
magic Raw = 80 ∷ 53 ∷ []
magic Plain = 80 ∷ 50 ∷ []

-- a header: `P5` or `P2`, gap, width, gap, height, gap, maxval, and one white-space byte
pub record IsHeader (form : Form) (text : List ℕ) (w h m : ℕ) : Type 0 where
  pub numbers : List ℕ
  pub last : ℕ
  pub are_numbers : AreNumbers (w ∷ h ∷ m ∷ []) numbers
  pub is_last : is_space last ≡ true
  pub whole : text ≡ magic form ++ (numbers ++ last ∷ [])

-- a header of any form and numbers
abbrev pub IsAnyHeader : List ℕ → Type 0
IsAnyHeader text = (form : Form) × (w : ℕ) × (h : ℕ) × (m : ℕ) × IsHeader form text w h m

-- any number after a gap, ended by a white-space byte
pub record IsEndedNumber (text : List ℕ) : Type 0 where
  pub front : List ℕ
  pub number : ℕ
  pub last : ℕ
  pub are_numbers : AreNumbers (number ∷ []) front
  pub is_last : is_space last ≡ true
  pub whole : text ≡ front ++ last ∷ []

-- the bytes end, or white space follows
abbrev pub EndsNumber : List ℕ → Type 0
EndsNumber [] = Unit {0}
EndsNumber (b ∷ bs) = is_space b ≡ true

-- No front of the bytes is such a text, and the longest front that begins such a text has this
-- length.
pub record StopsAt (IsText : List ℕ → Type 0) (bytes : List ℕ) (at : ℕ) : Type 0 where
  pub none : (front rest : List ℕ) → bytes ≡ front ++ rest → IsText front → ⊥
  pub longest : List ℕ
  pub rest : List ℕ
  pub more : List ℕ
  pub split : bytes ≡ longest ++ rest
  pub at_is : length longest ≡ at
  pub begins : IsText (longest ++ more)
  pub no_longer : (front rest more : List ℕ) → bytes ≡ front ++ rest → IsText (front ++ more)
      → length front ≤ at
