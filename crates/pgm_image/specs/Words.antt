-- Numbers after gaps, read one byte at a time.
use Rattle.std.specs.Prelude.{ℕ, suc, zero, List, [], ◌∷◌, ◌==◌, ◌<◌, Result, Ok, Err, length, ⊤}
use Rattle.std.specs.Prelude.{if◌then◌else◌}
use Rattle.pgm_image.specs.Signs.{is_space, is_line_end, is_digit, with_digit}
use Rattle.pgm_image.specs.declared.words.Place.{Place}
use Rattle.pgm_image.specs.declared.words.Place.TheVariants.{Start, Gap, Comment, Number}
use Rattle.pgm_image.specs.declared.words.Step.{Step}
use Rattle.pgm_image.specs.declared.words.Step.TheVariants.{On, Ended, Bad}
use Rattle.pgm_image.specs.declared.words.Reading.{Reading}
use Rattle.pgm_image.specs.declared.words.Reading.TheVariants.{Whole, Cut, Stuck}

abbrev pub step_in_gap : ℕ → Step
step_in_gap b =
    if is_space b then On Gap
    else if b == 35 then On Comment
    else if is_digit b then On (Number (with_digit 0 b))
    else Bad

abbrev pub step_in_number : ℕ → ℕ → Step
step_in_number n b =
    if is_digit b then On (Number (with_digit n b))
    else if is_space b then Ended n
    else Bad

abbrev pub step : Place → ℕ → Step
step Start b = if is_space b then On Gap else Bad
step Gap b = step_in_gap b
step Comment b = if is_line_end b then On Gap else On Comment
step (Number n) b = step_in_number n b

-- what reading gives, where f reads on
abbrev pub onward : Step → (Place → Reading × List ℕ) → ℕ → List ℕ → Reading × List ℕ
onward (On q) f b bs = f q
onward (Ended n) f b bs = (Whole n, b ∷ bs)
onward Bad f b bs = (Stuck, b ∷ bs)

-- how reading from this place ends, and what it leaves
unfoldable pub number_at : Place → List ℕ → Reading × List ℕ
number_at p [] = (Cut p, [])
number_at p (b ∷ bs) = onward (step p b) (λ q. number_at q bs) b bs

-- the white space after a number is left
abbrev pub IsNonEmptyIfEnded : Reading → List ℕ → Type 0
IsNonEmptyIfEnded (Whole n) rest = 0 < length rest
IsNonEmptyIfEnded _ rest = ⊤

abbrev pub whole : Reading × List ℕ → Result (ℕ × List ℕ) ℕ
whole (Whole n, rest) = Ok (n, rest)
whole (Cut p, rest) = Err (length rest)
whole (Stuck, rest) = Err (length rest)

-- the number that white space ends, and what it leaves; or how many bytes cannot go on
abbrev pub whole_number : List ℕ → Result (ℕ × List ℕ) ℕ
whole_number bytes = whole (number_at Start bytes)

abbrev pub with_number : ℕ → Result (List ℕ × List ℕ) ℕ → Result (List ℕ × List ℕ) ℕ
with_number n (Ok x) = Ok (n ∷ x.0, x.1)
with_number n (Err left) = Err left

abbrev pub after_number : Result (ℕ × List ℕ) ℕ → (List ℕ → Result (List ℕ × List ℕ) ℕ)
    → Result (List ℕ × List ℕ) ℕ
after_number (Ok x) f = with_number x.0 (f x.1)
after_number (Err left) f = Err left

-- so many numbers, each after a gap and ended by white space
unfoldable pub numbers_at : ℕ → List ℕ → Result (List ℕ × List ℕ) ℕ
numbers_at zero bytes = Ok ([], bytes)
numbers_at (suc k) bytes = after_number (whole_number bytes) (λ rest. numbers_at k rest)
