-- The digits of bits are the assignment that the bits are.
use Rattle.std.proofs.Common.{◌≡◌, ℕ, zero, suc, Bool, true, false, List, [], ◌∷◌, map, refl, ap, ◌∙◌}
use Rattle.pseudo_bool.specs.Energies.{Energy, assignment, value_at}
use Rattle.gco_calls.specs.Minima.{bits, digit_of}

bit_same : (xs : List Bool) (n : ℕ) → bits (map digit_of xs) n ≡ assignment xs n
bit_same [] n = refl
bit_same (true ∷ xs) zero = refl
bit_same (false ∷ xs) zero = refl
bit_same (x ∷ xs) (suc n) = bit_same xs n

pub bits_same : (xs : List Bool) → bits (map digit_of xs) ≡ assignment xs
bits_same xs = λ i n. bit_same xs n i

-- the value there, where the digits are those of the bits
pub value_same : (e : Energy) (xs : List Bool) (ys : List ℕ) → ys ≡ map digit_of xs → value_at e (bits ys) ≡ value_at e (assignment xs)
value_same e xs ys is = ap (value_at e) (ap bits is ∙ bits_same xs)
