use Rattle.std.proofs.Common.{◌≡◌, ℕ, ◌+◌, ◌<◌, ◌≤◌, ◌^◌, List, [], ◌∷◌, ◌++◌, length, map, take, get_or, ℤ, pos, ◌+ℤ◌, ◌-ℤ◌, refl, ap, arith, zero, suc, ◌≢◌, inl, inr, w64, FitsSigned, to_z, of_z, unsigned_abs}
use Rattle.std.proofs.lemmas.Bool.{cases_lt}
use Rattle.std.proofs.lemmas.Int.{ints, to_z-of_z}
use Rattle.std.proofs.lemmas.List.{take_more}
use Rattle.sums.specs.IntegerSums.{int_sum_below, int_sum_by}

pub int_sum_below-same : (n : ℕ) (f g : ℕ → ℤ) → ((i : ℕ) → i < n → f i ≡ g i) → int_sum_below n f ≡ int_sum_below n g
int_sum_below-same zero f g same = refl
int_sum_below-same (suc n) f g same = omega (arith, ints, int_sum_below-same n f g (λ i h. same i (omega arith)), same n (omega arith))

pub int_sum_below-zero : (n : ℕ) → int_sum_below n (λ i. pos 0) ≡ pos 0
int_sum_below-zero zero = refl
int_sum_below-zero (suc n) = omega (arith, ints, int_sum_below-zero n)

pub int_sum_by-append : {A : Type 0} (f : A → ℤ) (xs ys : List A) → int_sum_by f (xs ++ ys) ≡ int_sum_by f xs +ℤ int_sum_by f ys
int_sum_by-append f [] ys = omega (arith, ints)
int_sum_by-append f (x ∷ xs) ys = omega (arith, ints, int_sum_by-append f xs ys)

pub int_sum_by_push : {A : Type 0} (f : A → ℤ) (xs : List A) (y : A) → int_sum_by f (xs ++ y ∷ []) ≡ int_sum_by f xs +ℤ f y
int_sum_by_push f xs y = omega (arith, ints, int_sum_by-append f xs (y ∷ []))

-- a loop's step
pub int_sum_by_more : {A : Type 0} (f : A → ℤ) (xs : List A) (i : ℕ) (d : A) → i < length xs
    → int_sum_by f (take (i + 1) xs) ≡ int_sum_by f (take i xs) +ℤ f (get_or xs i d)
int_sum_by_more f xs i d h = rw (take_more xs i d h) (int_sum_by_push f (take i xs) (get_or xs i d))

-- the first term apart from the others
pub int_sum_below-front : (n : ℕ) (f : ℕ → ℤ) → int_sum_below (suc n) f ≡ f 0 +ℤ int_sum_below n (λ i. f (suc i))
int_sum_below-front zero f = omega (arith, ints)
int_sum_below-front (suc n) f = omega (arith, ints, int_sum_below-front n f)

-- two terms that differ at one place alone
pub int_sum_below-change : (n u : ℕ) (f g : ℕ → ℤ) → u < n → ((i : ℕ) → i < n → i ≢ u → f i ≡ g i)
    → int_sum_below n g +ℤ f u ≡ int_sum_below n f +ℤ g u
int_sum_below-change zero u f g h same = absurd (omega arith)
int_sum_below-change (suc n) u f g h same = elim (cases_lt u n) [
  | inl below ↦ omega (arith, ints, int_sum_below-change n u f g below (λ i l ne. same i (omega arith) ne), same n (omega arith) (omega arith))
  | inr above ↦
      let here : u ≡ n = omega arith in
      omega (arith, ints, ap f here, ap g here, int_sum_below-same n f g (λ i l. same i (omega arith) (omega arith)))
]

-- the sum over what a function makes of each element
pub int_sum_by-map : {A B : Type 0} (f : B → ℤ) (g : A → B) (xs : List A) → int_sum_by f (map g xs) ≡ int_sum_by (λ x. f (g x)) xs
int_sum_by-map f g [] = refl
int_sum_by-map f g (x ∷ xs) = omega (arith, ints, int_sum_by-map f g xs)

-- ---- numbers of a machine

pub within_fits : (m : ℕ) (z : ℤ) → unsigned_abs z ≤ m → m < 2 ^ 63 → FitsSigned w64 z
within_fits m z h l = record { sfits = grind (arith, ints) }

-- what the code's `y + z` gives, where it fits
pub add_is : (y z : ℤ) → FitsSigned w64 y → FitsSigned w64 z → FitsSigned w64 (y +ℤ z)
    → to_z w64 (of_z w64 (to_z w64 (of_z w64 y) +ℤ to_z w64 (of_z w64 z))) ≡ y +ℤ z
add_is y z fy fz f = simp to_z-of_z

pub abs-add : (y z : ℤ) → unsigned_abs (y +ℤ z) ≤ unsigned_abs y + unsigned_abs z
abs-add y z = grind (arith, ints)

pub abs-sub : (y z : ℤ) → unsigned_abs (y -ℤ z) ≤ unsigned_abs y + unsigned_abs z
abs-sub y z = grind (arith, ints)
