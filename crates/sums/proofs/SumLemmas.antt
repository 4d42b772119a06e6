use Rattle.std.proofs.Common.{◌≡◌, ◌≢◌, ℕ, zero, suc, ◌+◌, ◌<◌, ◌≤◌, Bool, true, false, List, [], ◌∷◌, length, get_or, sum_by, refl, sym, ◌∙◌, ap, arith, eqb, inl, inr}
use Rattle.std.proofs.lemmas.Bool.{cases_lt}
use Rattle.std.proofs.lemmas.Bool.Decides.{nat_tests}
use Rattle.std.proofs.lemmas.List.Sums.{sum_by-cons}
use Rattle.sums.specs.Sums.{sum_below, count_if}

pub sum_below-add : (n : ℕ) (f g : ℕ → ℕ) → sum_below n (λ i. f i + g i) ≡ sum_below n f + sum_below n g
sum_below-add zero f g = refl
sum_below-add (suc n) f g = omega (arith, sum_below-add n f g)

pub sum_below-same : (n : ℕ) (f g : ℕ → ℕ) → ((i : ℕ) → i < n → f i ≡ g i) → sum_below n f ≡ sum_below n g
sum_below-same zero f g same = refl
sum_below-same (suc n) f g same = omega (arith, sum_below-same n f g (λ i h. same i (omega arith)), same n (omega arith))

pub sum_below-le : (n : ℕ) (f g : ℕ → ℕ) → ((i : ℕ) → i < n → f i ≤ g i) → sum_below n f ≤ sum_below n g
sum_below-le zero f g le = omega arith
sum_below-le (suc n) f g le = omega (arith, sum_below-le n f g (λ i h. le i (omega arith)), le n (omega arith))

pub sum_below-zero : (n : ℕ) → sum_below n (λ i. 0) ≡ 0
sum_below-zero zero = refl
sum_below-zero (suc n) = omega (arith, sum_below-zero n)

-- the order of two sums does not matter
pub sum_below-swap : (n m : ℕ) (f : ℕ → ℕ → ℕ)
    → sum_below n (λ i. sum_below m (λ k. f i k)) ≡ sum_below m (λ k. sum_below n (λ i. f i k))
sum_below-swap zero m f = sym (sum_below-zero m)
sum_below-swap (suc n) m f =
    omega (arith, sum_below-swap n m f, sum_below-add m (λ k. sum_below n (λ i. f i k)) (λ k. f n k))

-- the first term apart from the others
pub sum_below-front : (n : ℕ) (f : ℕ → ℕ) → sum_below (suc n) f ≡ f 0 + sum_below n (λ i. f (suc i))
sum_below-front zero f = omega arith
sum_below-front (suc n) f = omega (arith, sum_below-front n f)

-- a list's sum, by index
pub sum_by-sum_below : {A : Type 0} (f : A → ℕ) (xs : List A) (d : A)
    → sum_by f xs ≡ sum_below (length xs) (λ k. f (get_or xs k d))
sum_by-sum_below f [] d = refl
sum_by-sum_below f (x ∷ xs) d =
    omega (arith, sum_by-cons f x xs, sum_by-sum_below f xs d, sum_below-front (length xs) (λ k. f (get_or (x ∷ xs) k d)))

-- two terms that differ at one place alone
pub sum_below-change : (n u : ℕ) (f g : ℕ → ℕ) → u < n → ((i : ℕ) → i < n → i ≢ u → f i ≡ g i)
    → sum_below n g + f u ≡ sum_below n f + g u
sum_below-change zero u f g h same = absurd (omega arith)
sum_below-change (suc n) u f g h same = elim (cases_lt u n) [
  | inl below ↦ omega (arith, sum_below-change n u f g below (λ i l ne. same i (omega arith) ne), same n (omega arith) (omega arith))
  | inr above ↦
      let here : u ≡ n = omega arith in
      omega (arith, ap f here, ap g here, sum_below-same n f g (λ i l. same i (omega arith) (omega arith)))
]

pub counted-same : (u z : ℕ) → count_if (eqb u u) z ≡ z
counted-same u z = grind (arith, nat_tests)

pub counted-other : (u i z : ℕ) → i ≢ u → count_if (eqb u i) z ≡ 0
counted-other u i z ne = grind (arith, nat_tests)

pub sum_below-counted : (m : ℕ) (b : Bool) (f : ℕ → ℕ) → count_if b (sum_below m f) ≡ sum_below m (λ k. count_if b (f k))
sum_below-counted m true f = refl
sum_below-counted m false f = sym (sum_below-zero m)

pub counted-counted : (a b : Bool) (z : ℕ) → count_if a (count_if b z) ≡ count_if b (count_if a z)
counted-counted true b z = refl
counted-counted false true z = refl
counted-counted false false z = refl

pub counted-le : (b : Bool) (z : ℕ) → count_if b z ≤ z
counted-le true z = omega arith
counted-le false z = omega arith

-- of all places, the one that is counted
pub sum_below-pick : (n u : ℕ) (g : ℕ → ℕ) → u < n → sum_below n (λ v. count_if (eqb u v) (g v)) ≡ g u
sum_below-pick n u g h =
    omega (
      arith,
      counted-same u (g u),
      sum_below-zero n,
      sum_below-change n u (λ v. 0) (λ v. count_if (eqb u v) (g v)) h (λ v l ne. sym (counted-other u v (g v) ne)),
    )

pub counted-true : (b : Bool) (z : ℕ) → b ≡ true → count_if b z ≡ z
counted-true true z h = refl
counted-true false z h = cc

pub counted-zero : (b : Bool) (z : ℕ) → (b ≡ true → z ≡ 0) → count_if b z ≡ 0
counted-zero true z h = h refl
counted-zero false z h = refl

pub sum_below-none : (n : ℕ) (f : ℕ → ℕ) → ((i : ℕ) → i < n → f i ≡ 0) → sum_below n f ≡ 0
sum_below-none n f h = sum_below-same n f (λ i. 0) h ∙ sum_below-zero n

-- a term is at most the sum
pub term-le-sum_below : (n : ℕ) (f : ℕ → ℕ) (i : ℕ) → i < n → f i ≤ sum_below n f
term-le-sum_below zero f i l = absurd (omega arith)
term-le-sum_below (suc n) f i l = elim (cases_lt i n) [
  | inl below ↦ omega (arith, term-le-sum_below n f i below)
  | inr above ↦ let here : i ≡ n = omega arith in omega (arith, ap f here)
]

-- a shorter sum is at most the longer one
pub sum_below-le-longer : (m n : ℕ) (f : ℕ → ℕ) → m ≤ n → sum_below m f ≤ sum_below n f
sum_below-le-longer m zero f l = let here : m ≡ 0 = omega arith in omega (arith, ap (λ i. sum_below i f) here)
sum_below-le-longer m (suc n) f l = elim (cases_lt m (suc n)) [
  | inl below ↦ omega (arith, sum_below-le-longer m n f (omega arith))
  | inr above ↦ let here : m ≡ suc n = omega arith in omega (arith, ap (λ i. sum_below i f) here)
]
