-- Reading a raster gives just its samples.
use Rattle.std.proofs.Common.{◌≡◌, ℕ, suc, zero, ◌-◌, ◌+◌, ◌*◌, ◌/◌, ◌%◌, ◌≤◌, ◌<◌, ◌⊎◌, inl, inr, List, [], ◌∷◌, ◌++◌, Bool, true, false, cond, nat_lt, Option, Some, None, Ok, Err, refl, sym, ap, ◌∙◌, arith, get_or, take, drop, length, length-append, subst}
use Rattle.std.specs.Prelude.{All}
use Rattle.std.proofs.lemmas.Bool.{cases_lt}
use Rattle.std.proofs.lemmas.Bool.Decides.{nat_tests}
use Rattle.std.proofs.lemmas.List.{take-append-drop, length-take-le}
use Rattle.std.proofs.Math.Seq.{take-append_seam, drop-append_seam}
use Rattle.std.proofs.lemmas.List.Elements.{All-cons}
use Rattle.pgm_image.specs.declared.error.PgmError.{PgmError}
use Rattle.pgm_image.specs.declared.error.PgmError.TheVariants.{OutOfMemory, NotPgm, BadHeader, ZeroSize, TooLarge, BadMaxval, SampleAboveMax, Truncated, BadSample}
use Rattle.pgm_image.specs.Raster.{raster, as_two_bytes, doubles, raster_size, samples_in, IsFirstAbove, RefusesSamples}
use Rattle.pgm_image.specs.Reading.{first_above, samples_or_fault, split_raster, raster_at, RefusesAs}
use Rattle.pgm_image.proofs.Rasters.{redoubled, sized_cases, front_bytes}

pub none_above : (m i : ℕ) (xs : List ℕ) → All (λ x. x ≤ m) xs → first_above m i xs ≡ None
none_above m i [] h = refl
none_above m i (x ∷ xs) h =
    let le : x ≤ m = h 0 0 (omega arith) in
    let no : nat_lt m x ≡ false = grind (arith, nat_tests) in
    rw no (none_above m (i + 1) xs (λ k d lt. h (suc k) d (omega arith)))

pub is_first : (m i j : ℕ) (xs : List ℕ) → IsFirstAbove m xs j → first_above m i xs ≡ Some (i + j)
is_first m i j [] f = absurd (omega (arith, f.within))
is_first m i zero (x ∷ xs) f =
    let lt : m < x = f.above in
    let yes : nat_lt m x ≡ true = grind (arith, nat_tests) in
    rw yes (ap (λ (n : ℕ). Some n) (omega arith))
is_first m i (suc j) (x ∷ xs) f =
    let le : x ≤ m = f.before 0 (omega arith) in
    let no : nat_lt m x ≡ false = grind (arith, nat_tests) in
    rw no (is_first m (i + 1) j xs (record { within = omega (arith, f.within); above = f.above; before = λ k lt. f.before (suc k) (omega arith) })
    ∙ ap (λ (n : ℕ). Some n) (omega arith))

later : (m x : ℕ) (xs : List ℕ) (j : ℕ) → x ≤ m → IsFirstAbove m xs j → IsFirstAbove m (x ∷ xs) (suc j)
later m x xs j le f =
    record { within = omega (arith, f.within); above = f.above; before = λ k. elim k as (λ n. n < suc j → get_or (x ∷ xs) n 0 ≤ m) [ zero ↦ λ lt. le | suc n ↦ λ lt. f.before n (omega arith) ] }

pub above_cases : (m : ℕ) (xs : List ℕ) → All (λ x. x ≤ m) xs ⊎ ((j : ℕ) × IsFirstAbove m xs j)
above_cases m [] = inl (λ k d lt. absurd (omega arith))
above_cases m (x ∷ xs) = elim (cases_lt m x) [
  | inl lt ↦ inr (0, record { within = omega arith; above = lt; before = λ k none. absurd (omega arith) })
  | inr le ↦ elim (above_cases m xs) [
    | inl all ↦ inl (All-cons (λ y. y ≤ m) x xs le all)
    | inr r ↦ inr (suc r.0, later m x xs r.0 le r.1)
  ]
]

pub raster_short : (count m : ℕ) (bytes : List ℕ) → length bytes < raster_size count m → raster_at count m bytes ≡ Err Truncated
unfolding raster_at
raster_short count m bytes lt = let yes : nat_lt (length bytes) (raster_size count m) ≡ true = grind (arith, nat_tests) in rw yes refl

pub raster_split : (count m : ℕ) (bytes : List ℕ) → raster_size count m ≤ length bytes
    → raster_at count m bytes ≡ split_raster m (take (raster_size count m) bytes) (drop (raster_size count m) bytes)
unfolding raster_at
raster_split count m bytes le = let no : nat_lt (length bytes) (raster_size count m) ≡ false = grind (arith, nat_tests) in rw no refl

pub raster_whole : (count m : ℕ) (bytes front rest xs : List ℕ) → raster_size count m ≤ length bytes
    → front ≡ take (raster_size count m) bytes → rest ≡ drop (raster_size count m) bytes → xs ≡ samples_in m front → All (λ x. x ≤ m) (samples_in m front)
    → raster_at count m bytes ≡ Ok (xs, rest)
raster_whole count m bytes front rest xs le ef er ex each =
    raster_split count m bytes le
    ∙ ap (λ (ys : List ℕ). split_raster m ys (drop (raster_size count m) bytes)) (sym ef)
    ∙ ap (λ (ys : List ℕ). split_raster m front ys) (sym er)
    ∙ ap (λ (o : Option ℕ). samples_or_fault o (samples_in m front) rest) (none_above m 0 (samples_in m front) each)
    ∙ ap (λ (ys : List ℕ). Ok (ys, rest)) (sym ex)

pub raster_refused : (count m i : ℕ) (bytes front rest : List ℕ) → raster_size count m ≤ length bytes
    → front ≡ take (raster_size count m) bytes → rest ≡ drop (raster_size count m) bytes → IsFirstAbove m (samples_in m front) i
    → raster_at count m bytes ≡ Err (SampleAboveMax i)
raster_refused count m i bytes front rest le ef er f =
    raster_split count m bytes le
    ∙ ap (λ (ys : List ℕ). split_raster m ys (drop (raster_size count m) bytes)) (sym ef)
    ∙ ap (λ (ys : List ℕ). split_raster m front ys) (sym er)
    ∙ ap (λ (o : Option ℕ). samples_or_fault o (samples_in m front) rest) (is_first m 0 i (samples_in m front) f ∙ ap (λ (n : ℕ). Some n) (omega arith))

doubles_length : (k : ℕ) (bs : List ℕ) → length bs ≡ 2 * k → length (doubles bs) ≡ k
unfolding doubles
doubles_length k [] e = omega arith
doubles_length k (a ∷ []) e = absurd (omega arith)
doubles_length k (a ∷ b ∷ bs) e = omega (arith, doubles_length (k - 1) bs (omega arith))

length_cases : (t : Bool) (count : ℕ) (bs ds : List ℕ) → length bs ≡ cond t count (2 * count) → (length bs ≡ 2 * count → length ds ≡ count) → length (cond t bs ds) ≡ count
length_cases true count bs ds e f = e
length_cases false count bs ds e f = f e

pub samples_length : (count m : ℕ) (front : List ℕ) → length front ≡ raster_size count m → length (samples_in m front) ≡ count
samples_length count m front e = length_cases (nat_lt m 256) count front (doubles front) e (doubles_length count front)

pub raster_error : (count m : ℕ) (bytes front rest : List ℕ) (e : PgmError) → raster_size count m ≤ length bytes
    → front ≡ take (raster_size count m) bytes → rest ≡ drop (raster_size count m) bytes → RefusesSamples m (samples_in m front) e
    → RefusesAs e (raster_at count m bytes)
raster_error count m bytes front rest OutOfMemory le ef er f = tt
raster_error count m bytes front rest (SampleAboveMax i) le ef er f = raster_refused count m i bytes front rest le ef er f
raster_error count m bytes front rest NotPgm le ef er f = absurd f
raster_error count m bytes front rest (BadHeader at) le ef er f = absurd f
raster_error count m bytes front rest ZeroSize le ef er f = absurd f
raster_error count m bytes front rest TooLarge le ef er f = absurd f
raster_error count m bytes front rest BadMaxval le ef er f = absurd f
raster_error count m bytes front rest Truncated le ef er f = absurd f
raster_error count m bytes front rest (BadSample at) le ef er f = absurd f

doubled_length : (xs : List ℕ) → length (as_two_bytes xs) ≡ 2 * length xs
unfolding as_two_bytes
doubled_length [] = refl
doubled_length (x ∷ xs) = omega (arith, doubled_length xs)

doubles_doubled : (xs : List ℕ) → doubles (as_two_bytes xs) ≡ xs
unfolding as_two_bytes doubles
doubles_doubled [] = refl
doubles_doubled (x ∷ xs) =
    let whole : 256 * (x / 256) + x % 256 ≡ x = omega arith in
    rw (whole, doubles_doubled xs) refl

size_cases : (t : Bool) (xs ds : List ℕ) → length ds ≡ 2 * length xs → length (cond t xs ds) ≡ cond t (length xs) (2 * length xs)
size_cases true xs ds e = refl
size_cases false xs ds e = e

pub raster_size_lem : (m : ℕ) (xs : List ℕ) → length (raster m xs) ≡ raster_size (length xs) m
raster_size_lem m xs = size_cases (nat_lt m 256) xs (as_two_bytes xs) (doubled_length xs)

back_cases : (t : Bool) (xs : List ℕ) → cond t (cond t xs (as_two_bytes xs)) (doubles (cond t xs (as_two_bytes xs))) ≡ xs
back_cases true xs = refl
back_cases false xs = doubles_doubled xs

samples_back : (m : ℕ) (xs : List ℕ) → samples_in m (raster m xs) ≡ xs
samples_back m xs = back_cases (nat_lt m 256) xs

-- a raster at the front is read as its samples
pub raster_front : (count m : ℕ) (xs rest : List ℕ) → length xs ≡ count → raster_at count m (raster m xs ++ rest) ≡ samples_or_fault (first_above m 0 xs) xs rest
raster_front count m xs rest e =
    let size : length (raster m xs) ≡ raster_size count m = raster_size_lem m xs ∙ ap (λ n. raster_size n m) e in
    let fits : raster_size count m ≤ length (raster m xs ++ rest) = omega (arith, size, length-append (raster m xs) rest) in
    let front : take (raster_size count m) (raster m xs ++ rest) ≡ raster m xs = ap (λ n. take n (raster m xs ++ rest)) (sym size) ∙ take-append_seam (raster m xs) rest in
    let back : drop (raster_size count m) (raster m xs ++ rest) ≡ rest = ap (λ n. drop n (raster m xs ++ rest)) (sym size) ∙ drop-append_seam (raster m xs) rest in
    raster_split count m (raster m xs ++ rest) fits
    ∙ ap (λ (ys : List ℕ). split_raster m ys (drop (raster_size count m) (raster m xs ++ rest))) front
    ∙ ap (λ (ys : List ℕ). split_raster m (raster m xs) ys) back
    ∙ ap (λ (ys : List ℕ). samples_or_fault (first_above m 0 ys) ys rest) (samples_back m xs)

raster_there : (t : Bool) (front ds : List ℕ) → cond t (cond t front ds) (as_two_bytes (cond t front ds)) ≡ cond t (cond t front ds) (as_two_bytes ds)
raster_there true front ds = refl
raster_there false front ds = refl

-- where there are enough bytes, there is a raster
pub raster_is : (count m : ℕ) (bytes : List ℕ) → ((i : ℕ) → get_or bytes i 0 < 256) → raster_size count m ≤ length bytes
    → (xs : List ℕ) × (rest : List ℕ) × (length xs ≡ count) × (bytes ≡ raster m xs ++ rest)
raster_is count m bytes small le =
    let front = take (raster_size count m) bytes in
    let rest = drop (raster_size count m) bytes in
    let split : bytes ≡ front ++ rest = sym (take-append-drop (raster_size count m) bytes) in
    let sized : length front ≡ raster_size count m = length-take-le (raster_size count m) bytes le in
    let b : (i : ℕ) → get_or front i 0 < 256 = front_bytes front rest (λ i. subst (λ ys. get_or ys i 0 < 256) split (small i)) in
    let r = sized_cases (nat_lt m 256) count front (doubles front) (as_two_bytes (doubles front)) sized (λ e. redoubled count front e b) in
    let whole : raster m (samples_in m front) ≡ front = raster_there (nat_lt m 256) front (doubles front) ∙ r.0 in
    (samples_in m front, rest, r.1, split ∙ ap (λ ys. ys ++ rest) (sym whole))
