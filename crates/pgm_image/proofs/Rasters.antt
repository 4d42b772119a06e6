-- Rasters by parts, and there and back.
use Rattle.std.proofs.Common.{◌≡◌, ℕ, suc, ◌-◌, ◌+◌, ◌*◌, ◌/◌, ◌%◌, ◌≤◌, ◌<◌, List, [], ◌∷◌, ◌++◌, Bool, true, false, cond, nat_lt, refl, sym, ap, ◌∙◌, append_assoc, arith, get_or, drop, drop-cons, add-one, length, zero}
use Rattle.std.proofs.lemmas.List.{append-nil, drop_all}
use Rattle.pgm_image.specs.Raster.{raster, as_two_bytes, doubles}

raster_cases : (t : Bool) (a b : List ℕ) (x y z : List ℕ) → x ++ y ≡ z → cond t (a ++ b) z ≡ cond t a x ++ cond t b y
raster_cases true a b x y z e = refl
raster_cases false a b x y z e = sym e

doubled_append : (a b : List ℕ) → as_two_bytes a ++ as_two_bytes b ≡ as_two_bytes (a ++ b)
unfolding as_two_bytes
doubled_append [] b = refl
doubled_append (x ∷ a) b = ap (λ zs. x / 256 ∷ (x % 256 ∷ zs)) (doubled_append a b)

pub raster_append : (m : ℕ) (a b : List ℕ) → raster m (a ++ b) ≡ raster m a ++ raster m b
raster_append m a b = raster_cases (nat_lt m 256) a b (as_two_bytes a) (as_two_bytes b) (as_two_bytes (a ++ b)) (doubled_append a b)

pub raster_goes : (m i : ℕ) (bytes xs total : List ℕ) → i < length xs → bytes ++ raster m (drop i xs) ≡ total → (bytes ++ raster m (get_or xs i 0 ∷ [])) ++ raster m (drop (i + 1) xs) ≡ total
raster_goes m i bytes xs total lt e =
    let one : drop i xs ≡ (get_or xs i 0 ∷ []) ++ drop (i + 1) xs = rw (add-one, drop-cons xs i 0) refl in
    append_assoc bytes (raster m (get_or xs i 0 ∷ [])) (raster m (drop (i + 1) xs))
    ∙ ap (λ zs. bytes ++ zs) (sym (raster_append m (get_or xs i 0 ∷ []) (drop (i + 1) xs)) ∙ ap (λ zs. raster m zs) (sym one)) ∙ e

abbrev list_of : List ℕ → List ℕ
list_of xs = xs

raster_nil : (t : Bool) → [] ≡ cond t (list_of []) (list_of [])
raster_nil true = refl
raster_nil false = refl

pub raster_done : (m i : ℕ) (bytes xs total : List ℕ) → length xs ≤ i → bytes ++ raster m (drop i xs) ≡ total → bytes ≡ total
unfolding as_two_bytes
raster_done m i bytes xs total le e =
    let none : drop i xs ≡ [] = drop_all i xs le in
    sym (append-nil bytes) ∙ ap (λ zs. bytes ++ zs) (raster_nil (nat_lt m 256)) ∙ sym (ap (λ zs. bytes ++ raster m zs) none) ∙ e

-- two bytes a sample, there and back
pub redoubled : (k : ℕ) (bs : List ℕ) → length bs ≡ 2 * k → ((i : ℕ) → get_or bs i 0 < 256) → (as_two_bytes (doubles bs) ≡ bs) × (length (doubles bs) ≡ k)
unfolding as_two_bytes doubles
redoubled k [] e f = (refl, omega arith)
redoubled k (a ∷ []) e f = absurd (omega arith)
redoubled k (a ∷ b ∷ bs) e f =
    let r = redoubled (k - 1) bs (omega arith) (λ i. f (suc (suc i))) in
    let small : b < 256 = f 1 in
    let high : (256 * a + b) / 256 ≡ a = omega arith in
    let low : (256 * a + b) % 256 ≡ b = omega arith in
    (rw (high, low, r.0) refl, omega (arith, r.1))

pub sized_cases : (t : Bool) (count : ℕ) (bs ds dds : List ℕ) → length bs ≡ cond t count (2 * count) → (length bs ≡ 2 * count → (dds ≡ bs) × (length ds ≡ count))
    → (cond t (cond t bs ds) dds ≡ bs) × (length (cond t bs ds) ≡ count)
sized_cases true count bs ds dds e f = (refl, e)
sized_cases false count bs ds dds e f = f e

pub front_bytes : (front rest : List ℕ) → ((i : ℕ) → get_or (front ++ rest) i 0 < 256) → (i : ℕ) → get_or front i 0 < 256
front_bytes [] rest f i = omega arith
front_bytes (x ∷ front) rest f zero = f 0
front_bytes (x ∷ front) rest f (suc i) = front_bytes front rest (λ k. f (suc k)) i

pub raster_none : (m : ℕ) → raster m [] ≡ []
unfolding as_two_bytes
raster_none m = sym (raster_nil (nat_lt m 256))

doubled_length : (xs : List ℕ) → length (as_two_bytes xs) ≡ 2 * length xs
unfolding as_two_bytes
doubled_length [] = refl
doubled_length (x ∷ xs) = omega (arith, doubled_length xs)

length_cases : (t : Bool) (xs ds : List ℕ) → length ds ≡ 2 * length xs → length (cond t xs ds) ≤ 2 * length xs
length_cases true xs ds e = omega arith
length_cases false xs ds e = omega arith

pub raster_length : (m : ℕ) (xs : List ℕ) → length (raster m xs) ≤ 2 * length xs
raster_length m xs = length_cases (nat_lt m 256) xs (as_two_bytes xs) (doubled_length xs)
