use Rattle.std.proofs.Common.{◌≡◌, ℕ, zero, suc, ◌+◌, ◌<◌, ◌≤◌, inl, inr, Bool, true, false, cond, List, [], ◌∷◌, ◌++◌, map, refl, subst, arith}
use Rattle.std.specs.List.{filter, flat_map, range_with_len, Contains, AllPairs}
use Rattle.std.proofs.lemmas.List.Elements.{Contains-append_cases, Contains-get_or}
use Rattle.label_field.proofs.Members.{contains_first, contains_later, range_from, contains_cases, contains_none, from_flat_map, from_map, from_filter}

-- x is related to each element
abbrev pub Ahead : {X : Type 0} → (X → X → Type 0) → X → List X → Type 0
Ahead R x [] = Unit {0}
Ahead R x (y ∷ ys) = R x y × Ahead R x ys

-- each element is related to each later one: `AllPairs`, by recursion
abbrev pub Apart : {X : Type 0} → (X → X → Type 0) → List X → Type 0
Apart R [] = Unit {0}
Apart R (x ∷ xs) = Ahead R x xs × Apart R xs

pub ahead_of : {X : Type 0} (R : X → X → Type 0) (x : X) (xs : List X) → ((y : X) → Contains xs y → R x y) → Ahead R x xs
ahead_of R x [] h = tt
ahead_of R x (y ∷ ys) h = (h y (contains_first y ys), ahead_of R x ys (λ z among. h z (contains_later y ys z among)))

pub ahead_at : {X : Type 0} (R : X → X → Type 0) (x : X) (xs : List X) → Ahead R x xs → (y : X) → Contains xs y → R x y
ahead_at R x [] h y among = absurd (contains_none y among)
ahead_at {X} R x (z ∷ zs) h y among =
    elim (contains_cases z zs y among) [
      | inl is ↦ let P : X → Type 0 = λ w. R x w in subst P is h.0
      | inr later ↦ ahead_at R x zs h.1 y later
    ]

pub Apart-append : {X : Type 0} (R : X → X → Type 0) (xs ys : List X) → Apart R xs → Apart R ys
    → ((x y : X) → Contains xs x → Contains ys y → R x y) → Apart R (xs ++ ys)
Apart-append R [] ys left right across = right
Apart-append R (x ∷ xs) ys left right across = (
  ahead_of R x (xs ++ ys) (λ y among. elim (Contains-append_cases xs ys y among) [
    | inl here ↦ ahead_at R x xs left.0 y here
    | inr there ↦ across x y (contains_first x xs) there
  ]),
  Apart-append R xs ys left.1 right (λ z y among there. across z y (contains_later x xs z among) there),
)

-- one more element before a filter
kept : {X : Type 0} (R : X → X → Type 0) (test : X → Bool) (x : X) (xs : List X) (b : Bool) → test x ≡ b
    → Ahead (λ x y. test x ≡ true → test y ≡ true → R x y) x xs → Apart R (filter test xs) → Apart R (cond b (x ∷ filter test xs) (filter test xs))
kept R test x xs true e ahead rest = (
  ahead_of R x (filter test xs) (λ y among.
      let (listed, passes) = from_filter test xs y among in
      ahead_at (λ x y. test x ≡ true → test y ≡ true → R x y) x xs ahead y listed e passes),
  rest,
)
kept R test x xs false e ahead rest = rest

-- a filter keeps what holds of elements that pass
pub Apart-filter : {X : Type 0} (R : X → X → Type 0) (test : X → Bool) (xs : List X)
    → Apart (λ x y. test x ≡ true → test y ≡ true → R x y) xs → Apart R (filter test xs)
Apart-filter R test [] h = tt
Apart-filter R test (x ∷ xs) h = kept R test x xs (test x) refl h.0 (Apart-filter R test xs h.1)

pub Apart-map : {X A : Type 0} (R : A → A → Type 0) (f : X → A) (xs : List X) → Apart (λ x y. R (f x) (f y)) xs → Apart R (map f xs)
Apart-map R f [] h = tt
Apart-map {X} {A} R f (x ∷ xs) h = (
  ahead_of R (f x) (map f xs) (λ y among.
      let (z, listed, is) = from_map f xs y among in
      let P : A → Type 0 = λ w. R (f x) w in
      subst P is (ahead_at (λ x y. R (f x) (f y)) x xs h.0 z listed)),
  Apart-map R f xs h.1,
)

-- the lists of numbers in rising order, one after another
pub Apart-front : {A : Type 0} (R : A → A → Type 0) (f : ℕ → List A) (a n : ℕ) → ((x : ℕ) → Apart R (f x))
    → ((x y : ℕ) → x < y → (s t : A) → Contains (f x) s → Contains (f y) t → R s t) → Apart R (flat_map f (range_with_len a n))
Apart-front R f a zero each across = tt
Apart-front R f a (suc n) each across =
    Apart-append R (f a) (flat_map f (range_with_len (a + 1) n)) (each a) (Apart-front R f (a + 1) n each across)
    (λ s t here there.
    let (y, among, at) = from_flat_map f (range_with_len (a + 1) n) t there in
    let later : a + 1 ≤ y = range_from (a + 1) n y among in
    across a y (omega (arith, later)) s t here at)

pub AllPairs-from_apart : {X : Type 0} (R : X → X → Type 0) (xs : List X) → Apart R xs → AllPairs R xs
AllPairs-from_apart R [] h i j d below within = absurd (omega arith)
AllPairs-from_apart R (x ∷ xs) h i zero d below within = absurd (omega arith)
AllPairs-from_apart R (x ∷ xs) h zero (suc j) d below within = ahead_at R x xs h.0 _ (Contains-get_or xs j d (omega arith))
AllPairs-from_apart R (x ∷ xs) h (suc i) (suc j) d below within = AllPairs-from_apart R xs h.1 i j d (omega arith) (omega arith)
