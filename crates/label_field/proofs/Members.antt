use Rattle.std.proofs.Common.{◌≡◌, ℕ, ◌+◌, ◌<◌, ◌≤◌, ◌⊎◌, inl, inr, Bool, true, false, cond, List, [], ◌∷◌, map, length, get_or, refl, sym, ◌∙◌, ap, subst, arith}
use Rattle.std.specs.List.{filter, flat_map, range_with_len, Contains}
use Rattle.std.proofs.lemmas.List.Elements.{Contains-append_left, Contains-append_right, Contains-append_cases, Contains-push, Contains-push_cases}
use Rattle.std.proofs.lemmas.List.FromFn.{length-range_with_len, get_or-range_with_len}

-- a list begins with its first element
pub contains_first : {X : Type 0} (x : X) (xs : List X) → Contains (x ∷ xs) x
contains_first x xs = Contains-append_left (x ∷ []) xs x (Contains-push [] x)

pub contains_here : {X : Type 0} (z : X) (xs : List X) (x : X) → z ≡ x → Contains (z ∷ xs) x
contains_here {X} z xs x is =
    let P : X → Type 0 = λ w. Contains (w ∷ xs) x in subst P (sym is) (contains_first x xs)

pub contains_later : {X : Type 0} (y : X) (xs : List X) (x : X) → Contains xs x → Contains (y ∷ xs) x
contains_later y xs x h = Contains-append_right (y ∷ []) xs x h

pub contains_none : {X : Type 0} (x : X) → Contains [] x → ⊥
contains_none x (k, below, is) = omega arith

pub contains_cases : {X : Type 0} (y : X) (xs : List X) (x : X) → Contains (y ∷ xs) x → (y ≡ x) ⊎ Contains xs x
contains_cases y xs x h =
    elim (Contains-append_cases (y ∷ []) xs x h) [
      | inl one ↦ elim (Contains-push_cases [] y x one) [ inl none ↦ absurd (contains_none x none) | inr is ↦ inl is ]
      | inr more ↦ inr more
    ]

-- an element of a `flat_map` comes from an element, and conversely
pub from_flat_map : {X A : Type 0} (f : X → List A) (xs : List X) (y : A) → Contains (flat_map f xs) y → (x : X) × Contains xs x × Contains (f x) y
from_flat_map f [] y h = absurd (contains_none y h)
from_flat_map f (x ∷ xs) y h =
    elim (Contains-append_cases (f x) (flat_map f xs) y h) [
      | inl here ↦ (x, contains_first x xs, here)
      | inr later ↦ let (z, among, there) = from_flat_map f xs y later in (z, contains_later x xs z among, there)
    ]

pub to_flat_map : {X A : Type 0} (f : X → List A) (xs : List X) (x : X) (y : A) → Contains xs x → Contains (f x) y → Contains (flat_map f xs) y
to_flat_map f [] x y among there = absurd (contains_none x among)
to_flat_map f (z ∷ xs) x y among there =
    elim (contains_cases z xs x among) [
      | inl is ↦ Contains-append_left (f z) (flat_map f xs) y (rw is there)
      | inr later ↦ Contains-append_right (f z) (flat_map f xs) y (to_flat_map f xs x y later there)
    ]

-- of a `map`
pub from_map : {X A : Type 0} (f : X → A) (xs : List X) (y : A) → Contains (map f xs) y → (x : X) × Contains xs x × (f x ≡ y)
from_map f [] y h = absurd (contains_none y h)
from_map f (x ∷ xs) y h =
    elim (contains_cases (f x) (map f xs) y h) [
      | inl is ↦ (x, contains_first x xs, is)
      | inr later ↦ let (z, among, is) = from_map f xs y later in (z, contains_later x xs z among, is)
    ]

pub to_map : {X A : Type 0} (f : X → A) (xs : List X) (x : X) → Contains xs x → Contains (map f xs) (f x)
to_map f [] x among = absurd (contains_none x among)
to_map f (z ∷ xs) x among =
    elim (contains_cases z xs x among) [
      | inl is ↦ contains_here (f z) (map f xs) (f x) (ap f is)
      | inr later ↦ contains_later (f z) (map f xs) (f x) (to_map f xs x later)
    ]

-- of a `filter`
pub from_filter : {X : Type 0} (test : X → Bool) (xs : List X) (x : X) → Contains (filter test xs) x → Contains xs x × (test x ≡ true)
from_filter test [] x h = absurd (contains_none x h)
from_filter test (z ∷ xs) x h =
    let split : (b : Bool) → test z ≡ b → Contains (cond b (z ∷ filter test xs) (filter test xs)) x → Contains (z ∷ xs) x × (test x ≡ true) =
    λ b e g. elim b as (λ v. test z ≡ v → Contains (cond v (z ∷ filter test xs) (filter test xs)) x → Contains (z ∷ xs) x × (test x ≡ true)) [
      | true ↦ λ e g. elim (contains_cases z (filter test xs) x g) [
        | inl is ↦ (contains_here z xs x is, ap test (sym is) ∙ e)
        | inr later ↦ let (among, passes) = from_filter test xs x later in (contains_later z xs x among, passes)
      ]
      | false ↦ λ e g. let (among, passes) = from_filter test xs x g in (contains_later z xs x among, passes)
    ] e g in
    split (test z) refl h

pub to_filter : {X : Type 0} (test : X → Bool) (xs : List X) (x : X) → Contains xs x → test x ≡ true → Contains (filter test xs) x
to_filter test [] x among passes = absurd (contains_none x among)
to_filter test (z ∷ xs) x among passes =
    elim (contains_cases z xs x among) [
      | inl is ↦
          let P : Bool → Type 0 = λ b. Contains (cond b (z ∷ filter test xs) (filter test xs)) x in
          subst P (sym (ap test is ∙ passes)) (contains_here z (filter test xs) x is)
      | inr later ↦
          let rest : Contains (filter test xs) x = to_filter test xs x later passes in
          elim (test z) as (λ b. Contains (cond b (z ∷ filter test xs) (filter test xs)) x) [
            | true ↦ contains_later z (filter test xs) x rest
            | false ↦ rest
          ]
    ]

-- the numbers from a on, n of them
pub range_from : (a n x : ℕ) → Contains (range_with_len a n) x → a ≤ x
range_from a n x (k, below, is) =
    let size : length (range_with_len a n) ≡ n = length-range_with_len a n in
    let within : k < n = omega arith in
    let at : get_or (range_with_len a n) k x ≡ a + k = get_or-range_with_len a n k x within in
    omega arith

-- the numbers below n
pub from_range : (n x : ℕ) → Contains (range_with_len 0 n) x → x < n
from_range n x (k, below, is) =
    let size : length (range_with_len 0 n) ≡ n = length-range_with_len 0 n in
    let within : k < n = omega arith in
    let at : get_or (range_with_len 0 n) k x ≡ 0 + k = get_or-range_with_len 0 n k x within in
    omega arith

pub to_range : (n x : ℕ) → x < n → Contains (range_with_len 0 n) x
to_range n x within = (x, omega (arith, length-range_with_len 0 n), get_or-range_with_len 0 n x x within ∙ omega arith)
