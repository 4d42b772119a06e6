-- Lists that are filled, or written, one number after another.
use Rattle.std.proofs.Common.{◌≡◌, ℕ, ◌+◌, ◌<◌, List, [], ◌∷◌, ◌++◌, length, get_or, slice_set, sym, subst, ap, inl, inr, arith}
use Rattle.std.proofs.lemmas.Bool.{cases_eq, cases_lt}
use Rattle.std.proofs.lemmas.List.{get_or_append_left, get_or_push, get_or-set_same, get_or-set_other, length-append}

pub longer : {X : Type 0} (xs ys : List X) (x : X) (n : ℕ) → ys ≡ xs ++ x ∷ [] → length xs ≡ n → length ys ≡ n + 1
longer {X} xs ys x n is len = (let e = ap (λ (zs : List X). length zs) is in let a = length-append xs (x ∷ []) in omega (arith, e, a, len))

-- what holds of each number at its place, and of the next, holds of each
pub pushed : {X : Type 0} (P : ℕ → X → Type 0) (xs ys : List X) (x d : X) (n : ℕ) → ys ≡ xs ++ x ∷ [] → length xs ≡ n
    → ((k : ℕ) → k < n → P k (get_or xs k d)) → P n x → (k : ℕ) → k < n + 1 → P k (get_or ys k d)
pushed {X} P xs ys x d n is len before here k l =
    let Q : List X → Type 0 = λ zs. P k (get_or zs k d) in
    subst Q (sym is) (elim (cases_lt k n) [
      | inl earlier ↦
          let R : X → Type 0 = λ v. P k v in
          subst R (sym (get_or_append_left xs (x ∷ []) d k (omega (arith, earlier, len)))) (before k earlier)
      | inr last ↦
          let same : n ≡ k = omega (arith, last, l) in
          let at : length xs ≡ k = omega (arith, len, same) in
          let R : X → Type 0 = λ v. P k v in
          let S : ℕ → Type 0 = λ j. P j x in
          subst R (sym (get_or_push xs x d k at)) (subst S same here)
    ])

-- what holds of each number before a place, and of the one that is written there, holds of each
pub written : {X : Type 0} (P : ℕ → X → Type 0) (xs : List X) (n : ℕ) (x d : X) → n < length xs
    → ((k : ℕ) → k < n → P k (get_or xs k d)) → P n x → (k : ℕ) → k < n + 1 → P k (get_or (slice_set xs n x) k d)
written {X} P xs n x d inside before here k l = elim (cases_eq k n) [
  | inl same ↦
      let Q : ℕ → Type 0 = λ j. P j (get_or (slice_set xs n x) j d) in
      let R : X → Type 0 = λ v. P n v in
      subst Q (sym same) (subst R (sym (get_or-set_same xs n x d inside)) here)
  | inr other ↦
      let R : X → Type 0 = λ v. P k v in
      subst R (sym (get_or-set_other xs n k x d other)) (before k (omega (arith, l, other)))
]
