-- What is 1 in both of two assignments, and what is 1 in one of them.
use Rattle.std.proofs.Common.{◌≡◌, ℕ, zero, suc, ◌<◌, ◌≤◌, Bool, true, false, ℤ, ◌+ℤ◌, ◌≤ℤ◌, refl, sym, ap, ◌∙◌, inl, inr, arith, ◌&&◌, ◌||◌}
use Rattle.std.proofs.lemmas.Int.{ints}
use Rattle.std.proofs.lemmas.Bool.{cases_eq, cases_Bool}
use Rattle.move_energy.specs.Assignments.{set_bit, OnesWithin, IsSubmodular, IsOver}
use Rattle.move_energy.proofs.Assignments.{set_at, set_other, set_same, value_same}

abbrev pub both : (ℕ → Bool) → (ℕ → Bool) → ℕ → Bool
both x y k = x k && y k

abbrev pub either : (ℕ → Bool) → (ℕ → Bool) → ℕ → Bool
either x y k = x k || y k

pub both_first : (a b : Bool) → (a && b) ≡ true → a ≡ true
both_first true b h = refl
both_first false b h = h

pub both_second : (a b : Bool) → (a && b) ≡ true → b ≡ true
both_second true b h = h
both_second false b h = absurd (cc (h))

pub either_first : (a b : Bool) → a ≡ true → (a || b) ≡ true
either_first a b h = ap (λ c. c || b) h

or_true : (a : Bool) → (a || true) ≡ true
or_true true = refl
or_true false = refl

or_false : (a : Bool) → (a || false) ≡ a
or_false true = refl
or_false false = refl

or_more : (a b : Bool) → ((a && b) || b) ≡ b
or_more true true = refl
or_more true false = refl
or_more false b = refl

or_grows : (a b c : Bool) → (a ≡ true → c ≡ true) → (a || b) ≡ true → (c || b) ≡ true
or_grows true b c within h = either_first c b (within refl)
or_grows false b c within h = ap (λ d. c || d) h ∙ or_true c

-- x, where of the first n variables those that are 1 in y are 1 too
abbrev grown : (ℕ → Bool) → (ℕ → Bool) → ℕ → ℕ → Bool
grown x y zero = x
grown x y (suc n) = set_bit (grown x y n) n (x n || y n)

grown_above : (x y : ℕ → Bool) (n k : ℕ) → n ≤ k → grown x y n k ≡ x k
grown_above x y zero k l = refl
grown_above x y (suc n) k l =
    set_other (grown x y n) n k (x n || y n) (λ same. omega (arith, same, l)) ∙ grown_above x y n k (omega (arith, l))

grown_below : (x y : ℕ → Bool) (n k : ℕ) → k < n → grown x y n k ≡ (x k || y k)
grown_below x y zero k l = absurd (omega (arith, l))
grown_below x y (suc n) k l = elim (cases_eq k n) [
  | inl same ↦ set_at (grown x y n) n k (x n || y n) same ∙ ap (λ i. x i || y i) (sym same)
  | inr other ↦ set_other (grown x y n) n k (x n || y n) other ∙ grown_below x y n k (omega (arith, l, other))
]

grown_within : (x y z : ℕ → Bool) (n : ℕ) → OnesWithin x z → OnesWithin (grown x y n) (grown z y n)
grown_within x y z zero within k one = within k one
grown_within x y z (suc n) within k one = elim (cases_eq k n) [
  | inl same ↦
      set_at (grown z y n) n k (z n || y n) same
      ∙ or_grows (x n) (y n) (z n) (within n) (sym (set_at (grown x y n) n k (x n || y n) same) ∙ one)
  | inr other ↦
      set_other (grown z y n) n k (z n || y n) other
      ∙ grown_within x y z n within k (sym (set_other (grown x y n) n k (x n || y n) other) ∙ one)
]

-- a variable that has its value already
stays : (E : (ℕ → Bool) → ℤ) (x : ℕ → Bool) (n : ℕ) (b : Bool) → x n ≡ b → E (set_bit x n b) ≡ E x
stays E x n b h = value_same E (set_bit x n b) x (set_same x n b h)

-- growing by y raises the value more at the lower end
grows_less : (E : (ℕ → Bool) → ℤ) (x y : ℕ → Bool) (n : ℕ) → IsSubmodular E
    → (E (grown x y (suc n)) +ℤ E (grown (both x y) y n)) ≤ℤ (E (grown x y n) +ℤ E (grown (both x y) y (suc n)))
grows_less E x y n falls =
    let low = both x y in
    let G = grown x y n in
    let H = grown low y n in
    let at_G = grown_above x y n n (omega arith) in
    let at_H = grown_above low y n n (omega arith) in
    elim (cases_Bool (y n)) [
      | inr none ↦
          let g = stays E G n (x n || y n) (at_G ∙ sym (ap (λ b. x n || b) none ∙ or_false (x n))) in
          let h = stays E H n (low n || y n) (at_H ∙ sym (ap (λ b. low n || b) none ∙ or_false (low n))) in
          omega (arith, ints, g, h)
      | inl one ↦ elim (cases_Bool (x n)) [
        | inl has ↦
            let g = stays E G n (x n || y n) (at_G ∙ has ∙ sym (either_first (x n) (y n) has)) in
            let low_has : low n ≡ true = ap (λ b. b && y n) has ∙ one in
            let h = stays E H n (low n || y n) (at_H ∙ low_has ∙ sym (either_first (low n) (y n) low_has)) in
            omega (arith, ints, g, h)
        | inr lacks ↦
            let low_lacks : low n ≡ false = ap (λ b. b && y n) lacks in
            let g = ap (λ b. E (set_bit G n b)) (ap (λ b. x n || b) one ∙ or_true (x n)) in
            let h = ap (λ b. E (set_bit H n b)) (ap (λ b. low n || b) one ∙ or_true (low n)) in
            let g0 = stays E G n false (at_G ∙ lacks) in
            let h0 = stays E H n false (at_H ∙ low_lacks) in
            let less = falls H G n (grown_within low y x n (λ k. both_first (x k) (y k))) in
            omega (arith, ints, g, h, g0, h0, less)
      ]
    ]

grown_less : (E : (ℕ → Bool) → ℤ) (x y : ℕ → Bool) (n : ℕ) → IsSubmodular E
    → (E (grown x y n) +ℤ E (both x y)) ≤ℤ (E x +ℤ E (grown (both x y) y n))
grown_less E x y zero falls = omega (arith, ints)
grown_less E x y (suc n) falls = omega (arith, ints, grown_less E x y n falls, grows_less E x y n falls)

-- the values of the two together are at most those of the two that they were made of
pub both_and_either : (n : ℕ) (E : (ℕ → Bool) → ℤ) (x y : ℕ → Bool) → IsSubmodular E → IsOver n E
    → (E (either x y) +ℤ E (both x y)) ≤ℤ (E x +ℤ E y)
both_and_either n E x y falls over =
    let up = over (grown x y n) (either x y) (grown_below x y n) in
    let down = over (grown (both x y) y n) y (λ k l. grown_below (both x y) y n k l ∙ or_more (x k) (y k)) in
    omega (arith, ints, up, down, grown_less E x y n falls)
