-- A function whose rises are told by numbers.
use Rattle.std.proofs.Common.{◌≡◌, ℕ, zero, suc, ◌+◌, ◌<◌, ◌≤◌, nat_lt, ◌&&◌, Bool, true, false, cond, ℤ, pos, ◌+ℤ◌, ◌-ℤ◌, ◌≤ℤ◌, refl, sym, ap, ◌∙◌, inl, inr, arith}
use Rattle.std.proofs.lemmas.Int.{ints}
use Rattle.std.proofs.lemmas.Bool.{cases_eq, cases_lt}
use Rattle.std.proofs.lemmas.Bool.Decides.{nat_tests}
use Rattle.sums.specs.IntegerSums.{int_sum_below}
use Rattle.move_energy.specs.Assignments.{set_bit, OnesWithin, IsSubmodular, IsOver}
use Rattle.move_energy.proofs.Assignments.{set_at, set_other}
use Rattle.site_forms.specs.Forms.{Form, TellsRises, places, rise_below, form_value}

-- ---- submodular

le_refl : (z : ℤ) → z ≤ℤ z
le_refl z = omega (arith, ints)

add_up : (a b c d : ℤ) → a ≤ℤ b → c ≤ℤ d → (a +ℤ c) ≤ℤ (b +ℤ d)
add_up a b c d h k = omega (arith, ints, h, k)

sum_lower : (n : ℕ) (f g : ℕ → ℤ) → ((i : ℕ) → i < n → f i ≤ℤ g i) → int_sum_below n f ≤ℤ int_sum_below n g
sum_lower zero f g h = le_refl (pos 0)
sum_lower (suc n) f g h = add_up _ _ _ _ (sum_lower n f g (λ i l. h i (omega (arith, l)))) (h n (omega arith))

cond_falls : (b c : Bool) (low high : ℤ) → (b ≡ true → c ≡ true) → high ≤ℤ low → cond c high low ≤ℤ cond b high low
cond_falls true true low high h l = le_refl high
cond_falls true false low high h l = absurd (let e = h refl in cc (e))
cond_falls false true low high h l = l
cond_falls false false low high h l = le_refl low

rises_fall : (form : Form) (x y : ℕ → Bool) (u : ℕ) → OnesWithin x y
    → ((place : ℕ) → form.start u ≤ place → place < form.start (u + 1) → form.high u place ≤ℤ form.low u place)
    → rise_below form y u (places form u) ≤ℤ rise_below form x u (places form u)
rises_fall form x y u within falls = add_up _ _ _ _ (le_refl (form.own u))
    (sum_lower (places form u) _ _ (λ i l. cond_falls (x (form.head (form.start u + i))) (y (form.head (form.start u + i))) _ _ (within (form.head (form.start u + i)))
    (falls (form.start u + i) (omega arith) (omega (arith, l)))))

same_rise : (a b c d : ℤ) → a ≡ b → c ≡ d → (a -ℤ b) ≤ℤ (c -ℤ d)
same_rise a b c d h k = omega (arith, ints, h, k)

no_site : (n : ℕ) (E : (ℕ → Bool) → ℤ) (u : ℕ) (x : ℕ → Bool) → IsOver n E → n ≤ u → E (set_bit x u true) ≡ E (set_bit x u false)
no_site n E u x over l = over _ _ (λ k below. set_other x u k true (λ same. absurd (omega (arith, same, below, l))) ∙ sym (set_other x u k false (λ same. absurd (omega (arith, same, below, l)))))

le_by : (a b c d : ℤ) → a ≡ c → b ≡ d → c ≤ℤ d → a ≤ℤ b
le_by a b c d h k l = omega (arith, ints, h, k, l)

pub told_falls : (form : Form) (E : (ℕ → Bool) → ℤ) → TellsRises form E → IsOver form.sites E
    → ((u place : ℕ) → u < form.sites → form.start u ≤ place → place < form.start (u + 1) → form.high u place ≤ℤ form.low u place) → IsSubmodular E
told_falls form E told over falls x y u within = elim (cases_lt u form.sites) [
  | inl below ↦ le_by _ _ _ _ (told u y below) (told u x below) (rises_fall form x y u within (λ place. falls u place below))
  | inr above ↦ same_rise _ _ _ _ (no_site form.sites E u y over above) (no_site form.sites E u x over above)
]

-- ---- the value, site by site

-- the sites before one have their values, all others are 0
abbrev before : (ℕ → Bool) → ℕ → ℕ → Bool
before x u p = nat_lt p u && x p

below : (p u : ℕ) → p < u → nat_lt p u ≡ true
below p u l = grind (arith, nat_tests, l)

past : (p u : ℕ) → u ≤ p → nat_lt p u ≡ false
past p u l = grind (arith, nat_tests, l)

before_below : (x : ℕ → Bool) (u p : ℕ) → p < u → before x u p ≡ x p
before_below x u p l = ap (λ b. b && x p) (below p u l)

before_past : (x : ℕ → Bool) (u p : ℕ) → u ≤ p → before x u p ≡ false
before_past x u p l = ap (λ b. b && x p) (past p u l)

before_set : (x : ℕ → Bool) (u : ℕ) (b : Bool) → x u ≡ b → (p : ℕ) → before x (suc u) p ≡ set_bit (before x u) u b p
before_set x u b is p = elim (cases_eq p u) [
  | inl same ↦ before_below x (suc u) p (omega (arith, same)) ∙ ap x same ∙ is ∙ sym (set_at (before x u) u p b same)
  | inr other ↦ elim (cases_lt p u) [
    | inl l ↦ before_below x (suc u) p (omega (arith, l)) ∙ sym (before_below x u p l) ∙ sym (set_other (before x u) u p b other)
    | inr l ↦ before_past x (suc u) p (omega (arith, l, other)) ∙ sym (before_past x u p l) ∙ sym (set_other (before x u) u p b other)
  ]
]

before_none : (x : ℕ → Bool) (u p : ℕ) → before x u p ≡ set_bit (before x u) u false p
before_none x u p = elim (cases_eq p u) [
  | inl same ↦ before_past x u p (omega (arith, same)) ∙ sym (set_at (before x u) u p false same)
  | inr other ↦ sym (set_other (before x u) u p false other)
]

before_all : (x : ℕ → Bool) (n p : ℕ) → p < n → x p ≡ before x n p
before_all x n p l = sym (before_below x n p l)

value_same : (E : (ℕ → Bool) → ℤ) (x y : ℕ → Bool) → ((p : ℕ) → x p ≡ y p) → E x ≡ E y
value_same E x y h = ap E (λ j p. h p j)

-- what one site adds
step : (form : Form) (E : (ℕ → Bool) → ℤ) (x : ℕ → Bool) (u : ℕ) (b : Bool) → TellsRises form E → u < form.sites → x u ≡ b
    → cond b (rise_below form (before x u) u (places form u)) (pos 0) ≡ E (before x (suc u)) -ℤ E (before x u)
step form E x u true told inside is =
    let one = value_same E _ _ (before_set x u true is) in
    let none = value_same E _ _ (before_none x u) in
    let r = told u (before x u) inside in
    omega (arith, ints, one, none, r)
step form E x u false told inside is =
    let one = value_same E _ _ (before_set x u false is) in
    let none = value_same E _ _ (before_none x u) in
    omega (arith, ints, one, none)

sums : (form : Form) (E : (ℕ → Bool) → ℤ) (x : ℕ → Bool) (n : ℕ) → TellsRises form E → n ≤ form.sites
    → int_sum_below n (λ u. cond (x u) (rise_below form (before x u) u (places form u)) (pos 0)) ≡ E (before x n) -ℤ E (λ p. false)
sums form E x zero told l = (let e = value_same E (before x zero) (λ p. false) (λ p. before_past x zero p (omega arith)) in omega (arith, ints, e))
sums form E x (suc n) told l =
    let a = sums form E x n told (omega (arith, l)) in
    let b = step form E x n (x n) told (omega (arith, l)) refl in
    omega (arith, ints, a, b)

pub told_value : (form : Form) (E : (ℕ → Bool) → ℤ) → TellsRises form E → IsOver form.sites E → (x : ℕ → Bool) → form_value form x ≡ E x -ℤ E (λ p. false)
told_value form E told over x = sums form E x form.sites told (omega arith) ∙ ap (λ z. z -ℤ E (λ p. false)) (sym (over x (before x form.sites) (λ p l. before_all x form.sites p l)))
