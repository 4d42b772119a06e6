-- There is a least assignment with the fewest ones.
use Rattle.std.proofs.Common.{◌≡◌, ◌≢◌, ◌⊎◌, ℕ, zero, suc, Bool, true, false, cond, eqb, ℤ, pos, negsuc, ◌+ℤ◌, ◌≤ℤ◌, ◌<ℤ◌, refl, sym, ap, ◌∙◌, inl, inr, arith, ◌&&◌}
use Rattle.std.proofs.lemmas.Int.{ints}
use Rattle.std.proofs.lemmas.Bool.{cases_eq, cases_Bool, cases_lt}
use Rattle.std.proofs.lemmas.Bool.Decides.{nat_tests}
use Rattle.move_energy.specs.declared.choice.Choice.{Choice}
use Rattle.move_energy.specs.declared.choice.Choice.TheVariants.{Open}
use Rattle.move_energy.specs.Choices.{bit_of, choice_of}
use Rattle.move_energy.specs.Assignments.{IsSubmodular, IsOver}
use Rattle.site_bounds.specs.Decisions.{IsSmallestLeast}
use Rattle.move_energy.proofs.Assignments.{value_same}
use Rattle.persistency.specs.Fixing.{with_choices}
use Rattle.persistency.proofs.Lattice.{both, either, both_second, both_and_either}
use Rattle.persistency.proofs.Fixing.{fixed_falls}

le_or_lt : (y z : ℤ) → (y ≤ℤ z) ⊎ (z <ℤ y)
le_or_lt (pos a) (pos b) = elim (cases_lt b a) [
  | inl low ↦ inr (omega (arith, ints, low))
  | inr high ↦ inl (omega (arith, ints, high))
]
le_or_lt (pos a) (negsuc b) = inr (omega (arith, ints))
le_or_lt (negsuc a) (pos b) = inl (omega (arith, ints))
le_or_lt (negsuc a) (negsuc b) = elim (cases_lt a b) [
  | inl low ↦ inr (omega (arith, ints, low))
  | inr high ↦ inl (omega (arith, ints, high))
]

-- one variable is fixed
abbrev lone : ℕ → Bool → ℕ → Choice
lone n b k = cond (eqb k n) (choice_of b) Open

told : (b c : Bool) → bit_of (choice_of b) c ≡ b
told true c = refl
told false c = refl

lone_is : (n k : ℕ) (b : Bool) → k ≡ n → lone n b k ≡ choice_of b
lone_is n k b h = grind (arith, nat_tests)

lone_off : (n k : ℕ) (b : Bool) → k ≢ n → lone n b k ≡ Open
lone_off n k b h = grind (arith, nat_tests)

lone_at : (n k : ℕ) (b : Bool) (x : ℕ → Bool) → k ≡ n → with_choices (lone n b) x k ≡ b
lone_at n k b x h = ap (λ (c : Choice). bit_of c (x k)) (lone_is n k b h) ∙ told b (x k)

lone_other : (n k : ℕ) (b : Bool) (x : ℕ → Bool) → k ≢ n → with_choices (lone n b) x k ≡ x k
lone_other n k b x h = ap (λ (c : Choice). bit_of c (x k)) (lone_off n k b h)

lone_same : (E : (ℕ → Bool) → ℤ) (n : ℕ) (b : Bool) (x : ℕ → Bool) → x n ≡ b → E (with_choices (lone n b) x) ≡ E x
lone_same E n b x h = value_same E (with_choices (lone n b) x) x (λ k. elim (cases_eq k n) [
  | inl same ↦ lone_at n k b x same ∙ sym h ∙ ap x (sym same)
  | inr other ↦ lone_other n k b x other
])

lone_over : (n : ℕ) (E : (ℕ → Bool) → ℤ) (b : Bool) → IsOver (suc n) E → IsOver n (λ x. E (with_choices (lone n b) x))
lone_over n E b over x y same = over (with_choices (lone n b) x) (with_choices (lone n b) y) (λ k l. elim (cases_eq k n) [
  | inl here ↦ lone_at n k b x here ∙ sym (lone_at n k b y here)
  | inr other ↦ lone_other n k b x other ∙ same k (omega (arith, l, other)) ∙ sym (lone_other n k b y other)
])

le_le : (a b c d : ℤ) → a ≤ℤ b → b ≤ℤ c → c ≡ d → a ≤ℤ d
le_le a b c d h k l = omega (arith, ints, h, k, l)

lt_weak : (a b : ℤ) → a <ℤ b → a ≤ℤ b
lt_weak a b h = omega (arith, ints, h)

le_refl : (a : ℤ) → a ≤ℤ a
le_refl a = omega (arith, ints)

-- the better of the two values of the last variable is least
least_of_two : (n : ℕ) (E : (ℕ → Bool) → ℤ) (t : ℕ → Bool) (x0 x1 : ℕ → Bool)
    → ((y : ℕ → Bool) → E (with_choices (lone n false) x0) ≤ℤ E (with_choices (lone n false) y))
    → ((y : ℕ → Bool) → E (with_choices (lone n true) x1) ≤ℤ E (with_choices (lone n true) y))
    → E t ≤ℤ E (with_choices (lone n false) x0) → E t ≤ℤ E (with_choices (lone n true) x1) → (y : ℕ → Bool) → E t ≤ℤ E y
least_of_two n E t x0 x1 low0 low1 le0 le1 y = elim (cases_Bool (y n)) [
  | inl one ↦ le_le _ _ _ _ le1 (low1 y) (lone_same E n true y one)
  | inr none ↦ le_le _ _ _ _ le0 (low0 y) (lone_same E n false y none)
]

lower_both : (e a b c : ℤ) → (e +ℤ a) ≤ℤ (b +ℤ c) → b ≤ℤ e → c ≡ b → b ≤ℤ a → a ≡ b
lower_both e a b c h k l q = omega (arith, ints, h, k, l, q)

no_lower : (a b c d : ℤ) → a <ℤ b → b ≤ℤ c → c ≡ d → d ≡ a → ⊥
no_lower a b c d h k l q = omega (arith, ints, h, k, l, q)

clash : (b : Bool) → b ≡ true → b ≡ false → ⊥
clash b h k = (let e = sym h ∙ k in cc (e))

zero_case : (n : ℕ) (E : (ℕ → Bool) → ℤ) (x0 : ℕ → Bool) → IsSubmodular E → IsOver (suc n) E
    → IsSmallestLeast n (λ x. E (with_choices (lone n false) x)) x0 → ((y : ℕ → Bool) → E (with_choices (lone n false) x0) ≤ℤ E y)
    → IsSmallestLeast (suc n) E (with_choices (lone n false) x0)
zero_case n E x0 falls over best least =
    let t = with_choices (lone n false) x0 in
    record {
      least = least;
      smallest = λ y same k l one. elim (cases_eq k n) [
        | inl here ↦ absurd (clash (t k) one (lone_at n k false x0 here))
        | inr other ↦
            let meet = both t y in
            let none : meet n ≡ false = ap (λ b. b && y n) (lone_at n n false x0 refl) in
            let level = lower_both _ _ _ _ (both_and_either (suc n) E t y falls over) (least (either t y)) same (least meet) in
            let own = lone_same E n false meet none in
            both_second (t k) (y k) (best.smallest meet (own ∙ level) k (omega (arith, l, other)) (sym (lone_other n k false x0 other) ∙ one))
      ];
    }

one_case : (n : ℕ) (E : (ℕ → Bool) → ℤ) (x0 x1 : ℕ → Bool)
    → ((y : ℕ → Bool) → E (with_choices (lone n false) x0) ≤ℤ E (with_choices (lone n false) y))
    → IsSmallestLeast n (λ x. E (with_choices (lone n true) x)) x1 → E (with_choices (lone n true) x1) <ℤ E (with_choices (lone n false) x0)
    → ((y : ℕ → Bool) → E (with_choices (lone n true) x1) ≤ℤ E y) → IsSmallestLeast (suc n) E (with_choices (lone n true) x1)
one_case n E x0 x1 low0 best lower least = record {
  least = least;
  smallest = λ y same k l one. elim (cases_Bool (y n)) [
    | inr none ↦ absurd (no_lower _ _ _ _ lower (low0 y) (lone_same E n false y none) same)
    | inl has ↦ elim (cases_eq k n) [
      | inl here ↦ ap y here ∙ has
      | inr other ↦ best.smallest y (lone_same E n true y has ∙ same) k (omega (arith, l, other)) (sym (lone_other n k true x1 other) ∙ one)
    ]
  ];
}

pub least_exists : (n : ℕ) (E : (ℕ → Bool) → ℤ) → IsSubmodular E → IsOver n E → (x : ℕ → Bool) × IsSmallestLeast n E x
least_exists zero E falls over = (
  (λ k. false),
  record {
    least = λ y. (let e = over (λ k. false) y (λ k l. absurd (omega (arith, l))) in omega (arith, ints, e));
    smallest = λ y same k l one. absurd (omega (arith, l));
  },
)
least_exists (suc n) E falls over =
    let zeros = least_exists n (λ x. E (with_choices (lone n false) x)) (fixed_falls E (lone n false) falls) (lone_over n E false over) in
    let ones = least_exists n (λ x. E (with_choices (lone n true) x)) (fixed_falls E (lone n true) falls) (lone_over n E true over) in
    elim (le_or_lt (E (with_choices (lone n false) zeros.0)) (E (with_choices (lone n true) ones.0))) [
      | inl le ↦
          let least = least_of_two n E (with_choices (lone n false) zeros.0) zeros.0 ones.0 zeros.1.least ones.1.least (le_refl _) le in
          (with_choices (lone n false) zeros.0, zero_case n E zeros.0 falls over zeros.1 least)
      | inr lt ↦
          let least = least_of_two n E (with_choices (lone n true) ones.0) zeros.0 ones.0 zeros.1.least ones.1.least (lt_weak _ _ lt) (le_refl _) in
          (with_choices (lone n true) ones.0, one_case n E zeros.0 ones.0 zeros.1.least ones.1 lt least)
    ]
