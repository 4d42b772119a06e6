-- Choices that agree with the least assignment with the fewest ones.
use Rattle.std.proofs.Common.{◌≡◌, ◌<◌, ◌⊎◌, ℕ, Bool, true, false, List, ℤ, ◌≤ℤ◌, ◌&&◌, refl, sym, ap, ◌∙◌, inl, inr, arith}
use Rattle.std.proofs.lemmas.Int.{ints}
use Rattle.move_energy.specs.declared.choice.Choice.{Choice}
use Rattle.move_energy.specs.declared.choice.Choice.TheVariants.{Open, Zero, One}
use Rattle.move_energy.specs.Choices.{bit_of, is_open}
use Rattle.move_energy.specs.Assignments.{IsSubmodular, IsOver}
use Rattle.site_bounds.specs.Decisions.{Decision, AreForced, IsSmallestLeast}
use Rattle.site_bounds.proofs.Putting.{forced_least}
use Rattle.persistency.specs.Fixing.{with_choices, fixed_value, HasZeros, HasOnes}
use Rattle.persistency.specs.Agreeing.{Agree, IsAgreed, AreOpened, AreOfDecisions, or_else, choices_or}
use Rattle.persistency.proofs.Fixing.{fixed_as_least}
use Rattle.persistency.proofs.Existing.{least_exists}

pub each_agreed : (n : ℕ) (E : (ℕ → Bool) → ℤ) (choice : ℕ → Choice)
    → ((p : ℕ) → p < n → (choice p ≡ Open) ⊎ IsAgreed n E p (choice p)) → Agree n E choice
each_agreed n E choice each = record {
  zeros = λ s best p l zero. elim (each p l) [
    | inl opened ↦ absurd (let e = sym opened ∙ zero in cc (e))
    | inr agreed ↦ agreed.1.zeros s best p l (agreed.2 ∙ zero)
  ];
  ones = λ s best p l one. elim (each p l) [
    | inl opened ↦ absurd (let e = sym opened ∙ one in cc (e))
    | inr agreed ↦ agreed.1.ones s best p l (agreed.2 ∙ one)
  ];
}

pub none_agree : (n : ℕ) (E : (ℕ → Bool) → ℤ) → Agree n E (λ p. Open)
none_agree n E = each_agreed n E (λ p. Open) (λ p l. inl refl)

pub opened_agree : (n : ℕ) (E : (ℕ → Bool) → ℤ) (old new : ℕ → Choice) → Agree n E old → AreOpened n old new → Agree n E new
opened_agree n E old new agree opens = each_agreed n E new (λ p l. elim (opens p l) [
  | inl opened ↦ inl opened
  | inr same ↦ inr (old, agree, sym same)
])

pub forced_agree : (n : ℕ) (E : (ℕ → Bool) → ℤ) (ds : List Decision) (choice : ℕ → Choice)
    → AreForced E ds → AreOfDecisions n ds choice → Agree n E choice
forced_agree n E ds choice forced of = record {
  zeros = λ s best p l zero. sym (forced_least n E ds s p forced best l) ∙ of s p l ∙ ap (λ (c : Choice). bit_of c (s p)) zero;
  ones = λ s best p l one. sym (forced_least n E ds s p forced best l) ∙ of s p l ∙ ap (λ (c : Choice). bit_of c (s p)) one;
}

pub rest_agrees : (n : ℕ) (E : (ℕ → Bool) → ℤ) (choice : ℕ → Choice) (z : ℕ → Bool) → IsSubmodular E → IsOver n E → Agree n E choice
    → IsSmallestLeast n (fixed_value E choice) z → IsSmallestLeast n E (with_choices choice z)
rest_agrees n E choice z falls over agree least =
    let s = least_exists n E falls over in
    fixed_as_least n E choice s.0 z over s.1 (agree.zeros s.0 s.1) (agree.ones s.0 s.1) least

-- ---- what agrees with the rest

-- the least assignment with the fewest ones, at the open variables
abbrev at_open : (ℕ → Choice) → (ℕ → Bool) → ℕ → Bool
at_open choice s p = is_open (choice p) && s p

put_back : (c : Choice) (b : Bool) → (c ≡ Zero → b ≡ false) → (c ≡ One → b ≡ true) → bit_of c (is_open c && b) ≡ b
put_back Open b zero one = refl
put_back Zero b zero one = sym (zero refl)
put_back One b zero one = sym (one refl)

open_one : (c : Choice) (b y : Bool) → (b ≡ true → bit_of c y ≡ true) → (is_open c && b) ≡ true → y ≡ true
open_one Open b y within h = within h
open_one Zero b y within h = absurd (cc (h))
open_one One b y within h = absurd (cc (h))

le_along : (a b c : ℤ) → a ≡ b → b ≤ℤ c → a ≤ℤ c
le_along a b c h k = omega (arith, ints, h, k)

rest_least : (n : ℕ) (E : (ℕ → Bool) → ℤ) (choice : ℕ → Choice) (s : ℕ → Bool) → IsOver n E → IsSmallestLeast n E s → HasZeros n choice s → HasOnes n choice s
    → IsSmallestLeast n (fixed_value E choice) (at_open choice s)
rest_least n E choice s over best zeros ones =
    let own : fixed_value E choice (at_open choice s) ≡ E s = over (with_choices choice (at_open choice s)) s (λ k l. put_back (choice k) (s k) (zeros k l) (ones k l)) in
    record {
      least = λ y. le_along _ _ _ own (best.least (with_choices choice y));
      smallest = λ y same k l one. open_one (choice k) (s k) (y k) (best.smallest (with_choices choice y) (same ∙ own) k l) one;
    }

joined_zero : (c d : Choice) (b : Bool) → (c ≡ Zero → b ≡ false) → (d ≡ Zero → (is_open c && b) ≡ false) → or_else c d ≡ Zero → b ≡ false
joined_zero Open d b own other h = other h
joined_zero Zero d b own other h = own refl
joined_zero One d b own other h = absurd (cc (h))

joined_one : (c d : Choice) (b : Bool) → (c ≡ One → b ≡ true) → (d ≡ One → (is_open c && b) ≡ true) → or_else c d ≡ One → b ≡ true
joined_one Open d b own other h = other h
joined_one Zero d b own other h = absurd (cc (h))
joined_one One d b own other h = own refl

pub agree_by_rest : (n : ℕ) (E : (ℕ → Bool) → ℤ) (choice more : ℕ → Choice) → IsOver n E → Agree n E choice → Agree n (fixed_value E choice) more
    → Agree n E (choices_or choice more)
agree_by_rest n E choice more over agree further = record {
  zeros = λ s best p l zero.
      joined_zero (choice p) (more p) (s p) (agree.zeros s best p l)
      (further.zeros (at_open choice s) (rest_least n E choice s over best (agree.zeros s best) (agree.ones s best)) p l) zero;
  ones = λ s best p l one.
      joined_one (choice p) (more p) (s p) (agree.ones s best p l)
      (further.ones (at_open choice s) (rest_least n E choice s over best (agree.zeros s best) (agree.ones s best)) p l) one;
}
