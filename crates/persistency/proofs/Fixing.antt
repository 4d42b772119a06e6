-- Functions of which some variables are fixed.
use Rattle.std.proofs.Common.{◌≡◌, ◌<◌, ◌⊎◌, ℕ, Bool, true, false, ℤ, ◌+ℤ◌, ◌-ℤ◌, ◌≤ℤ◌, refl, sym, ap, ◌∙◌, inl, inr, arith, ◌&&◌, ◌||◌}
use Rattle.std.proofs.lemmas.Int.{ints}
use Rattle.std.proofs.lemmas.Bool.{cases_eq}
use Rattle.move_energy.specs.declared.choice.Choice.{Choice}
use Rattle.move_energy.specs.declared.choice.Choice.TheVariants.{Open, Zero, One}
use Rattle.move_energy.specs.Choices.{bit_of}
use Rattle.move_energy.specs.Assignments.{set_bit, rise, OnesWithin, IsSubmodular, IsOver}
use Rattle.site_bounds.specs.Decisions.{IsSmallestLeast}
use Rattle.move_energy.proofs.Assignments.{set_at, set_other, value_same}
use Rattle.persistency.specs.Fixing.{with_choices, fixed_value, IsLeast, HasZeros, HasOnes, OnesLieWithin}
use Rattle.persistency.proofs.Lattice.{both, either, both_second, both_and_either}

bit_grows : (c : Choice) (a b : Bool) → (a ≡ true → b ≡ true) → bit_of c a ≡ true → bit_of c b ≡ true
bit_grows Open a b within h = within h
bit_grows Zero a b within h = h
bit_grows One a b within h = h

fixed_within : (choice : ℕ → Choice) (x y : ℕ → Bool) → OnesWithin x y → OnesWithin (with_choices choice x) (with_choices choice y)
fixed_within choice x y within k = bit_grows (choice k) (x k) (y k) (within k)

-- a variable set before the others are fixed: set after it where it is open, else nothing
set_open : (choice : ℕ → Choice) (x : ℕ → Bool) (i : ℕ) (b : Bool) → choice i ≡ Open → (k : ℕ)
    → with_choices choice (set_bit x i b) k ≡ set_bit (with_choices choice x) i b k
set_open choice x i b opened k = elim (cases_eq k i) [
  | inl same ↦
      ap (bit_of (choice k)) (set_at x i k b same) ∙ ap (λ j. bit_of (choice j) b) same ∙ ap (λ (c : Choice). bit_of c b) opened
      ∙ sym (set_at (with_choices choice x) i k b same)
  | inr other ↦ ap (bit_of (choice k)) (set_other x i k b other) ∙ sym (set_other (with_choices choice x) i k b other)
]

pub set_shut : (choice : ℕ → Choice) (x : ℕ → Bool) (i : ℕ) (b : Bool) → ((a c : Bool) → bit_of (choice i) a ≡ bit_of (choice i) c) → (k : ℕ)
    → with_choices choice (set_bit x i b) k ≡ with_choices choice x k
set_shut choice x i b shut k = elim (cases_eq k i) [
  | inl same ↦
      ap (bit_of (choice k)) (set_at x i k b same) ∙ ap (λ j. bit_of (choice j) b) same ∙ shut b (x i)
      ∙ ap (λ j. bit_of (choice j) (x j)) (sym same)
  | inr other ↦ ap (bit_of (choice k)) (set_other x i k b other)
]

rises_alike : (a b c d e f : ℤ) → a ≡ e → b ≡ e → c ≡ f → d ≡ f → (a -ℤ b) ≤ℤ (c -ℤ d)
rises_alike a b c d e f h k l n = omega (arith, ints, h, k, l, n)

shut_falls : (E : (ℕ → Bool) → ℤ) (choice : ℕ → Choice) (x y : ℕ → Bool) (i : ℕ) → ((a c : Bool) → bit_of (choice i) a ≡ bit_of (choice i) c)
    → rise (fixed_value E choice) i y ≤ℤ rise (fixed_value E choice) i x
shut_falls E choice x y i shut =
    rises_alike _ _ _ _ (E (with_choices choice y)) (E (with_choices choice x))
    (value_same E _ _ (set_shut choice y i true shut)) (value_same E _ _ (set_shut choice y i false shut))
    (value_same E _ _ (set_shut choice x i true shut)) (value_same E _ _ (set_shut choice x i false shut))

rises_along : (a b c d e f g h : ℤ) → a ≡ e → b ≡ f → c ≡ g → d ≡ h → (e -ℤ f) ≤ℤ (g -ℤ h) → (a -ℤ b) ≤ℤ (c -ℤ d)
rises_along a b c d e f g h p q r s le = omega (arith, ints, p, q, r, s, le)

open_falls : (E : (ℕ → Bool) → ℤ) (choice : ℕ → Choice) (x y : ℕ → Bool) (i : ℕ) → IsSubmodular E → OnesWithin x y → choice i ≡ Open
    → rise (fixed_value E choice) i y ≤ℤ rise (fixed_value E choice) i x
open_falls E choice x y i falls within opened =
    rises_along _ _ _ _ _ _ _ _
    (value_same E _ _ (set_open choice y i true opened)) (value_same E _ _ (set_open choice y i false opened))
    (value_same E _ _ (set_open choice x i true opened)) (value_same E _ _ (set_open choice x i false opened))
    (falls (with_choices choice x) (with_choices choice y) i (fixed_within choice x y within))

-- the rise of an open variable is that with the fixed values put in
pub open_rise : (E : (ℕ → Bool) → ℤ) (choice : ℕ → Choice) (x : ℕ → Bool) (i : ℕ) → choice i ≡ Open
    → rise (fixed_value E choice) i x ≡ rise E i (with_choices choice x)
open_rise E choice x i opened =
    let one = value_same E _ _ (set_open choice x i true opened) in
    let none = value_same E _ _ (set_open choice x i false opened) in
    (λ j. one j -ℤ none j)

cases_choice : (c : Choice) → (c ≡ Open) ⊎ ((a b : Bool) → bit_of c a ≡ bit_of c b)
cases_choice Open = inl refl
cases_choice Zero = inr (λ a b. refl)
cases_choice One = inr (λ a b. refl)

pub fixed_falls : (E : (ℕ → Bool) → ℤ) (choice : ℕ → Choice) → IsSubmodular E → IsSubmodular (fixed_value E choice)
fixed_falls E choice falls x y i within = elim (cases_choice (choice i)) [
  | inl opened ↦ open_falls E choice x y i falls within opened
  | inr shut ↦ shut_falls E choice x y i shut
]

pub fixed_over : (n : ℕ) (E : (ℕ → Bool) → ℤ) (choice : ℕ → Choice) → IsOver n E → IsOver n (fixed_value E choice)
fixed_over n E choice over x y same = over (with_choices choice x) (with_choices choice y) (λ k l. ap (bit_of (choice k)) (same k l))

pub fixed_same : (n : ℕ) (E : (ℕ → Bool) → ℤ) (choice other : ℕ → Choice) → IsOver n E → ((p : ℕ) → p < n → choice p ≡ other p)
    → (x : ℕ → Bool) → fixed_value E choice x ≡ fixed_value E other x
fixed_same n E choice other over same x = over (with_choices choice x) (with_choices other x) (λ k l. ap (λ (c : Choice). bit_of c (x k)) (same k l))

-- ---- bounds

-- what is 1 in both, or in either, has the fixed values
met_fixed : (c : Choice) (a b : Bool) → (c ≡ One → b ≡ true) → bit_of c (bit_of c a && b) ≡ (bit_of c a && b)
met_fixed Open a b one = refl
met_fixed Zero a b one = refl
met_fixed One a b one = sym (one refl)

joined_fixed : (c : Choice) (a b : Bool) → (c ≡ Zero → a ≡ false) → bit_of c (a || bit_of c b) ≡ (a || bit_of c b)
joined_fixed Open a b zero = refl
joined_fixed Zero true b zero = sym (zero refl)
joined_fixed Zero false b zero = refl
joined_fixed One true b zero = refl
joined_fixed One false b zero = refl

ones_as : (c : Choice) (z b : Bool) → (c ≡ One → b ≡ true) → (z ≡ true → b ≡ true) → bit_of c z ≡ true → b ≡ true
ones_as Open z b one within h = within h
ones_as Zero z b one within h = absurd (cc (h))
ones_as One z b one within h = one refl

-- join + meet ≤ s + t, and t ≤ join' = join, so meet ≤ s; and s ≤ meet' = meet
met_level : (join meet s t joined met : ℤ) → (join +ℤ meet) ≤ℤ (s +ℤ t) → t ≤ℤ joined → joined ≡ join → s ≤ℤ met → met ≡ meet → met ≡ s
met_level join meet s t joined met h k l q r = omega (arith, ints, h, k, l, q, r)

level : (a b : ℤ) → a ≤ℤ b → b ≤ℤ a → a ≡ b
level a b h k = omega (arith, ints, h, k)

pub least_rises : (n : ℕ) (E : (ℕ → Bool) → ℤ) (low high : ℕ → Choice) (x y : ℕ → Bool) → IsSubmodular E → IsOver n E
    → IsSmallestLeast n (fixed_value E low) x → IsLeast (fixed_value E high) y
    → HasOnes n low (with_choices high y) → HasZeros n high (with_choices low x) → OnesLieWithin n (with_choices low x) (with_choices high y)
least_rises n E low high x y falls over best least ones zeros p l one =
    let s = with_choices low x in
    let t = with_choices high y in
    let met = over (with_choices low (both s t)) (both s t) (λ k below. met_fixed (low k) (x k) (t k) (ones k below)) in
    let join = over (with_choices high (either s t)) (either s t) (λ k below. joined_fixed (high k) (s k) (y k) (zeros k below)) in
    let same : fixed_value E low (both s t) ≡ fixed_value E low x =
    met_level _ _ _ _ _ _ (both_and_either n E s t falls over) (least (either s t)) join (best.least (both s t)) met in
    ones_as (low p) (x p) (t p) (ones p l) (λ own. both_second (s p) (t p) (best.smallest (both s t) same p l own)) one

-- with nothing fixed on the one side
pub ones_bound : (n : ℕ) (E : (ℕ → Bool) → ℤ) (choice : ℕ → Choice) (s z : ℕ → Bool) → IsSubmodular E → IsOver n E → IsSmallestLeast n E s
    → HasZeros n choice s → IsLeast (fixed_value E choice) z → OnesLieWithin n s (with_choices choice z)
ones_bound n E choice s z falls over best zeros least =
    least_rises n E (λ p. Open) choice s z falls over best least (λ p l one. absurd (cc (one))) zeros

pub zeros_bound : (n : ℕ) (E : (ℕ → Bool) → ℤ) (choice : ℕ → Choice) (s z : ℕ → Bool) → IsSubmodular E → IsOver n E → IsLeast E s
    → HasOnes n choice s → IsSmallestLeast n (fixed_value E choice) z → OnesLieWithin n (with_choices choice z) s
zeros_bound n E choice s z falls over least ones best =
    least_rises n E choice (λ p. Open) z s falls over best least ones (λ p l zero. absurd (cc (zero)))

-- ---- what is fixed as in s

fixed_as : (c : Choice) (b : Bool) → (c ≡ Zero → b ≡ false) → (c ≡ One → b ≡ true) → bit_of c b ≡ b
fixed_as Open b zero one = refl
fixed_as Zero b zero one = sym (zero refl)
fixed_as One b zero one = sym (one refl)

le_then : (a b c d : ℤ) → a ≤ℤ b → b ≡ c → c ≤ℤ d → a ≤ℤ d
le_then a b c d h k l = omega (arith, ints, h, k, l)

same_then : (a b c : ℤ) → a ≡ b → c ≤ℤ a → b ≤ℤ c → b ≡ c
same_then a b c h k l = omega (arith, ints, h, k, l)

pub fixed_as_least : (n : ℕ) (E : (ℕ → Bool) → ℤ) (choice : ℕ → Choice) (s z : ℕ → Bool) → IsOver n E → IsSmallestLeast n E s
    → HasZeros n choice s → HasOnes n choice s → IsSmallestLeast n (fixed_value E choice) z → IsSmallestLeast n E (with_choices choice z)
fixed_as_least n E choice s z over best zeros ones least =
    let own : E (with_choices choice s) ≡ E s = over (with_choices choice s) s (λ k l. fixed_as (choice k) (s k) (zeros k l) (ones k l)) in
    let level_s : E s ≡ E (with_choices choice z) = level (E s) (E (with_choices choice z)) (best.least (with_choices choice z)) (le_then _ _ _ _ (least.least s) own (best.least s)) in
    let within : (k : ℕ) → k < n → with_choices choice z k ≡ true → s k ≡ true =
    λ k l. ones_as (choice k) (z k) (s k) (ones k l) (least.smallest s (own ∙ level_s) k l) in
    record {
      least = λ y. le_then _ _ _ _ (least.least s) own (best.least y);
      smallest = λ y same k l one. best.smallest y (same ∙ sym level_s) k l (within k l one);
    }
