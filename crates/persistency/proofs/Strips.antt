-- Strips that are closed in from both sides.
use Rattle.std.proofs.Common.{◌≡◌, ◌==◌, ◌<◌, ◌⊎◌, ℕ, Bool, true, false, cond, List, [], ◌∷◌, ℤ, pos, ◌-ℤ◌, ◌≤ℤ◌, ◌<ℤ◌, refl, sym, ap, ◌∙◌, inl, inr, arith}
use Rattle.std.proofs.lemmas.Int.{ints}
use Rattle.std.specs.List.{All}
use Rattle.std.proofs.lemmas.Bool.{cases_Bool, cases_eq}
use Rattle.std.proofs.lemmas.List.Elements.{All-head, All-tail}
use Rattle.move_energy.specs.declared.choice.Choice.{Choice}
use Rattle.move_energy.specs.declared.choice.Choice.TheVariants.{Open, Zero, One}
use Rattle.move_energy.specs.Choices.{bit_of, choice_of}
use Rattle.move_energy.specs.Assignments.{set_bit, rise, IsSubmodular, IsOver}
use Rattle.site_bounds.specs.Decisions.{IsSmallestLeast}
use Rattle.move_energy.proofs.Assignments.{set_at, set_other, value_same}
use Rattle.move_energy.proofs.SiteSums.{test_true, test_false}
use Rattle.persistency.specs.Fixing.{with_choices, fixed_value, IsLeast, AreLeastZeros}
use Rattle.persistency.specs.Agreeing.{Agree, IsAgreed, ChooseMore, TellsOne, with_one, or_else, choices_or}
use Rattle.persistency.specs.Strips.{Strip, others_at, lower_value, upper_value, IsStripBounded, choice_of_bounds, told_by, with_strips, with_batches, AreBatches}
use Rattle.persistency.proofs.Fixing.{least_rises, ones_bound, zeros_bound}
use Rattle.persistency.proofs.Agreeing.{each_agreed, rest_agrees}

-- ---- what the two sides fix

others_zero : (inside : Bool) (c : Choice) → cond inside c (or_else c One) ≡ Zero → c ≡ Zero
others_zero true c h = h
others_zero false Open h = absurd (cc (h))
others_zero false Zero h = refl
others_zero false One h = absurd (cc (h))

others_one : (inside : Bool) (c : Choice) → cond inside c (or_else c Zero) ≡ One → c ≡ One
others_one true c h = h
others_one false Open h = absurd (cc (h))
others_one false Zero h = absurd (cc (h))
others_one false One h = refl

inside_bit : (inside : Bool) (c v : Choice) (b : Bool) → inside ≡ true → c ≡ Open → bit_of (cond inside c (or_else c v)) b ≡ b
inside_bit true c v b h k = ap (λ (d : Choice). bit_of d b) k
inside_bit false c v b h k = absurd (cc (h))

-- a chosen value is one of both sides
one_stays : (inside : Bool) (c v : Choice) (b : Bool) → c ≡ One → bit_of (cond inside c (or_else c v)) b ≡ true
one_stays true c v b h = ap (λ (d : Choice). bit_of d b) h
one_stays false c v b h = ap (λ (d : Choice). bit_of (or_else d v) b) h

zero_stays : (inside : Bool) (c v : Choice) (b : Bool) → c ≡ Zero → bit_of (cond inside c (or_else c v)) b ≡ false
zero_stays true c v b h = ap (λ (d : Choice). bit_of d b) h
zero_stays false c v b h = ap (λ (d : Choice). bit_of (or_else d v) b) h

pub lower_within_upper : (n : ℕ) (E : (ℕ → Bool) → ℤ) (choice : ℕ → Choice) (strip : Strip) → IsSubmodular E → IsOver n E → IsStripBounded n E choice strip
    → (p : ℕ) → p < n → strip.set p ≡ true → choice p ≡ Open → strip.lower p ≡ true → strip.upper p ≡ true
lower_within_upper n E choice strip falls over closed p l inside opened one =
    sym (inside_bit (strip.set p) (choice p) One (strip.upper p) inside opened)
    ∙ least_rises n E (others_at Zero strip.set choice) (others_at One strip.set choice) strip.lower strip.upper falls over closed.lower closed.upper
    (λ k below h. one_stays (strip.set k) (choice k) One (strip.upper k) (others_one (strip.set k) (choice k) h))
    (λ k below h. zero_stays (strip.set k) (choice k) Zero (strip.lower k) (others_zero (strip.set k) (choice k) h))
    p l (inside_bit (strip.set p) (choice p) Zero (strip.lower p) inside opened ∙ one)

-- ---- what a strip tells

told_zero : (c : Choice) (inside lower upper : Bool) → or_else c (cond inside (choice_of_bounds lower upper) Open) ≡ Zero
    → (c ≡ Zero) ⊎ ((c ≡ Open) × (inside ≡ true) × (upper ≡ false))
told_zero Zero inside lower upper h = inl refl
told_zero One inside lower upper h = absurd (cc (h))
told_zero Open false lower upper h = absurd (cc (h))
told_zero Open true true upper h = absurd (cc (h))
told_zero Open true false true h = absurd (cc (h))
told_zero Open true false false h = inr (refl, refl, refl)

told_one : (c : Choice) (inside lower upper : Bool) → or_else c (cond inside (choice_of_bounds lower upper) Open) ≡ One
    → (c ≡ One) ⊎ ((c ≡ Open) × (inside ≡ true) × (lower ≡ true))
told_one One inside lower upper h = inl refl
told_one Zero inside lower upper h = absurd (cc (h))
told_one Open false lower upper h = absurd (cc (h))
told_one Open true true upper h = inr (refl, refl, refl)
told_one Open true false true h = absurd (cc (h))
told_one Open true false false h = absurd (cc (h))

not_both : (b : Bool) → b ≡ true → b ≡ false → ⊥
not_both b h k = (let e = sym h ∙ k in cc (e))

-- what is 0 above is 0, and what is 1 below is 1
zero_above : (n : ℕ) (E : (ℕ → Bool) → ℤ) (choice : ℕ → Choice) (set w s : ℕ → Bool) → IsSubmodular E → IsOver n E → AreLeastZeros n E choice
    → IsLeast (upper_value E choice set) w → IsSmallestLeast n E s
    → (p : ℕ) → p < n → choice p ≡ Open → set p ≡ true → w p ≡ false → s p ≡ false
zero_above n E choice set w s falls over zeros least best p l opened inside none = elim (cases_Bool (s p)) [
  | inr zero ↦ zero
  | inl one ↦
      let within : with_choices (others_at One set choice) w p ≡ true =
      ones_bound n E (others_at One set choice) s w falls over best
      (λ k below h. zeros s best k below (others_zero (set k) (choice k) h)) least p l one in
      absurd (not_both (w p) (sym (inside_bit (set p) (choice p) One (w p) inside opened) ∙ within) none)
]

-- though only the zeros of the choices are those of the least
pub upper_zeros : (n : ℕ) (E : (ℕ → Bool) → ℤ) (choice : ℕ → Choice) (set w : ℕ → Bool) → IsSubmodular E → IsOver n E → AreLeastZeros n E choice
    → IsLeast (upper_value E choice set) w
    → AreLeastZeros n E (choices_or choice (told_by (record { set = set; lower = λ p. false; upper = w })))
upper_zeros n E choice set w falls over zeros least s best p l zero = elim (told_zero (choice p) (set p) false (w p) zero) [
  | inl before ↦ zeros s best p l before
  | inr now ↦ zero_above n E choice set w s falls over zeros least best p l now.0 now.1 now.2
]

-- what is at 0 in either of two
pub zeros_of_either : (n : ℕ) (E : (ℕ → Bool) → ℤ) (choice more new : ℕ → Choice) → AreLeastZeros n E choice → AreLeastZeros n E more
    → ((p : ℕ) → p < n → new p ≡ Zero → (choice p ≡ Zero) ⊎ (more p ≡ Zero)) → AreLeastZeros n E new
zeros_of_either n E choice more new first second either s best p l zero = elim (either p l zero) [
  | inl here ↦ first s best p l here
  | inr there ↦ second s best p l there
]

one_below : (n : ℕ) (E : (ℕ → Bool) → ℤ) (choice : ℕ → Choice) (set z s : ℕ → Bool) → IsSubmodular E → IsOver n E → Agree n E choice
    → IsSmallestLeast n (lower_value E choice set) z → IsSmallestLeast n E s
    → (p : ℕ) → p < n → choice p ≡ Open → set p ≡ true → z p ≡ true → s p ≡ true
one_below n E choice set z s falls over agree least best p l opened inside one =
    zeros_bound n E (others_at Zero set choice) s z falls over best.least
    (λ k below h. agree.ones s best k below (others_one (set k) (choice k) h)) least p l
    (inside_bit (set p) (choice p) Zero (z p) inside opened ∙ one)

pub strip_agrees : (n : ℕ) (E : (ℕ → Bool) → ℤ) (choice : ℕ → Choice) (strip : Strip) → IsSubmodular E → IsOver n E → Agree n E choice → IsStripBounded n E choice strip
    → Agree n E (choices_or choice (told_by strip))
strip_agrees n E choice strip falls over agree closed = record {
  zeros = λ s best p l zero. elim (told_zero (choice p) (strip.set p) (strip.lower p) (strip.upper p) zero) [
    | inl before ↦ agree.zeros s best p l before
    | inr now ↦ zero_above n E choice strip.set strip.upper s falls over agree.zeros closed.upper best p l now.0 now.1 now.2
  ];
  ones = λ s best p l one. elim (told_one (choice p) (strip.set p) (strip.lower p) (strip.upper p) one) [
    | inl before ↦ agree.ones s best p l before
    | inr now ↦ one_below n E choice strip.set strip.lower s falls over agree closed.lower best p l now.0 now.1 now.2
  ];
}

pub lower_agrees : (n : ℕ) (E : (ℕ → Bool) → ℤ) (choice : ℕ → Choice) (set z : ℕ → Bool) → IsSubmodular E → IsOver n E → Agree n E choice
    → IsSmallestLeast n (lower_value E choice set) z
    → Agree n E (choices_or choice (told_by (record { set = set; lower = z; upper = λ p. true })))
lower_agrees n E choice set z falls over agree least = record {
  zeros = λ s best p l zero. elim (told_zero (choice p) (set p) (z p) true zero) [
    | inl before ↦ agree.zeros s best p l before
    | inr now ↦ absurd (let e = now.2 in cc (e))
  ];
  ones = λ s best p l one. elim (told_one (choice p) (set p) (z p) true one) [
    | inl before ↦ agree.ones s best p l before
    | inr now ↦ one_below n E choice set z s falls over agree least best p l now.0 now.1 now.2
  ];
}

pub upper_agrees : (n : ℕ) (E : (ℕ → Bool) → ℤ) (choice : ℕ → Choice) (set w : ℕ → Bool) → IsSubmodular E → IsOver n E → Agree n E choice
    → IsLeast (upper_value E choice set) w
    → Agree n E (choices_or choice (told_by (record { set = set; lower = λ p. false; upper = w })))
upper_agrees n E choice set w falls over agree least = record {
  zeros = λ s best p l zero. elim (told_zero (choice p) (set p) false (w p) zero) [
    | inl before ↦ agree.zeros s best p l before
    | inr now ↦ zero_above n E choice set w s falls over agree.zeros least best p l now.0 now.1 now.2
  ];
  ones = λ s best p l one. elim (told_one (choice p) (set p) false (w p) one) [
    | inl before ↦ agree.ones s best p l before
    | inr now ↦ absurd (let e = now.2 in cc (e))
  ];
}

-- ---- a strip of one

outside_bit : (inside : Bool) (c : Choice) (v b : Bool) → inside ≡ false → bit_of (cond inside c (or_else c (choice_of v))) b ≡ bit_of c v
outside_bit true c v b h = absurd (cc (h))
outside_bit false Open true b h = refl
outside_bit false Open false b h = refl
outside_bit false Zero v b h = refl
outside_bit false One v b h = refl

-- a set of one variable
abbrev lone : ℕ → ℕ → Bool
lone p k = k == p

lone_is : (E : (ℕ → Bool) → ℤ) (choice : ℕ → Choice) (p : ℕ) (v : Bool) (y : ℕ → Bool) → choice p ≡ Open
    → fixed_value E (others_at (choice_of v) (lone p) choice) y ≡ E (set_bit (with_choices choice (λ k. v)) p (y p))
lone_is E choice p v y opened = value_same E _ _ (λ k. elim (cases_eq k p) [
  | inl here ↦
      inside_bit (lone p k) (choice k) (choice_of v) (y k) (test_true k p here) (ap choice here ∙ opened) ∙ ap y here
      ∙ sym (set_at (with_choices choice (λ i. v)) p k (y p) here)
  | inr other ↦
      outside_bit (lone p k) (choice k) v (y k) (test_false k p other) ∙ sym (set_other (with_choices choice (λ i. v)) p k (y p) other)
])

level_then : (a b c d r : ℤ) → a ≡ c → b ≡ d → r ≡ (d -ℤ c) → pos 0 ≤ℤ r → a ≤ℤ b
level_then a b c d r h k l o = omega (arith, ints, h, k, l, o)

le_same : (a b c : ℤ) → a ≡ c → b ≡ c → a ≤ℤ b
le_same a b c h k = omega (arith, ints, h, k)

lower_then : (a b c d r : ℤ) → a ≡ d → b ≡ c → r ≡ (d -ℤ c) → r <ℤ pos 0 → a <ℤ b
lower_then a b c d r h k l o = omega (arith, ints, h, k, l, o)

lt_le : (a b : ℤ) → a <ℤ b → a ≤ℤ b
lt_le a b h = omega (arith, ints, h)

not_level : (a b : ℤ) → a <ℤ b → b ≡ a → ⊥
not_level a b h k = omega (arith, ints, h, k)

zero_least : (E : (ℕ → Bool) → ℤ) (choice : ℕ → Choice) (p : ℕ) → choice p ≡ Open → pos 0 ≤ℤ rise E p (with_choices choice (λ k. true))
    → IsLeast (upper_value E choice (lone p)) (λ k. false)
zero_least E choice p opened test y = elim (cases_Bool (y p)) [
  | inl one ↦ level_then _ _ _ _ _ (lone_is E choice p true (λ k. false) opened)
      (lone_is E choice p true y opened ∙ ap (λ b. E (set_bit (with_choices choice (λ k. true)) p b)) one) refl test
  | inr none ↦ le_same _ _ _ (lone_is E choice p true (λ k. false) opened)
      (lone_is E choice p true y opened ∙ ap (λ b. E (set_bit (with_choices choice (λ k. true)) p b)) none)
]

-- the one of a strip of one
one_lower : (E : (ℕ → Bool) → ℤ) (choice : ℕ → Choice) (p : ℕ) (y : ℕ → Bool) → choice p ≡ Open → rise E p (with_choices choice (λ k. false)) <ℤ pos 0 → y p ≡ false
    → lower_value E choice (lone p) (lone p) <ℤ lower_value E choice (lone p) y
one_lower E choice p y opened test none =
    lower_then _ _ _ _ _
    (lone_is E choice p false (lone p) opened ∙ ap (λ b. E (set_bit (with_choices choice (λ k. false)) p b)) (test_true p p refl))
    (lone_is E choice p false y opened ∙ ap (λ b. E (set_bit (with_choices choice (λ k. false)) p b)) none) refl test

one_least : (n : ℕ) (E : (ℕ → Bool) → ℤ) (choice : ℕ → Choice) (p : ℕ) → choice p ≡ Open → rise E p (with_choices choice (λ k. false)) <ℤ pos 0
    → IsSmallestLeast n (lower_value E choice (lone p)) (lone p)
one_least n E choice p opened test = record {
  least = λ y. elim (cases_Bool (y p)) [
    | inr none ↦ lt_le _ _ (one_lower E choice p y opened test none)
    | inl one ↦ le_same _ _ _
        (lone_is E choice p false (lone p) opened ∙ ap (λ b. E (set_bit (with_choices choice (λ k. false)) p b)) (test_true p p refl))
        (lone_is E choice p false y opened ∙ ap (λ b. E (set_bit (with_choices choice (λ k. false)) p b)) one)
  ];
  smallest = λ y same k l own. elim (cases_eq k p) [
    | inr other ↦ absurd (not_both (lone p k) own (test_false k p other))
    | inl here ↦ elim (cases_Bool (y p)) [
      | inl one ↦ ap y here ∙ one
      | inr none ↦ absurd (not_level _ _ (one_lower E choice p y opened test none) same)
    ]
  ];
}

-- what the strip of one tells
one_agreed : (n : ℕ) (E : (ℕ → Bool) → ℤ) (choice : ℕ → Choice) (p : ℕ) (value : Bool) → IsSubmodular E → IsOver n E → Agree n E choice → choice p ≡ Open
    → TellsOne E choice p value → IsAgreed n E p (choice_of value)
one_agreed n E choice p false falls over agree opened test = (
  choices_or choice (told_by (record { set = lone p; lower = λ k. false; upper = λ k. false })),
  upper_agrees n E choice (lone p) (λ k. false) falls over agree (zero_least E choice p opened test),
  ap (λ (c : Choice). or_else c (cond (lone p p) Zero Open)) opened ∙ ap (λ b. cond b Zero Open) (test_true p p refl),
)
one_agreed n E choice p true falls over agree opened test = (
  choices_or choice (told_by (record { set = lone p; lower = lone p; upper = λ k. true })),
  lower_agrees n E choice (lone p) (lone p) falls over agree (one_least n E choice p opened test),
  ap (λ (c : Choice). or_else c (cond (lone p p) (choice_of_bounds (lone p p) true) Open)) opened ∙ ap (λ b. cond b (choice_of_bounds b true) Open) (test_true p p refl),
)

one_known : (k p : ℕ) → (k == p) ≡ true → k ≡ p
one_known k p h = elim (cases_eq k p) [
  | inl same ↦ same
  | inr other ↦ absurd (not_both (k == p) h (test_false k p other))
]

one_or_other : (n : ℕ) (E : (ℕ → Bool) → ℤ) (choice : ℕ → Choice) (p : ℕ) (value : Bool) (k : ℕ) (b : Bool) → (b ≡ true → k ≡ p) → Agree n E choice
    → IsAgreed n E p (choice_of value) → IsAgreed n E k (cond b (choice_of value) (choice k))
one_or_other n E choice p value k true here agree agreed = (agreed.0, agreed.1, ap agreed.0 (here refl) ∙ agreed.2)
one_or_other n E choice p value k false here agree agreed = (choice, agree, refl)

pub tested_agree : (n : ℕ) (E : (ℕ → Bool) → ℤ) (choice : ℕ → Choice) (p : ℕ) (value : Bool) → IsSubmodular E → IsOver n E → Agree n E choice → choice p ≡ Open
    → TellsOne E choice p value → Agree n E (with_one choice p value)
tested_agree n E choice p value falls over agree opened test =
    each_agreed n E (with_one choice p value)
    (λ k l. inr (one_or_other n E choice p value k (k == p) (one_known k p) agree (one_agreed n E choice p value falls over agree opened test)))

-- ---- side by side

or_open : (c d : Choice) → or_else c d ≡ Open → c ≡ Open
or_open Open d h = refl
or_open Zero d h = h
or_open One d h = h

-- what stands first, and where that is open, what the other gives
or_agreed : (n : ℕ) (E : (ℕ → Bool) → ℤ) (p : ℕ) (c d : Choice) → IsAgreed n E p c → (c ≡ Open → IsAgreed n E p d) → IsAgreed n E p (or_else c d)
or_agreed n E p Open d own other = other refl
or_agreed n E p Zero d own other = own
or_agreed n E p One d own other = own

pub strip_adds : (n : ℕ) (E : (ℕ → Bool) → ℤ) (start choice : ℕ → Choice) (strip : Strip) → IsSubmodular E → IsOver n E → Agree n E start → Agree n E choice
    → ChooseMore n start choice → IsStripBounded n E start strip
    → Agree n E (choices_or choice (told_by strip)) × ChooseMore n start (choices_or choice (told_by strip))
strip_adds n E start choice strip falls over first agree more bounded = (
  each_agreed n E (choices_or choice (told_by strip)) (λ p l. inr (or_agreed n E p (choice p) (told_by strip p) (choice, agree, refl) (λ opened. (
    choices_or start (told_by strip),
    strip_agrees n E start strip falls over first bounded,
    ap (λ (c : Choice). or_else c (told_by strip p)) (more p l opened),
  )))),
  λ p l opened. more p l (or_open (choice p) (told_by strip p) opened),
)

strips_add : (n : ℕ) (E : (ℕ → Bool) → ℤ) (choice : ℕ → Choice) (strips : List Strip) → IsSubmodular E → IsOver n E → Agree n E choice
    → All (IsStripBounded n E choice) strips → Agree n E (with_strips choice strips) × ChooseMore n choice (with_strips choice strips)
strips_add n E choice [] falls over agree bounded = (agree, λ p l opened. opened)
strips_add n E choice (strip ∷ strips) falls over agree bounded =
    let rest = strips_add n E choice strips falls over agree (All-tail (IsStripBounded n E choice) strip strips bounded) in
    strip_adds n E choice (with_strips choice strips) strip falls over agree rest.0 rest.1 (All-head (IsStripBounded n E choice) strip strips bounded)

pub strips_agree : (n : ℕ) (E : (ℕ → Bool) → ℤ) (choice : ℕ → Choice) (strips : List Strip) → IsSubmodular E → IsOver n E → Agree n E choice
    → All (IsStripBounded n E choice) strips → Agree n E (with_strips choice strips)
strips_agree n E choice strips falls over agree bounded = (strips_add n E choice strips falls over agree bounded).0

pub batches_agree : (n : ℕ) (E : (ℕ → Bool) → ℤ) (choice : ℕ → Choice) (batches : List (List Strip)) → IsSubmodular E → IsOver n E → Agree n E choice
    → AreBatches n E choice batches → Agree n E (with_batches choice batches)
batches_agree n E choice [] falls over agree closed = agree
batches_agree n E choice (strips ∷ batches) falls over agree closed =
    strips_agree n E (with_batches choice batches) strips falls over (batches_agree n E choice batches falls over agree closed.0) closed.1

pub batches_least : (n : ℕ) (E : (ℕ → Bool) → ℤ) (choice : ℕ → Choice) (batches : List (List Strip)) (z : ℕ → Bool) → IsSubmodular E → IsOver n E → Agree n E choice
    → AreBatches n E choice batches → IsSmallestLeast n (fixed_value E (with_batches choice batches)) z
    → IsSmallestLeast n E (with_choices (with_batches choice batches) z)
batches_least n E choice batches z falls over agree closed least =
    rest_agrees n E (with_batches choice batches) z falls over (batches_agree n E choice batches falls over agree closed) least
