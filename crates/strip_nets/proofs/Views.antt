-- What a strip sees, and what holds of it.
use Rattle.std.proofs.Common.{◌≡◌, ◌≢◌, ℕ, ◌+◌, ◌<◌, ◌≤◌, Bool, true, false, cond, List, length, ℤ, ◌-ℤ◌, ◌==◌, ◌&&◌, not, inl, inr, refl, sym, ap, ◌∙◌, arith}
use Rattle.std.specs.Prelude.{nat_lt}
use Rattle.std.proofs.lemmas.Bool.{cases_lt}
use Rattle.std.proofs.lemmas.Bool.Decides.{nat_tests}
use Rattle.std.proofs.lemmas.List.{get_or_past}
use Rattle.std.proofs.lemmas.List.FromFn.{get_or-map-range_with_len, length-map-range_with_len}
use Rattle.sums.specs.Sums.{sum_below}
use Rattle.label_energies.specs.declared.change.Move.{Move}
use Rattle.label_energies.specs.Energies.{Instance, IsInstance}
use Rattle.move_energy.specs.declared.choice.Choice.{Choice}
use Rattle.move_energy.specs.declared.choice.Choice.TheVariants.{Open, Zero, One}
use Rattle.move_energy.specs.Choices.{bit_of, choice_at, is_open, openness, open_at, open_rank}
use Rattle.move_energy.specs.Weights.{AreWeights}
use Rattle.move_energy.proofs.Rising.{move_over}
use Rattle.persistency.specs.Fixing.{with_choices}
use Rattle.persistency.specs.Agreeing.{or_else, choices_or}
use Rattle.persistency.specs.Borders.{range_of, is_inside}
use Rattle.strip_nets.specs.Views.{choices_seen, strip_view, KeepsChosen}

-- ---- choices that are the same at the sites

pub weights_same : (m : Instance) (move : Move) (f : ℕ → ℕ) (choice other : ℕ → Choice) (weights : List ℤ) → IsInstance m
    → ((p : ℕ) → p < m.sites → choice p ≡ other p) → AreWeights m move f choice weights → AreWeights m move f other weights
weights_same m move f choice other weights pairs same are u l opened =
    let over = move_over m move f pairs in
    let one = over (with_choices choice (λ p. p == u)) (with_choices other (λ p. p == u)) (λ p k. ap (λ (c : Choice). bit_of c (p == u)) (same p k)) in
    let none = over (with_choices choice (λ p. false)) (with_choices other (λ p. false)) (λ p k. ap (λ (c : Choice). bit_of c false) (same p k)) in
    are u l (same u l ∙ opened) ∙ (λ i. one i -ℤ none i)

-- ---- the sites of a range

pub in_range : (from to p : ℕ) → from ≤ p → p < to → range_of from to p ≡ true
in_range from to p a b = grind (arith, nat_tests)

pub above_range : (from to p : ℕ) → to ≤ p → range_of from to p ≡ false
above_range from to p a = grind (arith, nat_tests)

pub below_range : (from to p : ℕ) → p < from → range_of from to p ≡ false
below_range from to p a = grind (arith, nat_tests)

same_test : (p s : ℕ) → p ≢ s → nat_lt p (s + 1) ≡ nat_lt p s
same_test p s h = elim (cases_lt p s) [
  | inl l ↦ grind (arith, nat_tests)
  | inr past ↦ (let m : s + 1 ≤ p = omega (arith, past, h) in grind (arith, nat_tests))
]

pub range_more : (from s p : ℕ) → p ≢ s → range_of from (s + 1) p ≡ range_of from s p
range_more from s p h = ap (λ (b : Bool). not (nat_lt p from) && b) (same_test p s h)

-- ---- the view

pub first_of : {A : Type 0} (b : Bool) (x y : A) → b ≡ true → cond b x y ≡ x
first_of true x y h = refl
first_of false x y h = absurd (cc (h))

pub second_of : {A : Type 0} (b : Bool) (x y : A) → b ≡ false → cond b x y ≡ y
second_of true x y h = absurd (cc (h))
second_of false x y h = refl

none_or : (b : Bool) → cond b Zero (or_else Zero Zero) ≡ Zero
none_or true = refl
none_or false = refl

pub view_length : (known : List Choice) (from to : ℕ) → length (strip_view known from to) ≡ length known
unfolding strip_view
view_length known from to = length-map-range_with_len (choices_seen known from to) 0 (length known)

pub view_at : (known : List Choice) (from to p : ℕ) → choice_at (strip_view known from to) p ≡ choices_seen known from to p
unfolding strip_view
view_at known from to p = elim (cases_lt p (length known)) [
  | inl l ↦ get_or-map-range_with_len (choices_seen known from to) 0 (length known) p p Zero l (omega arith)
  | inr past ↦
      get_or_past (strip_view known from to) p Zero (omega (arith, past, length-map-range_with_len (choices_seen known from to) 0 (length known)))
      ∙ sym (ap (λ (c : Choice). cond (range_of from to p) c (or_else c Zero)) (get_or_past known p Zero (omega (arith, past))) ∙ none_or (range_of from to p))
]

pub view_is : (known : List Choice) (from to : ℕ) → choice_at (strip_view known from to) ≡ choices_seen known from to
view_is known from to = λ j p. view_at known from to p j

pub open_is : (known : List Choice) (from to p : ℕ) → open_at (strip_view known from to) p ≡ is_open (choices_seen known from to p)
open_is known from to p = ap is_open (view_at known from to p)

-- inside the range it is what is known, and outside it nothing is open
pub seen_in : (known : List Choice) (from to p : ℕ) → range_of from to p ≡ true → choices_seen known from to p ≡ choice_at known p
seen_in known from to p h = first_of (range_of from to p) (choice_at known p) (or_else (choice_at known p) Zero) h

pub shut : (c : Choice) → is_open (or_else c Zero) ≡ false
shut Open = refl
shut Zero = refl
shut One = refl

pub seen_out : (known : List Choice) (from to p : ℕ) → range_of from to p ≡ false → is_open (choices_seen known from to p) ≡ false
seen_out known from to p h =
    ap is_open (second_of (range_of from to p) (choice_at known p) (or_else (choice_at known p) Zero) h) ∙ shut (choice_at known p)

both_open : (b : Bool) (c : Choice) → is_open (cond b c (or_else c Zero)) ≡ true → (b ≡ true) × (is_open c ≡ true)
both_open true c h = (refl, h)
both_open false c h = absurd (let e = sym h ∙ shut c in cc (e))

-- an open site of the strip
pub open_inside : (known : List Choice) (from to p : ℕ) → open_at (strip_view known from to) p ≡ true → (range_of from to p ≡ true) × (is_open (choice_at known p) ≡ true)
open_inside known from to p h = both_open (range_of from to p) (choice_at known p) (sym (open_is known from to p) ∙ h)

pub inside_open : (known : List Choice) (from to p : ℕ) → range_of from to p ≡ true → is_open (choice_at known p) ≡ true → open_at (strip_view known from to) p ≡ true
inside_open known from to p within is = open_is known from to p ∙ ap is_open (seen_in known from to p within) ∙ is

inside_by : (b : Bool) (c : Choice) → (is_open c && b) ≡ is_open (cond b c (or_else c Zero))
inside_by true Open = refl
inside_by true Zero = refl
inside_by true One = refl
inside_by false Open = refl
inside_by false Zero = refl
inside_by false One = refl

pub inside_is : (known : List Choice) (from to p : ℕ) → is_inside (choice_at known) (range_of from to) p ≡ open_at (strip_view known from to) p
inside_is known from to p = inside_by (range_of from to p) (choice_at known p) ∙ sym (open_is known from to p)

-- ---- the whole

whole_at : (known : List Choice) (to p : ℕ) → length known ≤ to → choices_seen known 0 to p ≡ choice_at known p
whole_at known to p all = elim (cases_lt p to) [
  | inl l ↦ seen_in known 0 to p (in_range 0 to p (omega arith) l)
  | inr past ↦
      let none = get_or_past known p Zero (omega (arith, past, all)) in
      ap (λ (c : Choice). cond (range_of 0 to p) c (or_else c Zero)) none ∙ none_or (range_of 0 to p) ∙ sym none
]

pub whole_is : (known : List Choice) (to : ℕ) → length known ≤ to → choice_at (strip_view known 0 to) ≡ choice_at known
whole_is known to all = λ j p. (view_at known 0 to p ∙ whole_at known to p all) j

abbrev rank_by : (ℕ → Choice) → ℕ → ℕ
rank_by choice n = sum_below n (λ p. openness (choice p))

pub whole_rank : (known : List Choice) (to : ℕ) → length known ≤ to → open_rank (strip_view known 0 to) ≡ open_rank known
whole_rank known to all = λ j n. rank_by (whole_is known to all j) n

-- ---- what is known goes on from the start

joined_at : (s v : Choice) → (s ≢ Open → v ≡ s) → or_else s v ≡ v
joined_at Open v h = refl
joined_at Zero v h = sym (h (λ e. absurd (cc (e))))
joined_at One v h = sym (h (λ e. absurd (cc (e))))

pub goes_on_joined : (start known : List Choice) (p : ℕ) → KeepsChosen start known → p < length known → choices_or (choice_at start) (choice_at known) p ≡ choice_at known p
goes_on_joined start known p on l = joined_at (choice_at start p) (choice_at known p) (on p l)
