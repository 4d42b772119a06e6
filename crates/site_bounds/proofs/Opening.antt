-- The sites of a swap, listed and opened.
use Rattle.std.proofs.Common.{◌≡◌, ◌≢◌, ◌==◌, ◌||◌, ◌++◌, ◌∷◌, ℕ, zero, suc, ◌+◌, ◌-◌, ◌<◌, ◌≤◌, Bool, true, false, not, cond, List, [], length, get_or, take, All, refl, sym, ap, ◌∙◌, inl, inr, subst, arith}
use Rattle.std.specs.Prelude.{◌↔◌, replicate, slice_set}
use Rattle.std.proofs.lemmas.Bool.{cases_eq, cases_lt}
use Rattle.std.proofs.lemmas.List.{get_or-replicate, length-replicate}
use Rattle.std.proofs.Math.ListN.{get_or-eq_default}
use Rattle.std.proofs.lemmas.List.Elements.{All-from_get_or}
use Rattle.site_bounds.proofs.Among.{listed_inside}
use Rattle.label_energies.specs.declared.change.Move.{Move}
use Rattle.label_energies.specs.declared.change.Move.TheVariants.{Expand, Swap}
use Rattle.label_energies.specs.Energies.{labelling}
use Rattle.label_energies.specs.Moves.{label_after, IsOneOf, IsMoveOf}
use Rattle.label_energies.proofs.Reaching.{cases_one, swap_one, swap_other}
use Rattle.move_energy.specs.BySite.{rising_sites, IsListing}
use Rattle.move_energy.specs.declared.choice.Choice.{Choice}
use Rattle.move_energy.specs.declared.choice.Choice.TheVariants.{Open, Zero, One}
use Rattle.move_energy.specs.Choices.{is_open, open_at, choice_at, AreAllOpen, AreOpenSites}
use Rattle.move_energy.proofs.Listings.{chosen_below, listing_has, listing_place}
use Rattle.move_energy.proofs.SiteSums.{test_true, test_false}
use Rattle.site_bounds.specs.Swapped.{can_turn, has_either, OpensSites}
use Rattle.site_bounds.proofs.Skipping.{skipped}
use Rattle.site_bounds.proofs.Trying.{set_here, set_there}

-- ---- which sites a swap can change

same_labels : (x y : ℕ) → x ≡ y → not (x == y) ≡ false
same_labels x y is = ap not (test_true x y is)

other_labels : (x y : ℕ) → x ≢ y → not (x == y) ≡ true
other_labels x y off = ap not (test_false x y off)

turn_none : (a b : ℕ) (f : ℕ → ℕ) (p : ℕ) → a ≡ b → can_turn (Swap a b) f p ≡ false
turn_none a b f p same = elim (cases_one a b (f p)) [
  | inl one ↦ same_labels _ _ (swap_one a b (f p) true one ∙ sym same ∙ sym (swap_one a b (f p) false one))
  | inr off ↦ same_labels _ _ (swap_other a b (f p) true off.0 off.1 ∙ sym (swap_other a b (f p) false off.0 off.1))
]

pub or_true : (b : Bool) → (b || true) ≡ true
or_true true = refl
or_true false = refl

either_one : (a b old : ℕ) → IsOneOf a b old → ((old == a) || (old == b)) ≡ true
either_one a b old (inl is) = ap (λ t. t || (old == b)) (test_true old a is)
either_one a b old (inr is) = ap (λ t. (old == a) || t) (test_true old b is) ∙ or_true (old == a)

turn_is : (a b : ℕ) (f : ℕ → ℕ) (p : ℕ) → a ≢ b → has_either a b f p ≡ can_turn (Swap a b) f p
turn_is a b f p apart = elim (cases_one a b (f p)) [
  | inl one ↦
      let differ : label_after (Swap a b) (f p) true ≢ label_after (Swap a b) (f p) false = λ same. apart (sym (sym (swap_one a b (f p) true one) ∙ same ∙ swap_one a b (f p) false one)) in
      either_one a b (f p) one ∙ sym (other_labels _ _ differ)
  | inr off ↦
      (λ i. test_false (f p) a off.0 i || test_false (f p) b off.1 i)
      ∙ sym (same_labels _ _ (swap_other a b (f p) true off.0 off.1 ∙ sym (swap_other a b (f p) false off.0 off.1)))
]

pub rising_same : (one two : ℕ → Bool) (n : ℕ) → ((p : ℕ) → p < n → one p ≡ two p) → rising_sites one n ≡ rising_sites two n
rising_same one two zero same = refl
rising_same one two (suc n) same =
    λ i. rising_same one two n (λ p l. same p (omega (arith, l))) i ++ cond (same n (omega arith) i) (n ∷ []) []

pub none_turns : (a b : ℕ) (f : ℕ → ℕ) (n : ℕ) → a ≡ b → IsListing (can_turn (Swap a b) f) n []
none_turns a b f n same = skipped (can_turn (Swap a b) f) 0 n [] (omega arith) (λ p from to. turn_none a b f p same) refl

pub either_turns : (a b : ℕ) (f : ℕ → ℕ) (n : ℕ) (sites : List ℕ) → a ≢ b → IsListing (has_either a b f) n sites → IsListing (can_turn (Swap a b) f) n sites
either_turns a b f n sites apart listed = listed ∙ rising_same (has_either a b f) (can_turn (Swap a b) f) n (λ p l. turn_is a b f p apart)

-- ---- sites that are opened one after another

before_last : (sites : List ℕ) (place k : ℕ) → k < place + 1 → get_or sites k 0 ≢ get_or sites place 0 → k < place
before_last sites place k l other = elim (cases_eq k place) [
  | inl same ↦ absurd (other (ap (λ j. get_or sites j 0) same))
  | inr apart ↦ omega (arith, l, apart)
]

pub opened_more : (sites : List ℕ) (place : ℕ) (choices : List Choice) → get_or sites place 0 < length choices → ((k : ℕ) → k < place → choice_at choices (get_or sites k 0) ≡ Open)
    → (k : ℕ) → k < place + 1 → choice_at (slice_set choices (get_or sites place 0) Open) (get_or sites k 0) ≡ Open
opened_more sites place choices inside opened k l =
    let site = get_or sites place 0 in
    elim (cases_eq (get_or sites k 0) site) [
      | inl same ↦ ap (choice_at (slice_set choices site Open)) same ∙ set_here choices site Open inside
      | inr other ↦
          let before : k < place = before_last sites place k l other in
          set_there choices site (get_or sites k 0) Open other ∙ opened k before
    ]

pub others_more : (sites : List ℕ) (place : ℕ) (first choices : List Choice) → ((p : ℕ) → ((k : ℕ) → k < place → get_or sites k 0 ≢ p) → choice_at choices p ≡ choice_at first p)
    → (p : ℕ) → ((k : ℕ) → k < place + 1 → get_or sites k 0 ≢ p) → choice_at (slice_set choices (get_or sites place 0) Open) p ≡ choice_at first p
others_more sites place first choices others p off =
    set_there choices (get_or sites place 0) p Open (λ same. off place (omega arith) (sym same)) ∙ others p (λ k l. off k (omega (arith, l)))

-- ---- the choices of a swap at the beginning

take_none : (n : ℕ) (xs : List Choice) → length xs ≡ 0 → take n xs ≡ []
take_none zero xs none = refl
take_none (suc n) [] none = refl
take_none (suc n) (x ∷ xs) none = absurd (omega (arith, none))

none_less : (n k : ℕ) → k ≡ 0 → n - k ≡ n
none_less n k none = omega (arith, none)

pub begins_closed : (n k : ℕ) (old new : List Choice) → length old ≡ 0 → k ≡ length old → new ≡ take n old ++ replicate (n - k) Zero → new ≡ replicate n Zero
begins_closed n k old new none count is =
    is ∙ (λ i. take_none n old none i ++ replicate (none_less n k (count ∙ none) i) Zero)

nothing : (n p : ℕ) → choice_at (replicate n Zero) p ≡ Zero
nothing n p = elim (cases_lt p n) [
  | inl inside ↦ get_or-replicate n p Zero Zero inside
  | inr beyond ↦ get_or-eq_default (replicate n Zero) Zero {n = p} (omega (arith, beyond, length-replicate n Zero))
]

first_known : (chosen : ℕ → Bool) (n : ℕ) (sites : List ℕ) (old new : List Choice) → IsListing chosen n sites → OpensSites sites old new → ((p : ℕ) → choice_at old p ≡ Zero)
    → (p : ℕ) → p < n → (b : Bool) → chosen p ≡ b → choice_at new p ≡ cond b Open Zero
first_known chosen n sites old new listed opens none p l true is =
    let found = listing_place chosen n p l is in
    let e = ap (λ (xs : List ℕ). length xs) listed in
    let k = chosen_below chosen p in
    let here : get_or sites k 0 ≡ p = ap (λ (xs : List ℕ). get_or xs k 0) listed ∙ found.1 in
    ap (choice_at new) (sym here) ∙ opens.opened k (omega (arith, found.0, e))
first_known chosen n sites old new listed opens none p l false is =
    opens.others p (λ k m same.
    (let e = ap (λ (xs : List ℕ). length xs) listed in
    let here = ap (λ (xs : List ℕ). get_or xs k 0) (sym listed) ∙ same in
    let has = listing_has chosen n k (omega (arith, m, e)) in
    absurd (cc (sym (ap chosen here) ∙ has.1, is)))) ∙ none p

known_open : (c : Choice) (x y : ℕ) → c ≡ cond (not (x == y)) Open Zero → c ≡ Open ↔ (x ≢ y)
known_open c x y is = elim (cases_eq x y) [
  | inl same ↦
      let none = is ∙ ap (λ b. cond b Open Zero) (same_labels x y same) in
      (λ opened. absurd (cc (none, opened)), λ off. absurd (off same))
  | inr other ↦ (let one = is ∙ ap (λ b. cond b Open Zero) (other_labels x y other) in (λ opened. other, λ off. one))
]

known_none : (c : Choice) (b : Bool) → c ≡ cond b Open Zero → c ≢ One
known_none c true is one = absurd (cc (is, one))
known_none c false is one = absurd (cc (is, one))

open_known : (b : Bool) → is_open (cond b Open Zero) ≡ b
open_known true = refl
open_known false = refl

pub all_open : (move : Move) (f sites : List ℕ) (new : List Choice) → IsListing (can_turn move (labelling f)) (length f) sites → OpensSites sites (replicate (length f) Zero) new → AreAllOpen move f new
all_open move f sites new listed opens =
    let known = λ (p : ℕ) (l : p < length f). first_known (can_turn move (labelling f)) (length f) sites _ new listed opens (nothing (length f)) p l _ refl in
    record {
      count = opens.count ∙ length-replicate (length f) Zero;
      opened = λ p l. known_open (choice_at new p) _ _ (known p l);
      none = λ p l. known_none (choice_at new p) _ (known p l);
    }

pub open_sites_are : (move : Move) (f sites : List ℕ) (new : List Choice) → IsListing (can_turn move (labelling f)) (length f) sites → OpensSites sites (replicate (length f) Zero) new → AreOpenSites new sites
open_sites_are move f sites new listed opens =
    let chosen = can_turn move (labelling f) in
    let known = λ (p : ℕ) (l : p < length f). first_known chosen (length f) sites _ new listed opens (nothing (length f)) p l _ refl in
    let O : ℕ → Type 0 = λ n. IsListing (open_at new) n sites in
    subst O (sym (opens.count ∙ length-replicate (length f) Zero))
    (listed ∙ sym (rising_same (open_at new) chosen (length f) (λ p l. ap is_open (known p l) ∙ open_known (chosen p))))

pub listed_within : (chosen : ℕ → Bool) (n : ℕ) (sites : List ℕ) → IsListing chosen n sites → All (λ p. p < n) sites
listed_within chosen n sites listed = All-from_get_or (λ p. p < n) sites 0 (λ i l. listed_inside chosen n sites i listed l)

pub move_below : (k n : ℕ) (move : Move) → k ≤ n → IsMoveOf k move → IsMoveOf n move
move_below k n (Expand a) most below = omega (arith, most, below)
move_below k n (Swap a b) most below = (omega (arith, most, below.0), omega (arith, most, below.1))
