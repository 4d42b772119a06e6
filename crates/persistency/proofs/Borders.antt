-- Strips of a move, and their borders.
use Rattle.std.proofs.Common.{◌≡◌, ◌≢◌, ◌==◌, ◌&&◌, ◌||◌, ℕ, zero, suc, ◌+◌, ◌-◌, ◌<◌, ◌≤◌, ◌⊎◌, Bool, true, false, not, cond, List, [], ◌∷◌, ℤ, pos, ◌+ℤ◌, ◌-ℤ◌, ◌≤ℤ◌, ◌<ℤ◌, refl, sym, ap, ◌∙◌, inl, inr, arith}
use Rattle.std.specs.List.{All, sum_by}
use Rattle.std.proofs.lemmas.Int.{ints}
use Rattle.std.proofs.lemmas.Bool.{cases_eq, cases_Bool}
use Rattle.std.proofs.lemmas.List.Elements.{All-head, All-tail}
use Rattle.std.proofs.lemmas.List.Sums.{sum_by-cons}
use Rattle.sums.specs.Sums.{sum_below, count_if}
use Rattle.sums.specs.IntegerSums.{int_sum_by, int_sum_below}
use Rattle.move_energy.specs.declared.by_site.Neighbours.{Neighbours}
use Rattle.label_field.specs.declared.pair.Pair.{Pair}
use Rattle.label_field.specs.PairLists.{IsPair}
use Rattle.label_energies.specs.declared.change.Move.{Move}
use Rattle.label_energies.specs.Energies.{Instance, IsInstance}
use Rattle.label_energies.specs.Moves.{pair_entry, IsRegularPair, IsAllowed}
use Rattle.move_energy.specs.declared.choice.Choice.{Choice}
use Rattle.move_energy.specs.declared.choice.Choice.TheVariants.{Open, Zero, One}
use Rattle.move_energy.specs.Choices.{bit_of, choice_at, is_open}
use Rattle.move_energy.specs.BySite.{AreNeighboursOf, degree, pair_of}
use Rattle.move_energy.proofs.Beside.{site_sum}
use Rattle.move_energy.specs.Weights.{weight_at, pair_surplus, AreWeights}
use Rattle.move_energy.specs.Assignments.{set_bit, rise}
use Rattle.site_bounds.specs.Decisions.{IsSmallestLeast}
use Rattle.move_energy.specs.MoveValues.{move_value, data_rise, pair_rise}
use Rattle.site_bounds.specs.Decided.{AreDecided}
use Rattle.site_bounds.specs.Working.{TellsValue, ArePartlyDecided}
use Rattle.site_bounds.specs.declared.bounds.Bounds.{Bounds}
use Rattle.move_energy.proofs.Assignments.{set_at, set_other, set_same, value_same}
use Rattle.site_bounds.proofs.Putting.{passed_forced}
use Rattle.move_energy.proofs.Rising.{move_falls, move_over, rise_over, rise_parts, pair_rise-first, pair_rise-second, pair_rise-none}
use Rattle.move_energy.proofs.SiteSums.{test_true, test_false}
use Rattle.persistency.specs.Fixing.{with_choices, fixed_value}
use Rattle.persistency.specs.Agreeing.{Agree, TellsOne, or_else, choices_or}
use Rattle.persistency.specs.Strips.{Strip, others_at, lower_value, upper_value, with_batches, AreBatches}
use Rattle.persistency.specs.Borders.{is_inside, is_one, not_ones, is_beyond, pair_border, border_at, border_sum}
use Rattle.persistency.proofs.Fixing.{set_shut, open_rise, fixed_over}
use Rattle.persistency.proofs.Agreeing.{forced_agree}
use Rattle.persistency.proofs.Strips.{batches_least}

-- ---- the laws, of a move

pub decided_agree : (m : Instance) (move : Move) (f : ℕ → ℕ) (choice : ℕ → Choice) → IsInstance m → IsAllowed m move f → AreDecided m move f choice
    → Agree m.sites (move_value m move f) choice
decided_agree m move f choice pairs allowed decided =
    forced_agree m.sites (move_value m move f) decided.decisions choice
    (passed_forced (move_value m move f) decided.decisions (move_falls m move f pairs allowed) decided.passed) decided.shown

pub batches_end : (m : Instance) (move : Move) (f : ℕ → ℕ) (choice : ℕ → Choice) (batches : List (List Strip)) (z : ℕ → Bool) → IsInstance m → IsAllowed m move f
    → Agree m.sites (move_value m move f) choice → AreBatches m.sites (move_value m move f) choice batches
    → IsSmallestLeast m.sites (fixed_value (move_value m move f) (with_batches choice batches)) z
    → IsSmallestLeast m.sites (move_value m move f) (with_choices (with_batches choice batches) z)
batches_end m move f choice batches z pairs allowed =
    batches_least m.sites (move_value m move f) choice batches z (move_falls m move f pairs allowed) (move_over m move f pairs)

-- ---- a site of the strip, a site beyond it, and any other

inside_is_open : (c v : Choice) (inside : Bool) → (is_open c && inside) ≡ true → cond inside c (or_else c v) ≡ Open
inside_is_open Open v true h = refl
inside_is_open Open v false h = absurd (cc (h))
inside_is_open Zero v inside h = absurd (cc (h))
inside_is_open One v inside h = absurd (cc (h))

-- the value of a site is the same below and above, or it is 0 below and 1 above, beyond the strip
sides : (c : Choice) (inside b : Bool)
    → (((is_open c && not inside) ≡ true) × (bit_of (cond inside c (or_else c Zero)) b ≡ false) × (bit_of (cond inside c (or_else c One)) b ≡ true))
    ⊎ (((is_open c && not inside) ≡ false) × (bit_of (cond inside c (or_else c One)) b ≡ bit_of (cond inside c (or_else c Zero)) b))
sides Open true b = inr (refl, refl)
sides Open false b = inl (refl, refl, refl)
sides Zero true b = inr (refl, refl)
sides Zero false b = inr (refl, refl)
sides One true b = inr (refl, refl)
sides One false b = inr (refl, refl)

-- a site that is not of the strip has its value
shut_side : (c v : Choice) (inside : Bool) → ((a b : Bool) → bit_of v a ≡ bit_of v b) → (is_open c && inside) ≡ false
    → (a b : Bool) → bit_of (cond inside c (or_else c v)) a ≡ bit_of (cond inside c (or_else c v)) b
shut_side Open v true fix h a b = absurd (cc (h))
shut_side Open v false fix h a b = fix a b
shut_side Zero v true fix h a b = refl
shut_side Zero v false fix h a b = refl
shut_side One v true fix h a b = refl
shut_side One v false fix h a b = refl

-- ---- the rise of a pair, below and above

or_none : (a : Bool) → (a || false) ≡ a
or_none true = refl
or_none false = refl

leads_first : (a b c d : Bool) → a ≡ true → c ≡ false → ((a && b) || (c && d)) ≡ b
leads_first true b false d h k = or_none b
leads_first false b c d h k = absurd (cc (h))
leads_first true b true d h k = absurd (cc (k))

leads_second : (a b c d : Bool) → a ≡ false → c ≡ true → ((a && b) || (c && d)) ≡ d
leads_second false b true d h k = refl
leads_second true b c d h k = absurd (cc (h))
leads_second false b false d h k = absurd (cc (k))

leads_none : (a b c d : Bool) → a ≡ false → c ≡ false → ((a && b) || (c && d)) ≡ false
leads_none false b false d h k = refl
leads_none true b c d h k = absurd (cc (h))
leads_none false b true d h k = absurd (cc (k))

gap : (a b c d : ℕ) → a + d ≤ b + c → (pos d -ℤ pos b) +ℤ pos (b + c - (a + d)) ≡ pos c -ℤ pos a
gap a b c d h = omega (arith, ints, h)

gap_second : (a b c d : ℕ) → a + d ≤ b + c → (pos d -ℤ pos c) +ℤ pos (b + c - (a + d)) ≡ pos b -ℤ pos a
gap_second a b c d h = omega (arith, ints, h)

no_gap : (z : ℤ) → z +ℤ pos 0 ≡ z
no_gap z = omega (arith, ints)

first_gap : (m : Instance) (move : Move) (f : ℕ → ℕ) (pair : Pair) (lead low high : Bool) → IsRegularPair m move f pair
    → ((lead ≡ true) × (low ≡ false) × (high ≡ true)) ⊎ ((lead ≡ false) × (high ≡ low))
    → (pos (pair_entry m move f pair true high) -ℤ pos (pair_entry m move f pair false high)) +ℤ pos (count_if lead (pair_surplus m move f pair))
    ≡ pos (pair_entry m move f pair true low) -ℤ pos (pair_entry m move f pair false low)
first_gap m move f pair true false true regular (inl h) =
    gap (pair_entry m move f pair false false) (pair_entry m move f pair false true) (pair_entry m move f pair true false) (pair_entry m move f pair true true) regular
first_gap m move f pair false low high regular (inl h) = absurd (let e = h.0 in cc (e))
first_gap m move f pair true true high regular (inl h) = absurd (let e = h.1 in cc (e))
first_gap m move f pair true false false regular (inl h) = absurd (let e = h.2 in cc (e))
first_gap m move f pair true low high regular (inr h) = absurd (let e = h.0 in cc (e))
first_gap m move f pair false true true regular (inr h) = no_gap _
first_gap m move f pair false false false regular (inr h) = no_gap _
first_gap m move f pair false true false regular (inr h) = absurd (let e = h.1 in cc (e))
first_gap m move f pair false false true regular (inr h) = absurd (let e = h.1 in cc (e))

second_gap : (m : Instance) (move : Move) (f : ℕ → ℕ) (pair : Pair) (lead low high : Bool) → IsRegularPair m move f pair
    → ((lead ≡ true) × (low ≡ false) × (high ≡ true)) ⊎ ((lead ≡ false) × (high ≡ low))
    → (pos (pair_entry m move f pair high true) -ℤ pos (pair_entry m move f pair high false)) +ℤ pos (count_if lead (pair_surplus m move f pair))
    ≡ pos (pair_entry m move f pair low true) -ℤ pos (pair_entry m move f pair low false)
second_gap m move f pair true false true regular (inl h) =
    gap_second (pair_entry m move f pair false false) (pair_entry m move f pair false true) (pair_entry m move f pair true false) (pair_entry m move f pair true true) regular
second_gap m move f pair false low high regular (inl h) = absurd (let e = h.0 in cc (e))
second_gap m move f pair true true high regular (inl h) = absurd (let e = h.1 in cc (e))
second_gap m move f pair true false false regular (inl h) = absurd (let e = h.2 in cc (e))
second_gap m move f pair true low high regular (inr h) = absurd (let e = h.0 in cc (e))
second_gap m move f pair false true true regular (inr h) = no_gap _
second_gap m move f pair false false false regular (inr h) = no_gap _
second_gap m move f pair false true false regular (inr h) = absurd (let e = h.1 in cc (e))
second_gap m move f pair false false true regular (inr h) = absurd (let e = h.1 in cc (e))

pair_gap : (m : Instance) (move : Move) (f : ℕ → ℕ) (choice : ℕ → Choice) (set x : ℕ → Bool) (p : ℕ) (pair : Pair) → IsPair m.sites pair → IsRegularPair m move f pair
    → pair_rise m move f p (with_choices (others_at One set choice) x) pair +ℤ pos (pair_border m move f choice set p pair)
    ≡ pair_rise m move f p (with_choices (others_at Zero set choice) x) pair
pair_gap m move f choice set x p pair is regular =
    let low = with_choices (others_at Zero set choice) x in
    let high = with_choices (others_at One set choice) x in
    elim (cases_eq pair.first p) [
      | inl here ↦
          let other : pair.second ≢ p = λ same. is.unequal (here ∙ sym same) in
          let lead = leads_first _ (is_beyond choice set pair.second) _ (is_beyond choice set pair.first) (test_true pair.first p here) (test_false pair.second p other) in
          (λ j. pair_rise-first m move f p high pair here other j +ℤ pos (count_if (lead j) (pair_surplus m move f pair)))
          ∙ first_gap m move f pair (is_beyond choice set pair.second) (low pair.second) (high pair.second) regular (sides (choice pair.second) (set pair.second) (x pair.second))
          ∙ sym (pair_rise-first m move f p low pair here other)
      | inr apart ↦ elim (cases_eq pair.second p) [
        | inl there ↦
            let lead = leads_second _ (is_beyond choice set pair.second) _ (is_beyond choice set pair.first) (test_false pair.first p apart) (test_true pair.second p there) in
            (λ j. pair_rise-second m move f p high pair apart there j +ℤ pos (count_if (lead j) (pair_surplus m move f pair)))
            ∙ second_gap m move f pair (is_beyond choice set pair.first) (low pair.first) (high pair.first) regular (sides (choice pair.first) (set pair.first) (x pair.first))
            ∙ sym (pair_rise-second m move f p low pair apart there)
        | inr neither ↦
            let lead = leads_none _ (is_beyond choice set pair.second) _ (is_beyond choice set pair.first) (test_false pair.first p apart) (test_false pair.second p neither) in
            (λ j. pair_rise-none m move f p high pair apart neither j +ℤ pos (count_if (lead j) (pair_surplus m move f pair)))
            ∙ sym (pair_rise-none m move f p low pair apart neither)
      ]
    ]

add_up : (a b c d : ℤ) (e g s : ℕ) → a +ℤ pos e ≡ c → b +ℤ pos g ≡ d → s ≡ e + g → (a +ℤ b) +ℤ pos s ≡ c +ℤ d
add_up a b c d e g s h k l = omega (arith, ints, h, k, l)

pairs_gap : (m : Instance) (move : Move) (f : ℕ → ℕ) (choice : ℕ → Choice) (set x : ℕ → Bool) (p : ℕ) (pairs : List Pair)
    → All (IsPair m.sites) pairs → All (IsRegularPair m move f) pairs
    → int_sum_by (pair_rise m move f p (with_choices (others_at One set choice) x)) pairs +ℤ pos (sum_by (pair_border m move f choice set p) pairs)
    ≡ int_sum_by (pair_rise m move f p (with_choices (others_at Zero set choice) x)) pairs
pairs_gap m move f choice set x p [] are regular = no_gap (pos 0)
pairs_gap m move f choice set x p (q ∷ qs) are regular =
    add_up _ _ _ _ _ _ _
    (pair_gap m move f choice set x p q (All-head (IsPair m.sites) q qs are) (All-head (IsRegularPair m move f) q qs regular))
    (pairs_gap m move f choice set x p qs (All-tail (IsPair m.sites) q qs are) (All-tail (IsRegularPair m move f) q qs regular))
    (sum_by-cons (pair_border m move f choice set p) q qs)

rise_gap : (a b c d e u l : ℤ) (s : ℕ) → u ≡ a → a ≡ e +ℤ c → l ≡ b → b ≡ e +ℤ d → c +ℤ pos s ≡ d → u +ℤ pos s ≡ l
rise_gap a b c d e u l s h k n o q = omega (arith, ints, h, k, n, o, q)

pub upper_rise : (m : Instance) (move : Move) (f : ℕ → ℕ) (choice : ℕ → Choice) (set x : ℕ → Bool) (p : ℕ) → IsInstance m → IsAllowed m move f → p < m.sites
    → is_inside choice set p ≡ true
    → rise (upper_value (move_value m move f) choice set) p x +ℤ pos (border_at m move f choice set p)
    ≡ rise (lower_value (move_value m move f) choice set) p x
upper_rise m move f choice set x p pairs allowed l inside =
    let E = move_value m move f in
    rise_gap _ _ _ _ (data_rise m move f p) _ _ _
    (open_rise E (others_at One set choice) x p (inside_is_open (choice p) One (set p) inside))
    (rise_parts m move f p (with_choices (others_at One set choice) x) l)
    (open_rise E (others_at Zero set choice) x p (inside_is_open (choice p) Zero (set p) inside))
    (rise_parts m move f p (with_choices (others_at Zero set choice) x) l)
    (pairs_gap m move f choice set x p m.pairs pairs allowed)

-- ---- the whole function, one site after another

-- x below k, and 0 from there on
abbrev below : (ℕ → Bool) → ℕ → ℕ → Bool
below x zero = λ p. false
below x (suc k) = set_bit (below x k) k (x k)

below_past : (x : ℕ → Bool) (k p : ℕ) → k ≤ p → below x k p ≡ false
below_past x zero p l = refl
below_past x (suc k) p l = set_other (below x k) k p (x k) (λ same. omega (arith, same, l)) ∙ below_past x k p (omega (arith, l))

below_is : (x : ℕ → Bool) (k p : ℕ) → p < k → below x k p ≡ x p
below_is x zero p l = absurd (omega (arith, l))
below_is x (suc k) p l = elim (cases_eq p k) [
  | inl same ↦ set_at (below x k) k p (x k) same ∙ ap x (sym same)
  | inr other ↦ set_other (below x k) k p (x k) other ∙ below_is x k p (omega (arith, l, other))
]

and_second : (a b : Bool) → b ≡ false → (a && b) ≡ false
and_second true b h = h
and_second false b h = refl

and_both : (a b : Bool) → a ≡ true → b ≡ true → (a && b) ≡ true
and_both true b h k = k
and_both false b h k = h

and_first : (a b : Bool) → a ≡ false → (a && b) ≡ false
and_first true b h = absurd (cc (h))
and_first false b h = refl

-- nothing changes
step_none : (u v l n : ℤ) (s t : ℕ) (rest : ℤ) → u ≡ v → l ≡ n → t ≡ 0 → v +ℤ pos s ≡ n +ℤ rest → u +ℤ pos (s + t) ≡ l +ℤ rest
step_none u v l n s t rest h k o q = omega (arith, ints, h, k, o, q)

-- the site's rises
step_one : (u v w l n o : ℤ) (s t b : ℕ) (rest : ℤ) → (u -ℤ v) +ℤ pos b ≡ l -ℤ n → v ≡ w → n ≡ o → t ≡ b → w +ℤ pos s ≡ o +ℤ rest → u +ℤ pos (s + t) ≡ l +ℤ rest
step_one u v w l n o s t b rest h k p q r = omega (arith, ints, h, k, p, q, r)

below_gap : (m : Instance) (move : Move) (f : ℕ → ℕ) (choice : ℕ → Choice) (set x : ℕ → Bool) (k : ℕ) → IsInstance m → IsAllowed m move f → k ≤ m.sites
    → upper_value (move_value m move f) choice set (below x k)
    +ℤ pos (sum_below k (λ p. count_if (is_inside choice set p && x p) (border_at m move f choice set p)))
    ≡ lower_value (move_value m move f) choice set (below x k)
    +ℤ (upper_value (move_value m move f) choice set (λ p. false) -ℤ lower_value (move_value m move f) choice set (λ p. false))
below_gap m move f choice set x zero pairs allowed l = omega (arith, ints)
below_gap m move f choice set x (suc k) pairs allowed l =
    let E = move_value m move f in
    let U = upper_value E choice set in
    let L = lower_value E choice set in
    let G = below x k in
    let before = below_gap m move f choice set x k pairs allowed (omega (arith, l)) in
    elim (cases_Bool (x k)) [
      | inr none ↦
          let same = set_same G k (x k) (below_past x k k (omega arith) ∙ sym none) in
          step_none _ _ _ _ _ _ _ (value_same U _ _ same) (value_same L _ _ same)
          (ap (λ b. count_if b (border_at m move f choice set k)) (and_second (is_inside choice set k) (x k) none)) before
      | inl one ↦ elim (cases_Bool (is_inside choice set k)) [
        | inl inside ↦
            let same = set_same G k false (below_past x k k (omega arith)) in
            let rises = upper_rise m move f choice set G k pairs allowed (omega (arith, l)) inside in
            let at_one = ap (λ b. U (set_bit G k b)) one in
            let low_one = ap (λ b. L (set_bit G k b)) one in
            step_one (U (set_bit G k (x k))) (U (set_bit G k false)) _ (L (set_bit G k (x k))) (L (set_bit G k false)) _ _ _ _ _
            ((λ j. (at_one j -ℤ U (set_bit G k false)) +ℤ pos (border_at m move f choice set k)) ∙ rises ∙ (λ j. sym low_one j -ℤ L (set_bit G k false)))
            (value_same U _ _ same) (value_same L _ _ same)
            (ap (λ b. count_if b (border_at m move f choice set k)) (and_both (is_inside choice set k) (x k) inside one)) before
        | inr outside ↦
            step_none _ _ _ _ _ _ _
            (value_same E _ _ (set_shut (others_at One set choice) G k (x k) (shut_side (choice k) One (set k) (λ a b. refl) outside)))
            (value_same E _ _ (set_shut (others_at Zero set choice) G k (x k) (shut_side (choice k) Zero (set k) (λ a b. refl) outside)))
            (ap (λ b. count_if b (border_at m move f choice set k)) (and_first (is_inside choice set k) (x k) outside)) before
      ]
    ]

gap_along : (u v l n r : ℤ) (s : ℕ) → v +ℤ pos s ≡ n +ℤ r → v ≡ u → n ≡ l → u +ℤ pos s ≡ l +ℤ r
gap_along u v l n r s h k o = omega (arith, ints, h, k, o)

pub upper_is_lower : (m : Instance) (move : Move) (f : ℕ → ℕ) (choice : ℕ → Choice) (set : ℕ → Bool) → IsInstance m → IsAllowed m move f
    → (rest : ℤ) × ((x : ℕ → Bool) → upper_value (move_value m move f) choice set x
    +ℤ pos (border_sum m move f choice set x) ≡ lower_value (move_value m move f) choice set x +ℤ rest)
upper_is_lower m move f choice set pairs allowed =
    let E = move_value m move f in
    let over = move_over m move f pairs in (
      upper_value E choice set (λ p. false) -ℤ lower_value E choice set (λ p. false),
      λ x. gap_along _ _ _ _ _ _ (below_gap m move f choice set x m.sites pairs allowed (omega arith))
          (fixed_over m.sites E (others_at One set choice) over (below x m.sites) x (below_is x m.sites))
          (fixed_over m.sites E (others_at Zero set choice) over (below x m.sites) x (below_is x m.sites)),
    )

-- ---- weights

and_open : (c : Choice) (inside : Bool) → cond inside c (or_else c One) ≡ Open → (is_open c && inside) ≡ true
and_open Open true h = refl
and_open Open false h = absurd (cc (h))
and_open Zero true h = absurd (cc (h))
and_open Zero false h = absurd (cc (h))
and_open One true h = absurd (cc (h))
and_open One false h = absurd (cc (h))

below_open : (c : Choice) (inside : Bool) → cond inside c (or_else c Zero) ≡ Open → (c ≡ Open) × (inside ≡ true)
below_open Open true h = (refl, refl)
below_open Open false h = absurd (cc (h))
below_open Zero true h = absurd (cc (h))
below_open Zero false h = absurd (cc (h))
below_open One true h = absurd (cc (h))
below_open One false h = absurd (cc (h))

-- an open site beyond the strip that is 0 is 0
low_side : (c : Choice) (inside b : Bool) → (inside ≡ false → b ≡ false) → bit_of (cond inside c (or_else c Zero)) b ≡ bit_of c b
low_side c true b h = refl
low_side Open false b h = sym (h refl)
low_side Zero false b h = refl
low_side One false b h = refl

lone_low : (choice : ℕ → Choice) (set : ℕ → Bool) (u k : ℕ) → set u ≡ true → with_choices (others_at Zero set choice) (λ p. p == u) k ≡ with_choices choice (λ p. p == u) k
lone_low choice set u k inside = low_side (choice k) (set k) (k == u)
    (λ off. test_false k u (λ same. (let e = sym inside ∙ ap set (sym same) ∙ off in absurd (cc (e)))))

differences : (a b c d e : ℤ) → a ≡ b -ℤ c → d ≡ b → e ≡ c → a ≡ d -ℤ e
differences a b c d e h k l = omega (arith, ints, h, k, l)

pub strip_weights : (m : Instance) (move : Move) (f : ℕ → ℕ) (choice : ℕ → Choice) (set : ℕ → Bool) (weights : List ℤ)
    → AreWeights m move f choice weights → AreWeights m move f (others_at Zero set choice) weights
strip_weights m move f choice set weights are u l opened =
    let was = below_open (choice u) (set u) opened in
    let E = move_value m move f in
    differences _ _ _ _ _ (are u l was.0)
    (value_same E (with_choices (others_at Zero set choice) (λ p. p == u)) (with_choices choice (λ p. p == u)) (λ k. lone_low choice set u k was.1))
    (value_same E (with_choices (others_at Zero set choice) (λ p. false)) (with_choices choice (λ p. false)) (λ k. low_side (choice k) (set k) false (λ off. refl)))

-- a weight is a rise
told_one : (b : Bool) → b ≡ cond b true false
told_one true = refl
told_one false = refl

told_none : (b : Bool) → false ≡ cond b false false
told_none true = refl
told_none false = refl

lone_rise : (F : (ℕ → Bool) → ℤ) (u : ℕ) → F (λ p. p == u) -ℤ F (λ p. false) ≡ rise F u (λ p. false)
lone_rise F u =
    let one = value_same F (λ p. p == u) (set_bit (λ p. false) u true) (λ k. told_one (k == u)) in
    let none = value_same F (λ p. false) (set_bit (λ p. false) u false) (λ k. told_none (k == u)) in
    (λ j. one j -ℤ none j)

less_border : (w less low high : ℤ) (b : ℕ) → w ≡ low → high +ℤ pos b ≡ low → w ≡ less +ℤ pos b → less ≡ high
less_border w less low high b h k l = omega (arith, ints, h, k, l)

-- of one site
less_weight : (m : Instance) (move : Move) (f : ℕ → ℕ) (choice : ℕ → Choice) (set : ℕ → Bool) (weights less : List ℤ) (u : ℕ) → IsInstance m → IsAllowed m move f
    → AreWeights m move f choice weights → u < m.sites → is_inside choice set u ≡ true
    → weight_at weights u ≡ weight_at less u +ℤ pos (border_at m move f choice set u)
    → weight_at less u ≡ upper_value (move_value m move f) choice set (λ p. p == u) -ℤ upper_value (move_value m move f) choice set (λ p. false)
less_weight m move f choice set weights less u pairs allowed are l inside lower =
    let E = move_value m move f in
    let low = strip_weights m move f choice set weights are u l (inside_is_open (choice u) Zero (set u) inside) ∙ lone_rise (lower_value E choice set) u in
    less_border (weight_at weights u) (weight_at less u) _ _ (border_at m move f choice set u) low
    (upper_rise m move f choice set (λ p. false) u pairs allowed l inside) lower
    ∙ sym (lone_rise (upper_value E choice set) u)

pub less_weights : (m : Instance) (move : Move) (f : ℕ → ℕ) (choice : ℕ → Choice) (set : ℕ → Bool) (weights less : List ℤ) → IsInstance m → IsAllowed m move f
    → AreWeights m move f choice weights
    → ((p : ℕ) → p < m.sites → is_inside choice set p ≡ true → weight_at weights p ≡ weight_at less p +ℤ pos (border_at m move f choice set p))
    → AreWeights m move f (others_at One set choice) less
less_weights m move f choice set weights less pairs allowed are lower u l opened =
    let inside = and_open (choice u) (set u) opened in
    less_weight m move f choice set weights less u pairs allowed are l inside (lower u l inside)

-- ---- once more is chosen

both_open : (c d : Choice) → or_else c d ≡ Open → (c ≡ Open) × (d ≡ Open)
both_open Open d h = (refl, h)
both_open Zero d h = absurd (cc (h))
both_open One d h = absurd (cc (h))

not_one : (c d : Choice) → c ≡ Open → d ≡ Open → (is_open c && not (is_one d)) ≡ true
not_one Open Open h k = refl
not_one Open Zero h k = absurd (cc (k))
not_one Open One h k = absurd (cc (k))
not_one Zero d h k = absurd (cc (h))
not_one One d h k = absurd (cc (h))

-- the value of a site that is 0 while it is open
more_bit : (c d : Choice) (b : Bool) → (d ≡ Zero → b ≡ false) → bit_of (or_else c d) b ≡ bit_of (cond (not (is_one d)) c (or_else c One)) b
more_bit Open Open b none = refl
more_bit Open Zero b none = sym (none refl)
more_bit Open One b none = refl
more_bit Zero Open b none = refl
more_bit Zero Zero b none = refl
more_bit Zero One b none = refl
more_bit One Open b none = refl
more_bit One Zero b none = refl
more_bit One One b none = refl

pub weights_go_on : (m : Instance) (move : Move) (f : ℕ → ℕ) (choice more : ℕ → Choice) (weights less : List ℤ) → IsInstance m → IsAllowed m move f
    → AreWeights m move f choice weights
    → ((p : ℕ) → p < m.sites → choice p ≡ Open → more p ≡ Open → weight_at weights p ≡ weight_at less p +ℤ pos (border_at m move f choice (not_ones more) p))
    → AreWeights m move f (choices_or choice more) less
weights_go_on m move f choice more weights less pairs allowed are lower u l opened =
    let E = move_value m move f in
    let were = both_open (choice u) (more u) opened in
    differences _ _ _ _ _
    (less_weight m move f choice (not_ones more) weights less u pairs allowed are l (not_one (choice u) (more u) were.0 were.1) (lower u l were.0 were.1))
    (value_same E (with_choices (choices_or choice more) (λ p. p == u)) (with_choices (others_at One (not_ones more) choice) (λ p. p == u))
    (λ k. more_bit (choice k) (more k) (k == u)
    (λ zero. test_false k u (λ same. (let e = sym were.1 ∙ ap more (sym same) ∙ zero in absurd (cc (e)))))))
    (value_same E (with_choices (choices_or choice more) (λ p. false)) (with_choices (others_at One (not_ones more) choice) (λ p. false))
    (λ k. more_bit (choice k) (more k) false (λ zero. refl)))

-- ---- decided half way

pub partly_agree : (m : Instance) (move : Move) (f : ℕ → ℕ) (k : ℕ) (b : Bounds) → IsInstance m → IsAllowed m move f → ArePartlyDecided m move f k b
    → Agree m.sites (move_value m move f) (choice_at b.choices.items)
partly_agree m move f k b pairs allowed decided =
    forced_agree m.sites (move_value m move f) decided.decisions (choice_at b.choices.items)
    (passed_forced (move_value m move f) decided.decisions (move_falls m move f pairs allowed) decided.passed) decided.shown

rise_told : (a r s : ℤ) → a ≡ r → r ≡ s → pos 0 ≤ℤ a → pos 0 ≤ℤ s
rise_told a r s h k l = omega (arith, ints, h, k, l)

fall_told : (a r s : ℤ) → a ≡ r → r ≡ s → a <ℤ pos 0 → s <ℤ pos 0
fall_told a r s h k l = omega (arith, ints, h, k, l)

pub bounds_tell : (m : Instance) (move : Move) (f : ℕ → ℕ) (k : ℕ) (b : Bounds) (p : ℕ) (value : Bool) → IsInstance m → ArePartlyDecided m move f k b → p < k
    → choice_at b.choices.items p ≡ Open → TellsValue b p value → TellsOne (move_value m move f) (choice_at b.choices.items) p value
bounds_tell m move f k b p false pairs decided l opened tells =
    rise_told _ _ _ (decided.least p l opened) (rise_over m move f p _ _ pairs (decided.shown (λ v. true))) tells
bounds_tell m move f k b p true pairs decided l opened tells =
    fall_told _ _ _ (decided.greatest p l opened) (rise_over m move f p _ _ pairs (decided.shown (λ v. false))) tells

-- ---- the border by the pairs of the site

sum_is : {A : Type 0} (g : A → ℕ) (xs : List A) → int_sum_by (λ x. pos (g x)) xs ≡ pos (sum_by g xs)
sum_is g [] = refl
sum_is g (x ∷ xs) = (let rest = sum_is g xs in let more = sum_by-cons g x xs in omega (arith, ints, rest, more))

below_is_sum : (n : ℕ) (g : ℕ → ℕ) → int_sum_below n (λ k. pos (g k)) ≡ pos (sum_below n g)
below_is_sum zero g = refl
below_is_sum (suc n) g = (let rest = below_is_sum n g in omega (arith, ints, rest))

no_pair : (m : Instance) (move : Move) (f : ℕ → ℕ) (choice : ℕ → Choice) (set : ℕ → Bool) (p : ℕ) (pair : Pair) → pair.first ≢ p → pair.second ≢ p
    → pos (pair_border m move f choice set p pair) ≡ pos 0
no_pair m move f choice set p pair off other =
    ap (λ b. pos (count_if b (pair_surplus m move f pair)))
    (leads_none _ (is_beyond choice set pair.second) _ (is_beyond choice set pair.first) (test_false pair.first p off) (test_false pair.second p other))

pub border_by_site : (m : Instance) (move : Move) (f : ℕ → ℕ) (choice : ℕ → Choice) (set : ℕ → Bool) (p : ℕ) (ends : Neighbours) → IsInstance m
    → AreNeighboursOf m ends → p < m.sites
    → border_at m move f choice set p ≡ sum_below (degree ends p) (λ k. pair_border m move f choice set p (pair_of ends p k))
border_by_site m move f choice set p ends pairs grouped l =
    let all = sum_is (pair_border m move f choice set p) m.pairs in
    let own = below_is_sum (degree ends p) (λ k. pair_border m move f choice set p (pair_of ends p k)) in
    let same = site_sum (record { sites = m.sites; list = m.pairs; numbered = false }) ends p (λ pair. pos (pair_border m move f choice set p pair)) pairs grouped l (no_pair m move f choice set p) in
    omega (arith, ints, all, own, same)
