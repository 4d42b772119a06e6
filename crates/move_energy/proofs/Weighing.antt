-- The energy of a partly decided move, from the weights of its open sites and what pairs of two of
-- them save.
use Rattle.std.proofs.Common.{◌≡◌, ◌≢◌, ℕ, zero, suc, ◌+◌, ◌-◌, ◌<◌, ◌≤◌, ◌==◌, Bool, true, false, List, [], ◌∷◌, ℤ, pos, ◌+ℤ◌, ◌-ℤ◌, refl, sym, ap, ◌∙◌, inl, inr, arith}
use Rattle.std.specs.Prelude.{◌&&◌, not}
use Rattle.std.specs.List.{All, sum_by}
use Rattle.std.proofs.lemmas.Int.{ints}
use Rattle.std.proofs.lemmas.Bool.{cases_eq}
use Rattle.std.proofs.lemmas.Bool.Decides.{nat_tests}
use Rattle.std.proofs.lemmas.List.Elements.{All-head, All-tail}
use Rattle.std.proofs.lemmas.List.Sums.{sum_by-cons}
use Rattle.sums.specs.Sums.{sum_below, count_if}
use Rattle.sums.specs.IntegerSums.{int_sum_below, int_counted}
use Rattle.sums.proofs.SumLemmas.{sum_below-change}
use Rattle.sums.proofs.IntegerSumLemmas.{int_sum_below-zero, int_sum_below-change}
use Rattle.label_field.specs.declared.pair.Pair.{Pair}
use Rattle.label_field.specs.PairLists.{IsPair}
use Rattle.move_energy.specs.declared.choice.Choice.{Choice}
use Rattle.move_energy.specs.declared.choice.Choice.TheVariants.{Open, Zero as DecidedZero, One as DecidedOne}
use Rattle.move_energy.specs.Choices.{bit_of, is_open}
use Rattle.move_energy.specs.Weights.{are_open}

-- ---- sums

int_sum_parts : (n : ℕ) (f g h : ℕ → ℤ) → ((i : ℕ) → f i ≡ g i +ℤ h i) → int_sum_below n f ≡ int_sum_below n g +ℤ int_sum_below n h
int_sum_parts zero f g h parts = omega (arith, ints)
int_sum_parts (suc n) f g h parts = omega (arith, ints, int_sum_parts n f g h parts, parts n)

-- a sum that is 0 but at one place, and but at two
one_point : (n a : ℕ) (g : ℕ → ℤ) → a < n → ((p : ℕ) → p ≢ a → g p ≡ pos 0) → int_sum_below n g ≡ g a
one_point n a g l none =
    let sums = int_sum_below-change n a (λ p. pos 0) g l (λ p k apart. sym (none p apart)) in
    omega (arith, ints, sums, int_sum_below-zero n)

test_true : (a b : ℕ) → a ≡ b → (a == b) ≡ true
test_true a b h = grind (arith, nat_tests, h)

test_false : (a b : ℕ) → a ≢ b → (a == b) ≡ false
test_false a b h = grind (arith, nat_tests, h)

passed_here : (a b : ℕ) (z : ℤ) → a ≡ b → int_counted (not (a == b)) z ≡ pos 0
passed_here a b z same = ap (λ t. int_counted (not t) z) (test_true a b same)

passed_other : (a b : ℕ) (z : ℤ) → a ≢ b → int_counted (not (a == b)) z ≡ z
passed_other a b z apart = ap (λ t. int_counted (not t) z) (test_false a b apart)

two_points : (n a b : ℕ) (g : ℕ → ℤ) → a < n → b < n → b ≢ a → ((p : ℕ) → p ≢ a → p ≢ b → g p ≡ pos 0) → int_sum_below n g ≡ g a +ℤ g b
two_points n a b g la lb apart none =
    let h : ℕ → ℤ = λ p. int_counted (not (p == a)) (g p) in
    let sums = int_sum_below-change n a h g la (λ p k other. passed_other p a (g p) other) in
    let rest = one_point n b h lb (λ p other. elim (cases_eq p a) [
      | inl here ↦ passed_here p a (g p) here
      | inr away ↦ passed_other p a (g p) away ∙ none p away other
    ]) in
    omega (arith, ints, sums, rest, passed_here a a (g a) refl, passed_other b a (g b) apart)

-- ---- what sites and pairs cost at values of all sites

abbrev costs : ℕ → (ℕ → Bool → ℕ) → (Pair → Bool → Bool → ℕ) → List Pair → (ℕ → Bool) → ℕ
costs n own both ps y = sum_below n (λ p. own p (y p)) + sum_by (λ pair. both pair (y pair.first) (y pair.second)) ps

-- every open site at 0, and one of them at 1
abbrev zeros : (ℕ → Choice) → ℕ → Bool
zeros choice p = bit_of (choice p) false

abbrev alone : (ℕ → Choice) → ℕ → ℕ → Bool
alone choice u p = bit_of (choice p) (p == u)

abbrev valued : (ℕ → Choice) → (ℕ → Bool) → ℕ → Bool
valued choice x p = bit_of (choice p) (x p)

abbrev own_rise : ℕ → (ℕ → Bool → ℕ) → (Pair → Bool → Bool → ℕ) → (ℕ → Choice) → List Pair → ℕ → ℤ
own_rise n own both choice ps u = pos (costs n own both ps (alone choice u)) -ℤ pos (costs n own both ps (zeros choice))

abbrev is_one : (ℕ → Choice) → (ℕ → Bool) → ℕ → Bool
is_one choice x u = is_open (choice u) && x u

alone_here : (choice : ℕ → Choice) (u p : ℕ) → p ≡ u → alone choice u p ≡ bit_of (choice p) true
alone_here choice u p here = ap (bit_of (choice p)) (test_true p u here)

alone_other : (choice : ℕ → Choice) (u p : ℕ) → p ≢ u → alone choice u p ≡ zeros choice p
alone_other choice u p other = ap (bit_of (choice p)) (test_false p u other)

-- ---- the sites

site_law : (c : Choice) (g : Bool → ℕ) (b : Bool)
    → pos (g (bit_of c b)) ≡ pos (g (bit_of c false)) +ℤ int_counted (is_open c && b) (pos (g (bit_of c true)) -ℤ pos (g (bit_of c false)))
site_law Open g true = omega (arith, ints)
site_law Open g false = omega (arith, ints)
site_law DecidedZero g b = omega (arith, ints)
site_law DecidedOne g b = omega (arith, ints)

-- the rise of the sites' costs is that of the one that turns
site_rise : (n : ℕ) (own : ℕ → Bool → ℕ) (choice : ℕ → Choice) (u : ℕ) → u < n
    → pos (sum_below n (λ p. own p (alone choice u p))) -ℤ pos (sum_below n (λ p. own p (zeros choice p)))
    ≡ pos (own u (bit_of (choice u) true)) -ℤ pos (own u (bit_of (choice u) false))
site_rise n own choice u l =
    let sums = sum_below-change n u (λ p. own p (zeros choice p)) (λ p. own p (alone choice u p)) l (λ p k other. ap (own p) (sym (alone_other choice u p other))) in
    let here = ap (own u) (alone_here choice u u refl) in
    omega (arith, ints, sums, here)

summed_law : (n : ℕ) (f g : ℕ → ℕ) (h : ℕ → ℤ) → ((p : ℕ) → p < n → pos (f p) ≡ pos (g p) +ℤ h p) → pos (sum_below n f) ≡ pos (sum_below n g) +ℤ int_sum_below n h
summed_law zero f g h each = omega (arith, ints)
summed_law (suc n) f g h each = omega (arith, ints, summed_law n f g h (λ p l. each p (omega (arith, l))), each n (omega arith))

no_pairs : (a b : ℕ) (z : ℤ) → pos a -ℤ pos b ≡ z → z ≡ pos (a + 0) -ℤ pos (b + 0)
no_pairs a b z is = omega (arith, ints, is)

sites_law : (n : ℕ) (own : ℕ → Bool → ℕ) (both : Pair → Bool → Bool → ℕ) (choice : ℕ → Choice) (x : ℕ → Bool)
    → pos (sum_below n (λ p. own p (valued choice x p)))
    ≡ pos (sum_below n (λ p. own p (zeros choice p))) +ℤ int_sum_below n (λ u. int_counted (is_one choice x u) (own_rise n own both choice [] u))
sites_law n own both choice x =
    summed_law n (λ p. own p (valued choice x p)) (λ p. own p (zeros choice p)) (λ u. int_counted (is_one choice x u) (own_rise n own both choice [] u))
    (λ p l. site_law (choice p) (own p) (x p) ∙ ap (λ z. pos (own p (zeros choice p)) +ℤ int_counted (is_one choice x p) z) (no_pairs (sum_below n (λ q. own q (alone choice p q))) (sum_below n (λ q. own q (zeros choice q))) _ (site_rise n own choice p l)))

-- ---- a pair

abbrev surplus_in : (Bool → Bool → ℕ) → ℕ
surplus_in g = g false true + g true false - (g false false + g true true)

pair_law : (c d : Choice) (g : Bool → Bool → ℕ) (s t : Bool) → g false false + g true true ≤ g false true + g true false
    → pos (g (bit_of c s) (bit_of d t)) +ℤ pos (count_if (is_open c && is_open d) (surplus_in g))
    ≡ pos (g (bit_of c false) (bit_of d false))
    +ℤ int_counted (is_open c && s) (pos (g (bit_of c true) (bit_of d false)) -ℤ pos (g (bit_of c false) (bit_of d false)))
    +ℤ int_counted (is_open d && t) (pos (g (bit_of c false) (bit_of d true)) -ℤ pos (g (bit_of c false) (bit_of d false)))
    +ℤ pos (count_if (is_open c && is_open d) (count_if (not (s && t)) (surplus_in g)))
pair_law Open Open g true true h = omega (arith, ints, h)
pair_law Open Open g true false h = omega (arith, ints)
pair_law Open Open g false true h = omega (arith, ints)
pair_law Open Open g false false h = omega (arith, ints)
pair_law Open DecidedZero g true t h = omega (arith, ints)
pair_law Open DecidedZero g false t h = omega (arith, ints)
pair_law Open DecidedOne g true t h = omega (arith, ints)
pair_law Open DecidedOne g false t h = omega (arith, ints)
pair_law DecidedZero Open g s true h = omega (arith, ints)
pair_law DecidedZero Open g s false h = omega (arith, ints)
pair_law DecidedZero DecidedZero g s t h = omega (arith, ints)
pair_law DecidedZero DecidedOne g s t h = omega (arith, ints)
pair_law DecidedOne Open g s true h = omega (arith, ints)
pair_law DecidedOne Open g s false h = omega (arith, ints)
pair_law DecidedOne DecidedZero g s t h = omega (arith, ints)
pair_law DecidedOne DecidedOne g s t h = omega (arith, ints)

-- the rise of the pair where a site turns: none but at its ends
abbrev turned : (Bool → Bool → ℕ) → (ℕ → Choice) → ℕ → ℕ → ℕ → ℤ
turned g choice a b u = pos (g (alone choice u a) (alone choice u b)) -ℤ pos (g (zeros choice a) (zeros choice b))

no_difference : (b : Bool) (y z : ℤ) → y ≡ z → int_counted b (y -ℤ z) ≡ pos 0
no_difference true y z same = omega (arith, ints, same)
no_difference false y z same = refl

pair_sum : (n a b : ℕ) (g : Bool → Bool → ℕ) (choice : ℕ → Choice) (x : ℕ → Bool) → a < n → b < n → a ≢ b
    → int_sum_below n (λ u. int_counted (is_one choice x u) (turned g choice a b u))
    ≡ int_counted (is_one choice x a) (pos (g (bit_of (choice a) true) (zeros choice b)) -ℤ pos (g (zeros choice a) (zeros choice b)))
    +ℤ int_counted (is_one choice x b) (pos (g (zeros choice a) (bit_of (choice b) true)) -ℤ pos (g (zeros choice a) (zeros choice b)))
pair_sum n a b g choice x la lb apart =
    two_points n a b (λ u. int_counted (is_one choice x u) (turned g choice a b u)) la lb (λ same. apart (sym same))
    (λ u away other. no_difference (is_one choice x u) _ _
    (λ i. pos (g (alone_other choice u a (λ same. away (sym same)) i) (alone_other choice u b (λ same. other (sym same)) i))))
    ∙ (λ i. int_counted (is_one choice x a) (pos (g (alone_here choice a a refl i) (alone_other choice a b (λ same. apart (sym same)) i)) -ℤ pos (g (zeros choice a) (zeros choice b)))
    +ℤ int_counted (is_one choice x b) (pos (g (alone_other choice b a apart i) (alone_here choice b b refl i)) -ℤ pos (g (zeros choice a) (zeros choice b))))

counted_parts : (b : Bool) (y z : ℤ) → int_counted b (y +ℤ z) ≡ int_counted b y +ℤ int_counted b z
counted_parts true y z = refl
counted_parts false y z = omega (arith, ints)

-- ---- all together

abbrev saved_at_most : (Pair → Bool → Bool → ℕ) → (ℕ → Choice) → List Pair → ℕ
saved_at_most both choice ps = sum_by (λ pair. count_if (are_open choice pair) (surplus_in (both pair))) ps

abbrev unsaved_in : (Pair → Bool → Bool → ℕ) → (ℕ → Choice) → (ℕ → Bool) → List Pair → ℕ
unsaved_in both choice x ps = sum_by (λ pair. count_if (are_open choice pair) (count_if (not (x pair.first && x pair.second)) (surplus_in (both pair)))) ps

abbrev ones_rise : ℕ → (ℕ → Bool → ℕ) → (Pair → Bool → Bool → ℕ) → (ℕ → Choice) → (ℕ → Bool) → List Pair → ℤ
ones_rise n own both choice x ps = int_sum_below n (λ u. int_counted (is_one choice x u) (own_rise n own both choice ps u))

rise_more : (n : ℕ) (own : ℕ → Bool → ℕ) (both : Pair → Bool → Bool → ℕ) (choice : ℕ → Choice) (pair : Pair) (ps : List Pair) (u : ℕ)
    → own_rise n own both choice (pair ∷ ps) u ≡ own_rise n own both choice ps u +ℤ turned (both pair) choice pair.first pair.second u
rise_more n own both choice pair ps u =
    omega (
      arith,
      ints,
      sum_by-cons (λ (p : Pair). both p (alone choice u p.first) (alone choice u p.second)) pair ps,
      sum_by-cons (λ (p : Pair). both p (zeros choice p.first) (zeros choice p.second)) pair ps,
    )

ones_more : (n : ℕ) (own : ℕ → Bool → ℕ) (both : Pair → Bool → Bool → ℕ) (choice : ℕ → Choice) (x : ℕ → Bool) (pair : Pair) (ps : List Pair)
    → ones_rise n own both choice x (pair ∷ ps)
    ≡ ones_rise n own both choice x ps +ℤ int_sum_below n (λ u. int_counted (is_one choice x u) (turned (both pair) choice pair.first pair.second u))
ones_more n own both choice x pair ps =
    int_sum_parts n (λ u. int_counted (is_one choice x u) (own_rise n own both choice (pair ∷ ps) u)) (λ u. int_counted (is_one choice x u) (own_rise n own both choice ps u))
    (λ u. int_counted (is_one choice x u) (turned (both pair) choice pair.first pair.second u))
    (λ u. ap (int_counted (is_one choice x u)) (rise_more n own both choice pair ps u)
    ∙ counted_parts (is_one choice x u) (own_rise n own both choice ps u) (turned (both pair) choice pair.first pair.second u))

-- the costs at any values are those with every open site at 0, the rise of each site at 1 by
-- itself, less what pairs save
pub costs_law : (n : ℕ) (own : ℕ → Bool → ℕ) (both : Pair → Bool → Bool → ℕ) (choice : ℕ → Choice) (x : ℕ → Bool) (ps : List Pair) → All (IsPair n) ps
    → All (λ pair. both pair false false + both pair true true ≤ both pair false true + both pair true false) ps
    → pos (costs n own both ps (valued choice x)) +ℤ pos (saved_at_most both choice ps)
    ≡ pos (costs n own both ps (zeros choice)) +ℤ ones_rise n own both choice x ps +ℤ pos (unsaved_in both choice x ps)
costs_law n own both choice x [] all regular = omega (arith, ints, sites_law n own both choice x)
costs_law n own both choice x (pair ∷ ps) all regular =
    let here = All-head (IsPair n) pair ps all in
    let fit = All-head (λ (p : Pair). both p false false + both p true true ≤ both p false true + both p true false) pair ps regular in
    let before = costs_law n own both choice x ps (All-tail (IsPair n) pair ps all)
    (All-tail (λ (p : Pair). both p false false + both p true true ≤ both p false true + both p true false) pair ps regular) in
    let own_pair = pair_law (choice pair.first) (choice pair.second) (both pair) (x pair.first) (x pair.second) fit in
    let sums = pair_sum n pair.first pair.second (both pair) choice x here.first here.second here.unequal in
    omega (
      arith,
      ints,
      before,
      own_pair,
      sums,
      ones_more n own both choice x pair ps,
      sum_by-cons (λ (p : Pair). both p (valued choice x p.first) (valued choice x p.second)) pair ps,
      sum_by-cons (λ (p : Pair). both p (zeros choice p.first) (zeros choice p.second)) pair ps,
      sum_by-cons (λ (p : Pair). count_if (are_open choice p) (surplus_in (both p))) pair ps,
      sum_by-cons (λ (p : Pair). count_if (are_open choice p) (count_if (not (x p.first && x p.second)) (surplus_in (both p)))) pair ps,
    )
