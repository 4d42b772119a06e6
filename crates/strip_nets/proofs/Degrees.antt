-- How many ends of a strip's pairs lie at each of its nodes: as many as its site has neighbours
-- that are open and in the strip.
use Rattle.std.proofs.Common.{◌≡◌, ◌≢◌, ℕ, zero, suc, ◌+◌, ◌<◌, ◌≤◌, Bool, true, false, cond, inl, inr, List, [], ◌∷◌, All, length, get_or, set, take, slice_index, sum_by, refl, sym, ap, subst, ◌∙◌, arith}
use Rattle.std.specs.Prelude.{◌&&◌, ◌||◌, ◌==◌, not, nat_lt, count_by}
use Rattle.std.specs.List.{flat_map}
use Rattle.std.proofs.lemmas.Bool.{cases_eq, cases_lt}
use Rattle.std.proofs.lemmas.Bool.Decides.{nat_tests}
use Rattle.std.proofs.Math.Bool.{and-true}
use Rattle.std.proofs.lemmas.List.Concat.{flat_map-cons}
use Rattle.std.proofs.lemmas.List.{length-set, get_or-set_same, get_or-set_other}
use Rattle.std.proofs.lemmas.List.Recursion.{is_count_by}
use Rattle.std.proofs.lemmas.List.Sums.{sum_by-cons, sum_by-append, sum_by_more, sum_by-take-le, count_by-le-length}
use Rattle.sums.specs.Sums.{sum_below, count_if}
use Rattle.sums.proofs.SumLemmas.{sum_below-same, sum_below-pick}
use Rattle.counting_sort.specs.Grouping.{count_of, count_below}
use Rattle.label_field.specs.declared.pair.Pair.{Pair}
use Rattle.label_field.specs.PairLists.{IsPair}
use Rattle.label_energies.proofs.Energy.{sum_by-same}
use Rattle.move_energy.specs.BySite.{degree, neighbours_start, neighbour_at, is_first, weight_at, pair_from, pair_beside, pair_of, rising_sites, is_counted, has_chosen, met_below, met_at}
use Rattle.move_energy.specs.declared.choice.Choice.{Choice}
use Rattle.move_energy.specs.Choices.{choice_at, is_open, open_at, open_rank}
use Rattle.move_energy.specs.Weights.{are_open}
use Rattle.move_energy.proofs.Beside.{pairs_are_met_once}
use Rattle.move_energy.proofs.Listings.{listed_sites_are_summed}
use Rattle.move_energy.proofs.Numbers.{rank_below}
use Rattle.move_energy.proofs.Opened.{opened_count, opened_has, opened_place, true_open}
use Rattle.persistency.specs.Borders.{is_inside, range_of}
use Rattle.sink_distances.specs.Laying.{AreRowsBegun}
use Rattle.strip_nets.specs.declared.material.Material.{Material}
use Rattle.strip_nets.specs.declared.material.StripSites.{StripSites}
use Rattle.strip_nets.specs.Building.{CanBuild, AreStripSites, view_by}
use Rattle.strip_nets.specs.Meeting.{ends_met, ends_below, ends_at, strip_ends, inside_degree}
use Rattle.strip_nets.proofs.Sizes.{seen_length, degrees}
use Rattle.strip_nets.proofs.Views.{inside_is}

-- ---- how many numbers of a list pass a test

abbrev pub tally : (ℕ → Bool) → List ℕ → ℕ
tally test xs = sum_by (λ x. count_if (test x) 1) xs

one_more : (b : Bool) (n : ℕ) → count_if b 1 + n ≡ cond b (1 + n) n
one_more true n = refl
one_more false n = omega arith

pub tally_is : (test : ℕ → Bool) (xs : List ℕ) → tally test xs ≡ count_by test xs
tally_is test xs = is_count_by (tally test) test refl (λ x ys. sum_by-cons (λ y. count_if (test y) 1) x ys ∙ one_more (test x) (tally test ys)) xs

tally_all : (xs : List ℕ) → tally (λ x. true) xs ≡ length xs
tally_all [] = refl
tally_all (x ∷ xs) = omega (arith, sum_by-cons (λ (y : ℕ). 1) x xs, tally_all xs)

tally_two : (test : ℕ → Bool) (a b : ℕ) → tally test (a ∷ b ∷ []) ≡ count_if (test a) 1 + count_if (test b) 1
tally_two test a b = omega (arith, sum_by-cons (λ x. count_if (test x) 1) a (b ∷ []), sum_by-cons (λ x. count_if (test x) 1) b [])

tally_met : (test : ℕ → Bool) (opened_is counted : Bool) (a b : ℕ)
    → tally test (cond (opened_is && counted) (a ∷ b ∷ []) []) ≡ count_if counted (count_if opened_is (count_if (test a) 1 + count_if (test b) 1))
tally_met test true true a b = tally_two test a b
tally_met test true false a b = refl
tally_met test false true a b = refl
tally_met test false false a b = refl

-- ---- those of the pairs of a strip

-- how many of a pair's nodes pass it, where both of its sites are in the strip
abbrev pub ends_passed : List Choice → (ℕ → Bool) → Pair → ℕ
ends_passed view test pair = count_if (are_open (choice_at view) pair) (count_if (test (open_rank view pair.first)) 1 + count_if (test (open_rank view pair.second)) 1)

site_tally : (material : Material) (sites : StripSites) (test : ℕ → Bool) (site k : ℕ)
    → tally test (ends_below material sites site k) ≡ met_below material.form.ends.now (open_at (view_by sites material)) (ends_passed (view_by sites material) test) site k
site_tally material sites test site zero = refl
site_tally material sites test site (suc k) =
    let v = view_by sites material in
    let place = neighbours_start material.form.ends.now site + k in
    let pair = pair_beside material.form.ends.now site place in
    omega (
      arith,
      sum_by-append (λ x. count_if (test x) 1) (ends_below material sites site k) (ends_met material sites site place),
      site_tally material sites test site k,
      tally_met test (are_open (choice_at v) pair) (is_counted (open_at v) site pair) (open_rank v pair.first) (open_rank v pair.second),
    )

rows_tally : (material : Material) (sites : StripSites) (test : ℕ → Bool) (opened : List ℕ)
    → tally test (flat_map (ends_at material sites) opened) ≡ sum_by (met_at material.form.ends.now (open_at (view_by sites material)) (ends_passed (view_by sites material) test)) opened
rows_tally material sites test [] = refl
rows_tally material sites test (site ∷ opened) =
    omega (
      arith,
      ap (tally test) (flat_map-cons (ends_at material sites) site opened),
      sum_by-append (λ x. count_if (test x) 1) (ends_at material sites site) (flat_map (ends_at material sites) opened),
      site_tally material sites test site (degree material.form.ends.now site),
      rows_tally material sites test opened,
      sum_by-cons (met_at material.form.ends.now (open_at (view_by sites material)) (ends_passed (view_by sites material) test)) site opened,
    )

-- each pair is met once
strip_tally : (material : Material) (sites : StripSites) (test : ℕ → Bool) → CanBuild material → AreStripSites material sites
    → tally test (strip_ends material sites)
    ≡ sum_by (λ pair. count_if (has_chosen (open_at (view_by sites material)) pair) (ends_passed (view_by sites material) test pair)) material.form.pairs.now.list
strip_tally material sites test can listed =
    let v = view_by sites material in
    let value = met_at material.form.ends.now (open_at v) (ends_passed v test) in
    rows_tally material sites test sites.opened.now
    ∙ ap (sum_by value) (listed ∙ ap (rising_sites (open_at v)) (seen_length material sites can))
    ∙ pairs_are_met_once material.form.pairs.now material.form.ends.now (open_at v) (ends_passed v test) can.over.list.each can.over.by_site

-- ---- no end is past the last node

passed_same : (b x y : Bool) (p q : ℕ) → (b ≡ true → p ≡ q) → count_if x (count_if b p) ≡ count_if x (count_if b q)
passed_same true x y p q same = ap (count_if x) (same refl)
passed_same false x y p q same = refl

both_open : (x y : Bool) → (x && y) ≡ true → (x ≡ true) × (y ≡ true)
both_open true true h = (refl, refl)
both_open true false h = absurd (cc (h))
both_open false y h = absurd (cc (h))

below_one : (a n : ℕ) → a < n → count_if (nat_lt a n) 1 ≡ 1
below_one a n l = ap (λ (b : Bool). count_if b 1) (let e : nat_lt a n ≡ true = grind (arith, nat_tests) in e)

past_one : (a n : ℕ) → n ≤ a → (cond {A = ℕ} (nat_lt a n) 1 0) ≡ 0
past_one a n l = grind (arith, nat_tests)

all_cons : (n x : ℕ) (xs : List ℕ) → x < n → All (λ v. v < n) xs → All (λ v. v < n) (x ∷ xs)
all_cons n x xs l all zero d k = l
all_cons n x xs l all (suc k) d m = all k d (omega (arith, m))

pub strip_ends_inside : (material : Material) (sites : StripSites) → CanBuild material → AreStripSites material sites
    → count_below (length sites.opened.now) (strip_ends material sites) ≡ length (strip_ends material sites)
strip_ends_inside material sites can listed =
    let v = view_by sites material in
    let n = length sites.opened.now in
    let inside : ℕ → Bool = λ number. nat_lt number n in
    let count = opened_count v sites.opened.now listed in
    sym (tally_is inside (strip_ends material sites))
    ∙ strip_tally material sites inside can listed
    ∙ sum_by-same (IsPair material.form.pairs.now.sites) (λ pair. count_if (has_chosen (open_at v) pair) (ends_passed v inside pair))
    (λ pair. count_if (has_chosen (open_at v) pair) (ends_passed v (λ x. true) pair)) material.form.pairs.now.list can.over.list.each
    (λ pair is. passed_same (are_open (choice_at v) pair) (has_chosen (open_at v) pair) true _ _ (λ opened_is.
    let both = both_open (is_open (choice_at v pair.first)) (is_open (choice_at v pair.second)) opened_is in
    let long = seen_length material sites can in
    omega (
      arith,
      below_one (open_rank v pair.first) n (omega (arith, count, rank_below v pair.first (length v) (omega (arith, is.first, long)) (true_open _ both.0))),
      below_one (open_rank v pair.second) n (omega (arith, count, rank_below v pair.second (length v) (omega (arith, is.second, long)) (true_open _ both.1))),
    )))
    ∙ sym (strip_tally material sites (λ x. true) can listed)
    ∙ tally_all (strip_ends material sites)

-- ---- the ends at one site

either_true : (a u : ℕ) → ((a == u) || not (u == a)) ≡ true
either_true a u = grind (arith, nat_tests)

-- a sum over all pairs with an end at a site is one over its places
site_alone : (material : Material) (u : ℕ) (value : Pair → ℕ) → CanBuild material → u < material.form.pairs.now.sites
    → sum_by (λ pair. count_if (has_chosen (λ p. u == p) pair) (value pair)) material.form.pairs.now.list
    ≡ sum_below (degree material.form.ends.now u) (λ k. value (pair_of material.form.ends.now u k))
site_alone material u value can inside =
    let pairs = material.form.pairs.now in
    let ends = material.form.ends.now in
    let here : ℕ → Bool = λ p. u == p in
    sym (pairs_are_met_once pairs ends here value can.over.list.each can.over.by_site)
    ∙ listed_sites_are_summed here pairs.sites (met_at ends here value)
    ∙ sum_below-pick pairs.sites u (met_at ends here value) inside
    ∙ sum_below-same (degree ends u) (λ k. count_if (is_counted here u (pair_of ends u k)) (value (pair_of ends u k))) (λ k. value (pair_of ends u k))
    (λ k l. ap (λ (b : Bool). count_if b (value (pair_of ends u k))) (either_true (pair_of ends u k).first u))

test_same : (a b p u : ℕ) → (a ≡ b → p ≡ u) → (p ≡ u → a ≡ b) → (a == b) ≡ (u == p)
test_same a b p u to from = elim (cases_eq p u) [
  | inl same ↦ (let e = from same in grind (arith, nat_tests))
  | inr other ↦ (let d : a ≢ b = λ e. other (to e) in grind (arith, nat_tests))
]

-- the node of an open site is that of no other one
node_test : (material : Material) (sites : StripSites) (u p : ℕ) → CanBuild material → AreStripSites material sites → u < material.form.pairs.now.sites → p < material.form.pairs.now.sites
    → open_at (view_by sites material) u ≡ true → open_at (view_by sites material) p ≡ true
    → (open_rank (view_by sites material) p == open_rank (view_by sites material) u) ≡ (u == p)
node_test material sites u p can listed low_u low_p open_u open_p =
    let v = view_by sites material in
    let long = seen_length material sites can in
    let opened = sites.opened.now in
    let at_u = opened_place v opened u listed (omega (arith, low_u, long)) (true_open (choice_at v u) open_u) in
    let at_p = opened_place v opened p listed (omega (arith, low_p, long)) (true_open (choice_at v p) open_p) in
    test_same (open_rank v p) (open_rank v u) p u (λ same. sym at_p ∙ ap (λ i. get_or opened i 0) same ∙ at_u) (λ same. ap (open_rank v) same)

none : (b : Bool) → count_if b 0 ≡ 0
none true = refl
none false = refl

by_openness : (b x y : Bool) (p : ℕ) → (b ≡ true → count_if x p ≡ count_if y 1) → count_if x (count_if b p) ≡ count_if y (count_if b 1)
by_openness true x y p same = same refl
by_openness false x y p same = none x ∙ sym (none y)

beside_open : (choice : ℕ → Choice) (first : Bool) (site head weight : ℕ) → is_open (choice site) ≡ true → are_open choice (pair_from first site head weight) ≡ is_open (choice head)
beside_open choice true site head weight opened_is = ap (λ (b : Bool). b && is_open (choice head)) opened_is
beside_open choice false site head weight opened_is = ap (λ (b : Bool). is_open (choice head) && b) opened_is ∙ and-true (is_open (choice head))

one_of_two : (x y : Bool) → (x ≡ true → y ≡ true → ⊥) → count_if x 1 + count_if y 1 ≡ count_if (x || y) 1
one_of_two true true never = absurd (never refl refl)
one_of_two true false never = refl
one_of_two false true never = refl
one_of_two false false never = refl

open_either : (x y : Bool) (k : ℕ) → (x && y) ≡ true → count_if (x || y) k ≡ k
open_either true y k h = refl
open_either false y k h = absurd (cc (h))

apart_tests : (u a b : ℕ) → a ≢ b → (u == a) ≡ true → (u == b) ≡ true → ⊥
apart_tests u a b apart one other =
    let e : u ≡ a = grind (arith, nat_tests) in
    let f : u ≡ b = grind (arith, nat_tests) in
    apart (sym e ∙ f)

-- of a pair of two open sites, one end lies at the node of a site if the pair has the site
pair_ends_at : (material : Material) (sites : StripSites) (u : ℕ) (pair : Pair) → CanBuild material → AreStripSites material sites → u < material.form.pairs.now.sites
    → open_at (view_by sites material) u ≡ true → IsPair material.form.pairs.now.sites pair
    → count_if (has_chosen (open_at (view_by sites material)) pair) (ends_passed (view_by sites material) (λ number. number == open_rank (view_by sites material) u) pair)
    ≡ count_if (has_chosen (λ p. u == p) pair) (count_if (are_open (choice_at (view_by sites material)) pair) 1)
pair_ends_at material sites u pair can listed low opened_is is =
    let v = view_by sites material in
    by_openness (are_open (choice_at v) pair) (has_chosen (open_at v) pair) (has_chosen (λ p. u == p) pair) _ (λ both.
    let open_both = both_open (open_at v pair.first) (open_at v pair.second) both in
    let first = node_test material sites u pair.first can listed low is.first opened_is open_both.0 in
    let second = node_test material sites u pair.second can listed low is.second opened_is open_both.1 in
    open_either (open_at v pair.first) (open_at v pair.second) _ both
    ∙ (λ i. count_if (first i) 1 + count_if (second i) 1)
    ∙ one_of_two (u == pair.first) (u == pair.second) (apart_tests u pair.first pair.second is.unequal))

-- so many ends lie at the node of a site of the strip
pub node_ends : (material : Material) (sites : StripSites) (u : ℕ) → CanBuild material → AreStripSites material sites → u < material.form.pairs.now.sites
    → open_at (view_by sites material) u ≡ true
    → count_of (open_rank (view_by sites material) u) (strip_ends material sites) ≡ inside_degree material sites u
node_ends material sites u can listed low opened_is =
    let v = view_by sites material in
    let ends = material.form.ends.now in
    let here : ℕ → Bool = λ number. number == open_rank v u in
    sym (tally_is here (strip_ends material sites))
    ∙ strip_tally material sites here can listed
    ∙ sum_by-same (IsPair material.form.pairs.now.sites) (λ pair. count_if (has_chosen (open_at v) pair) (ends_passed v here pair))
    (λ pair. count_if (has_chosen (λ p. u == p) pair) (count_if (are_open (choice_at v) pair) 1)) material.form.pairs.now.list can.over.list.each
    (λ pair is. pair_ends_at material sites u pair can listed low opened_is is)
    ∙ site_alone material u (λ pair. count_if (are_open (choice_at v) pair) 1) can low
    ∙ sum_below-same (degree ends u) (λ k. count_if (are_open (choice_at v) (pair_of ends u k)) 1)
    (λ k. count_if (is_inside (choice_at material.known.now) (range_of sites.from sites.to) (neighbour_at ends (neighbours_start ends u + k))) 1)
    (λ k l. ap (λ (b : Bool). count_if b 1) (beside_open (choice_at v) (is_first ends u (neighbours_start ends u + k)) u (neighbour_at ends (neighbours_start ends u + k)) (weight_at ends (neighbours_start ends u + k)) opened_is
    ∙ sym (inside_is material.known.now sites.from sites.to (neighbour_at ends (neighbours_start ends u + k)))))

-- ---- the counts

-- how many of a site's first k neighbours are open and in the strip
abbrev pub inside_below : Material → StripSites → ℕ → ℕ → ℕ
inside_below material sites site k =
    sum_below k (λ j. count_if (is_inside (choice_at material.known.now) (range_of sites.from sites.to) (neighbour_at material.form.ends.now (neighbours_start material.form.ends.now site + j))) 1)

pub counted_few : (b : Bool) → count_if b 1 ≤ 1
counted_few true = omega arith
counted_few false = omega arith

pub inside_few : (material : Material) (sites : StripSites) (site k : ℕ) → inside_below material sites site k ≤ k
inside_few material sites site zero = omega arith
inside_few material sites site (suc k) =
    omega (arith, inside_few material sites site k, counted_few (is_inside (choice_at material.known.now) (range_of sites.from sites.to) (neighbour_at material.form.ends.now (neighbours_start material.form.ends.now site + k))))

-- ---- the rows

no_numbers : (n : ℕ) → All (λ v. v < n) []
no_numbers n k d l = absurd (omega (arith, l))

-- each number is below n if so many are
all_below : (n : ℕ) (xs : List ℕ) → count_below n xs ≡ length xs → All (λ v. v < n) xs
all_below n [] h = no_numbers n
all_below n (x ∷ xs) h =
    let more = sum_by-cons (λ (y : ℕ). cond (nat_lt y n) 1 0) x xs in
    let most = count_by-le-length (λ (y : ℕ). nat_lt y n) xs in
    elim (cases_lt x n) [
      | inl less ↦ all_cons n x xs less (all_below n xs (omega (arith, h, more, most, below_one x n less)))
      | inr past ↦ absurd (omega (arith, h, more, most, past_one x n past))
    ]

-- the rows of the first i nodes begin, each with room for its ends, behind the rows before it, and
-- all end before the total
pub record AreFirstBegun (material : Material) (sites : StripSites) (i : ℕ) (starts : List ℕ) (total : ℕ) : Type 0 where
  pub len : length starts ≡ length sites.opened.now
  pub within : (v : ℕ) → v < i → slice_index starts v + count_of v (strip_ends material sites) ≤ total
  pub apart : (u v : ℕ) → u < v → v < i → slice_index starts u + count_of u (strip_ends material sites) ≤ slice_index starts v
  pub total_is : total ≡ sum_by (degree material.form.ends.now) (take i sites.opened.now)

pub none_begun : (material : Material) (sites : StripSites) (starts : List ℕ) → length starts ≡ length sites.opened.now → AreFirstBegun material sites 0 starts 0
none_begun material sites starts len = record {
  len = len;
  within = λ v l. absurd (omega (arith, l));
  apart = λ u v l k. absurd (omega (arith, k));
  total_is = refl;
}

pub one_begun : (material : Material) (sites : StripSites) (i site total degree_is : ℕ) (old new : List ℕ) → CanBuild material → AreStripSites material sites → i < length sites.opened.now
    → site ≡ slice_index sites.opened.now i → (site < material.form.pairs.now.sites) × (open_at (view_by sites material) site ≡ true)
    → degree_is ≡ degree material.form.ends.now site → AreFirstBegun material sites i old total → new ≡ set old i total → AreFirstBegun material sites (i + 1) new (total + degree_is)
one_begun material sites i site total degree_is old new can listed l at is room h written =
    let v = view_by sites material in
    let ends = strip_ends material sites in
    let opened = sites.opened.now in
    let low : i < length old = omega (arith, l, h.len) in
    let rank : open_rank v site ≡ i = ap (open_rank v) at ∙ (opened_has v opened i listed l).2 in
    let here : count_of i ends ≡ inside_degree material sites site = ap (λ (k : ℕ). count_of k ends) (sym rank) ∙ node_ends material sites site can listed is.0 is.1 in
    let most : count_of i ends ≤ degree_is = omega (arith, here, room, inside_few material sites site (degree material.form.ends.now site)) in
    let mine : slice_index new i ≡ total = ap (λ (xs : List ℕ). slice_index xs i) written ∙ get_or-set_same old i total 0 low in
    let kept : (u : ℕ) → u < i → slice_index new u ≡ slice_index old u = λ u k.
    ap (λ (xs : List ℕ). slice_index xs u) written ∙ get_or-set_other old i u total 0 (λ e. omega (arith, e, k)) in
    record {
      len = ap (length {A = ℕ}) written ∙ length-set old i total ∙ h.len;
      within = λ u k. elim (cases_eq u i) [
        | inl same ↦ (let S : ℕ → Type 0 = λ w. slice_index new w + count_of w ends ≤ total + degree_is in subst S (sym same) (omega (arith, mine, most)))
        | inr other ↦ (let before : u < i = omega (arith, k, other) in omega (arith, kept u before, h.within u before))
      ];
      apart = λ u w k m. elim (cases_eq w i) [
        | inl same ↦
            let before : u < i = omega (arith, k, same) in
            let S : ℕ → Type 0 = λ x. slice_index new u + count_of u ends ≤ slice_index new x in
            subst S (sym same) (omega (arith, kept u before, h.within u before, mine))
        | inr other ↦
            let before : w < i = omega (arith, m, other) in
            let first : u < i = omega (arith, k, before) in
            omega (arith, kept u first, kept w before, h.apart u w k before)
      ];
      total_is =
          let next : sum_by (degree material.form.ends.now) (take (i + 1) opened) ≡ sum_by (degree material.form.ends.now) (take i opened) + degree material.form.ends.now (get_or opened i 0) =
          sum_by_more (degree material.form.ends.now) opened i 0 l in
          let now = ap (degree material.form.ends.now) at in
          omega (arith, h.total_is, next, now, room);
    }

-- so many places at most
pub total_few : (material : Material) (sites : StripSites) (i total : ℕ) (starts : List ℕ) → CanBuild material → AreStripSites material sites → AreFirstBegun material sites i starts total
    → total ≤ 8388608
total_few material sites i total starts can listed h =
    omega (arith, h.total_is, sum_by-take-le (degree material.form.ends.now) sites.opened.now i, degrees material sites can listed)

pub all_begun : (material : Material) (sites : StripSites) (i total : ℕ) (starts : List ℕ) → CanBuild material → AreStripSites material sites → length sites.opened.now ≤ i
    → AreFirstBegun material sites i starts total → AreRowsBegun (length sites.opened.now) (strip_ends material sites) starts total
all_begun material sites i total starts can listed all h = record {
  len = h.len;
  nodes = all_below (length sites.opened.now) (strip_ends material sites) (strip_ends_inside material sites can listed);
  room = record {
    within = λ v l. h.within v (omega (arith, l, all));
    apart = λ u v l k. h.apart u v l (omega (arith, k, all));
  };
  few = omega (arith, total_few material sites i total starts can listed h);
}
