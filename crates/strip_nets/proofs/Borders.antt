-- The borders of the sites of a strip, neighbour by neighbour and site by site.
use Rattle.std.proofs.Common.{◌≡◌, ◌≢◌, ℕ, ◌+◌, ◌-◌, ◌*◌, ◌<◌, ◌≤◌, Bool, true, false, cond, List, [], ◌∷◌, ◌++◌, length, get_or, map, take, sum, sum_by, All, ℤ, pos, ◌+ℤ◌, ◌-ℤ◌, unsigned_abs, w64, to_z, of_z, FitsSigned, lit<, refl, sym, ap, ◌∙◌, subst, arith}
use Rattle.std.specs.Prelude.{◌&&◌, ◌||◌, ◌==◌}
use Rattle.std.proofs.lemmas.Int.{ints, to_z-of_z}
use Rattle.std.proofs.lemmas.Bool.Decides.{nat_tests}
use Rattle.std.proofs.lemmas.List.{map_more, take_all}
use Rattle.std.proofs.lemmas.List.Sums.{sum_by_push, sum_by_more, sum_by-take-le, get_or-le-sum_by}
use Rattle.std.proofs.lemmas.List.Elements.{All-head, All-tail}
use Rattle.std.proofs.lemmas.List.FromFn.{get_or-map-range_with_len}
use Rattle.std.specs.List.{range_with_len}
use Rattle.sums.specs.Sums.{sum_below, count_if}
use Rattle.sums.proofs.SumLemmas.{sum_below-le}
use Rattle.sums.proofs.IntegerSumLemmas.{within_fits, abs-sub}
use Rattle.label_field.specs.declared.pair.Pair.{Pair}
use Rattle.label_field.specs.PairLists.{IsPair, IsPairList, PairList}
use Rattle.label_energies.specs.declared.change.Move.{Move}
use Rattle.label_energies.specs.Energies.{Instance, IsInstance}
use Rattle.label_energies.specs.Moves.{IsRegularPair, IsAllowed}
use Rattle.compile_cut.specs.Weights.{weights_size}
use Rattle.move_energy.specs.declared.by_site.Neighbours.{Neighbours}
use Rattle.move_energy.specs.declared.choice.Choice.{Choice}
use Rattle.move_energy.specs.BySite.{AreBySite, degree, neighbours_start, neighbour_at, is_first, weight_at as pair_weight, pair_of, pair_from, pair_beside, rising_sites}
use Rattle.move_energy.specs.declared.choice.Choice.TheVariants.{Open}
use Rattle.move_energy.specs.Choices.{choice_at, is_open, open_at, AreOpenSites}
use Rattle.move_energy.specs.Weights.{weight_at, open_weights, pair_surplus, AreWeights}
use Rattle.move_energy.proofs.Parts.{beside_has}
use Rattle.move_energy.proofs.Listings.{listed_sites_are_summed}
use Rattle.move_energy.proofs.Weighed.{open_size, listed_weights_are}
use Rattle.site_bounds.specs.Parts.{site_weight}
use Rattle.site_bounds.proofs.Left.{left_most}
use Rattle.site_bounds.proofs.Ranges.{counted_less}
use Rattle.persistency.specs.Agreeing.{choices_or}
use Rattle.persistency.specs.Borders.{range_of, not_ones, is_beyond, leads_beyond, pair_border, border_at}
use Rattle.persistency.proofs.Borders.{strip_weights, weights_go_on}
use Rattle.persistency.proofs.Rooms.{total_more}
use Rattle.strip_nets.specs.Views.{strip_view, KeepsChosen, weight_now}
use Rattle.strip_nets.proofs.Views.{weights_same, view_is, goes_on_joined}

-- ---- the pair of a site and a neighbour

same_site : (a : ℕ) → (a == a) ≡ true
same_site a = grind (arith, nat_tests)

other_site : (a b : ℕ) → a ≢ b → (a == b) ≡ false
other_site a b h = grind (arith, nat_tests, h)

leads_first : (a b c d : Bool) → a ≡ true → c ≡ false → ((a && b) || (c && d)) ≡ b
leads_first true true false d h k = refl
leads_first true false false d h k = refl
leads_first false b c d h k = absurd (cc (h))
leads_first true b true d h k = absurd (cc (k))

leads_second : (a b c d : Bool) → a ≡ false → c ≡ true → ((a && b) || (c && d)) ≡ d
leads_second false b true d h k = refl
leads_second true b c d h k = absurd (cc (h))
leads_second false b false d h k = absurd (cc (k))

leads_head : (choice : ℕ → Choice) (set : ℕ → Bool) (first : Bool) (site head weight : ℕ) → (pair_from first site head weight).first ≢ (pair_from first site head weight).second
    → leads_beyond choice set site (pair_from first site head weight) ≡ is_beyond choice set head
leads_head choice set true site head weight apart =
    leads_first (site == site) (is_beyond choice set head) (head == site) (is_beyond choice set site) (same_site site) (other_site head site (λ e. apart (sym e)))
leads_head choice set false site head weight apart =
    leads_second (head == site) (is_beyond choice set site) (site == site) (is_beyond choice set head) (other_site head site apart) (same_site site)

-- what it adds to the border of the site
border_beside : (m : Instance) (move : Move) (f : ℕ → ℕ) (choice : ℕ → Choice) (set : ℕ → Bool) (pairs : PairList) (ends : Neighbours) (site place : ℕ)
    → All (IsPair pairs.sites) pairs.list → AreBySite pairs ends → site < pairs.sites → neighbours_start ends site ≤ place → place < neighbours_start ends (site + 1)
    → count_if (is_beyond choice set (neighbour_at ends place)) (pair_surplus m move f (pair_beside ends site place)) ≡ pair_border m move f choice set site (pair_beside ends site place)
border_beside m move f choice set pairs ends site place all by_site inside from to =
    let apart = (beside_has (IsPair pairs.sites) pairs ends site place all by_site inside from to).unequal in
    ap (λ b. count_if b (pair_surplus m move f (pair_beside ends site place)))
    (sym (leads_head choice set (is_first ends site place) site (neighbour_at ends place) (pair_weight ends place) apart))

pub regular_beside : (m : Instance) (move : Move) (f : ℕ → ℕ) (pairs : PairList) (ends : Neighbours) (site place : ℕ) (pair : Pair) → AreBySite pairs ends → site < pairs.sites
    → neighbours_start ends site ≤ place → place < neighbours_start ends (site + 1) → m.pairs ≡ pairs.list → pair ≡ pair_beside ends site place → IsAllowed m move f → IsRegularPair m move f pair
regular_beside m move f pairs ends site place pair by_site inside from to same is allowed =
    let P : Pair → Type 0 = λ p. IsRegularPair m move f p in
    let Q : List Pair → Type 0 = λ ps. All (IsRegularPair m move f) ps in
    subst P (sym is) (beside_has P pairs ends site place (subst Q same allowed) by_site inside from to)

head_from : (first : Bool) (site head weight n : ℕ) → IsPair n (pair_from first site head weight) → head < n
head_from true site head weight n is = is.second
head_from false site head weight n is = is.first

pub head_inside : (pairs : PairList) (ends : Neighbours) (site place : ℕ) → All (IsPair pairs.sites) pairs.list → AreBySite pairs ends → site < pairs.sites
    → neighbours_start ends site ≤ place → place < neighbours_start ends (site + 1) → neighbour_at ends place < pairs.sites
head_inside pairs ends site place all by_site inside from to =
    head_from (is_first ends site place) site (neighbour_at ends place) (pair_weight ends place) pairs.sites
    (beside_has (IsPair pairs.sites) pairs ends site place all by_site inside from to)

pub border_none : (m : Instance) (move : Move) (f : ℕ → ℕ) (choice : ℕ → Choice) (set : ℕ → Bool) (ends : Neighbours) (site place : ℕ) → place ≡ neighbours_start ends site
    → pos 0 ≡ pos (sum_below (place - neighbours_start ends site) (λ i. pair_border m move f choice set site (pair_of ends site i)))
border_none m move f choice set ends site place at =
    let none : place - neighbours_start ends site ≡ 0 = omega (arith, at) in
    ap (λ k. pos (sum_below k (λ i. pair_border m move f choice set site (pair_of ends site i)))) (sym none)

-- one neighbour more
pub border_more : (m : Instance) (move : Move) (f : ℕ → ℕ) (choice : ℕ → Choice) (set : ℕ → Bool) (pairs : PairList) (ends : Neighbours) (site place head : ℕ) (counts : Bool) (old added new : ℤ)
    → All (IsPair pairs.sites) pairs.list → AreBySite pairs ends → site < pairs.sites → neighbours_start ends site ≤ place → place < neighbours_start ends (site + 1)
    → head ≡ neighbour_at ends place → counts ≡ is_beyond choice set head → new ≡ old +ℤ added
    → old ≡ pos (sum_below (place - neighbours_start ends site) (λ i. pair_border m move f choice set site (pair_of ends site i)))
    → added ≡ pos (count_if counts (pair_surplus m move f (pair_beside ends site place)))
    → new ≡ pos (sum_below (place + 1 - neighbours_start ends site) (λ i. pair_border m move f choice set site (pair_of ends site i)))
border_more m move f choice set pairs ends site place head counts old added new all by_site inside from to at leads is before one =
    let k : ℕ = place - neighbours_start ends site in
    let here : neighbours_start ends site + k ≡ place = omega (arith, from) in
    let next : k + 1 ≡ place + 1 - neighbours_start ends site = omega (arith, from) in
    let g : ℕ → ℕ = λ i. pair_border m move f choice set site (pair_of ends site i) in
    let worth : count_if counts (pair_surplus m move f (pair_beside ends site place)) ≡ g k =
    ap (λ b. count_if b (pair_surplus m move f (pair_beside ends site place))) (leads ∙ ap (is_beyond choice set) at)
    ∙ border_beside m move f choice set pairs ends site place all by_site inside from to
    ∙ ap (λ j. pair_border m move f choice set site (pair_beside ends site j)) (sym here) in
    total_more old added new g k (count_if counts (pair_surplus m move f (pair_beside ends site place))) is before one worth
    ∙ ap (λ j. pos (sum_below j g)) next

-- what counts in one of several ways counts in each of them alone
pub one_way : (way any : Bool) (z w : ℤ) (v : ℕ) → (way ≡ true → any ≡ true) → z ≡ pos (count_if any v) → w ≡ cond way z (pos 0) → w ≡ pos (count_if way v)
one_way true any z w v some is at = at ∙ is ∙ ap (λ (b : Bool). pos (count_if b v)) (some refl)
one_way false any z w v some is at = at

pub way_one : (a b c : Bool) → a ≡ true → (a || b || c) ≡ true
way_one true b c h = refl
way_one false b c h = absurd (cc (h))

pub way_two : (a b c : Bool) → b ≡ true → (a || b || c) ≡ true
way_two true b c h = refl
way_two false true c h = refl
way_two false false c h = absurd (cc (h))

pub way_three : (a b c : Bool) → c ≡ true → (a || b || c) ≡ true
way_three true b c h = refl
way_three false true c h = refl
way_three false false c h = h

pub saved_both : (both met : Bool) (z : ℤ) (v : ℕ) → both ≡ true → met ≡ true → cond met z (pos 0) ≡ pos (count_if met v) → z ≡ pos (count_if both v)
saved_both true true z v h k is = is
saved_both false met z v h k is = absurd (cc (h))
saved_both true false z v h k is = absurd (cc (k))

pub border_small : (old added new : ℤ) (start place : ℕ) → start ≤ place → unsigned_abs old ≤ 20000000 * (place - start) → unsigned_abs added ≤ 20000000 → new ≡ old +ℤ added
    → unsigned_abs new ≤ 20000000 * (place + 1 - start)
border_small old added new start place from within small is = omega (arith, ints, from, within, small, ap unsigned_abs is)

-- ---- one site after another

-- the ends of the listed sites
pub degrees_few : (pairs : PairList) (ends : Neighbours) (choices : List Choice) (opened : List ℕ) → AreBySite pairs ends → length choices ≡ pairs.sites → AreOpenSites choices opened
    → sum_by (degree ends) opened ≤ 2 * length pairs.list
degrees_few pairs ends choices opened by_site size listed =
    let is = ap (λ (xs : List ℕ). sum_by (degree ends) xs) (listed ∙ ap (λ n. rising_sites (open_at choices) n) size) in
    let summed = listed_sites_are_summed (open_at choices) pairs.sites (degree ends) in
    let most = left_most pairs ends choices by_site in
    omega (arith, is, summed, most)

-- the weights of listed sites that were open at the start
pub weights_few : (start now : List Choice) (opened : List ℕ) (weights : List ℤ) (n : ℕ) → length now ≡ n → AreOpenSites now opened
    → ((u : ℕ) → u < n → choice_at now u ≡ Open → choice_at start u ≡ Open) → weights_size (map (weight_at weights) opened) ≤ weights_size (open_weights start weights n)
weights_few start now opened weights n size listed was =
    let is = ap (λ (ws : List ℤ). weights_size ws) (listed_weights_are now weights opened listed ∙ ap (open_weights now weights) size) in
    let less = sum_below-le n (λ u. count_if (is_open (choice_at now u)) (unsigned_abs (weight_at weights u))) (λ u. count_if (is_open (choice_at start u)) (unsigned_abs (weight_at weights u)))
    (λ u l. counted_less (choice_at now u) (choice_at start u) (unsigned_abs (weight_at weights u)) (was u l)) in
    omega (arith, is, open_size now weights n, less, open_size start weights n)

-- the weight of a site by now, as the machine counts it
weight_small : (w : ℤ) → unsigned_abs w ≤ 300000000000000 → to_z w64 (of_z w64 w) ≡ w
weight_small w small = to_z-of_z w64 w (within_fits 300000000000000 w small (lit< tt))

pub border_passed : (o : ℤ) (d : ℕ) → unsigned_abs o ≤ 20000000 * d → d ≤ 8388608 → to_z w64 (of_z w64 o) ≡ o
border_passed o d within few = to_z-of_z w64 o (within_fits 200000000000000 o (omega (arith, within, few)) (lit< tt))

pub weight_fits : (w o : ℤ) (d : ℕ) → unsigned_abs w ≤ 300000000000000 → unsigned_abs o ≤ 20000000 * d → d ≤ 8388608
    → FitsSigned w64 (to_z w64 (of_z w64 w) -ℤ to_z w64 (of_z w64 o))
weight_fits w o d small within few =
    let a = abs-sub w o in
    let F : ℤ → Type 0 = λ z. FitsSigned w64 z in
    subst F (sym (λ i. weight_small w small i -ℤ border_passed o d within few i))
    (within_fits 600000000000000 (w -ℤ o) (omega (arith, a, small, within, few)) (lit< tt))

pub weight_is : (w o : ℤ) (d : ℕ) → unsigned_abs w ≤ 300000000000000 → unsigned_abs o ≤ 20000000 * d → d ≤ 8388608
    → to_z w64 (of_z w64 (to_z w64 (of_z w64 w) -ℤ to_z w64 (of_z w64 o))) ≡ w -ℤ o
weight_is w o d small within few =
    to_z-of_z w64 (to_z w64 (of_z w64 w) -ℤ to_z w64 (of_z w64 o)) (weight_fits w o d small within few)
    ∙ (λ i. weight_small w small i -ℤ border_passed o d within few i)

pub weight_few : (weights : List ℤ) (p : ℕ) → p < length weights → weights_size weights ≤ 300000000000000 → unsigned_abs (weight_at weights p) ≤ 300000000000000
weight_few weights p l small = omega (arith, get_or-le-sum_by unsigned_abs weights p (pos 0) l, small)

pub size_more : (weights list new : List ℤ) (opened : List ℕ) (ends : Neighbours) (i site : ℕ) (z o : ℤ) → i < length opened → i < length weights → site ≡ get_or opened i 0
    → new ≡ list ++ z ∷ [] → z ≡ weight_at weights i -ℤ o → unsigned_abs o ≤ 20000000 * degree ends site
    → weights_size list ≤ weights_size (take i weights) + 20000000 * sum_by (degree ends) (take i opened)
    → weights_size new ≤ weights_size (take (i + 1) weights) + 20000000 * sum_by (degree ends) (take (i + 1) opened)
size_more weights list new opened ends i site z o l has at pushed is within before =
    let size = ap (λ (ws : List ℤ). weights_size ws) pushed ∙ sum_by_push unsigned_abs list z in
    let more = sum_by_more unsigned_abs weights i (pos 0) has in
    let degrees = sum_by_more (degree ends) opened i 0 l in
    let own = ap (degree ends) at in
    let number = ap unsigned_abs is in
    omega (arith, size, more, degrees, own, number, abs-sub (weight_at weights i) o, within, before)

pub borders_more : (list new : List ℕ) (opened : List ℕ) (ends : Neighbours) (i site z : ℕ) → i < length opened → site ≡ get_or opened i 0
    → new ≡ list ++ z ∷ [] → z ≤ 20000000 * degree ends site
    → sum list ≤ 20000000 * sum_by (degree ends) (take i opened) → sum new ≤ 20000000 * sum_by (degree ends) (take (i + 1) opened)
borders_more list new opened ends i site z l at pushed within before =
    let size = ap (λ (xs : List ℕ). sum xs) pushed ∙ sum_by_push (λ x. x) list z in
    let degrees = sum_by_more (degree ends) opened i 0 l in
    let own = ap (degree ends) at in
    omega (arith, size, degrees, own, within, before)

pub size_all : (pairs : PairList) (ends : Neighbours) (choices : List Choice) (weights list : List ℤ) (opened : List ℕ) (i : ℕ) → IsPairList pairs → AreBySite pairs ends
    → length choices ≡ pairs.sites → AreOpenSites choices opened → weights_size weights ≤ 300000000000000 → length opened ≤ i
    → weights_size list ≤ weights_size (take i weights) + 20000000 * sum_by (degree ends) (take i opened)
    → weights_size list ≤ 467772160000000
size_all pairs ends choices weights list opened i are by_site sites listed small past within =
    let degrees = ap (λ (xs : List ℕ). sum_by (degree ends) xs) (take_all i opened past) in
    omega (arith, within, sum_by-take-le unsigned_abs weights i, degrees, degrees_few pairs ends choices opened by_site sites listed, small, are.count)

pub borders_all : (pairs : PairList) (ends : Neighbours) (choices : List Choice) (list opened : List ℕ) (i : ℕ) → IsPairList pairs → AreBySite pairs ends
    → length choices ≡ pairs.sites → AreOpenSites choices opened → length opened ≤ i
    → sum list ≤ 20000000 * sum_by (degree ends) (take i opened) → sum list ≤ 167772160000000
borders_all pairs ends choices list opened i are by_site sites listed past within =
    let degrees = ap (λ (xs : List ℕ). sum_by (degree ends) xs) (take_all i opened past) in
    omega (arith, within, degrees, degrees_few pairs ends choices opened by_site sites listed, are.count)

pub list_more : {X : Type 0} (g : ℕ → X) (list new : List X) (opened : List ℕ) (i site : ℕ) (z : X) → i < length opened → site ≡ get_or opened i 0
    → new ≡ list ++ z ∷ [] → z ≡ g site → list ≡ map g (take i opened) → new ≡ map g (take (i + 1) opened)
list_more g list new opened i site z l at pushed is before =
    pushed ∙ (λ j. before j ++ (is ∙ ap g at) j ∷ []) ∙ sym (map_more g opened i 0 l)

-- ---- the weights of the view

abbrev pub list_of : (ℕ → ℤ) → ℕ → List ℤ
list_of g n = map g (range_with_len 0 n)

pub list_of_at : (g : ℕ → ℤ) (n p : ℕ) → p < n → weight_at (list_of g n) p ≡ g p
list_of_at g n p l = get_or-map-range_with_len g 0 n p p (pos 0) l (omega arith)

back : (w b : ℤ) → w ≡ (w -ℤ b) +ℤ b
back w b = omega (arith, ints)

-- the weights by now are those of the strip with the others at 0
pub weights_now : (m : Instance) (move : Move) (f : ℕ → ℕ) (start known : List Choice) (from to : ℕ) → IsInstance m → IsAllowed m move f
    → m.sites ≡ length known → KeepsChosen start known
    → AreWeights m move f (choice_at (strip_view known from to)) (list_of (weight_now m move f (choice_at start) (choice_at known)) m.sites)
weights_now m move f start known from to pairs allowed size on =
    let now = choice_at known in
    let weights = list_of (site_weight m move f (choice_at start)) m.sites in
    let less = list_of (weight_now m move f (choice_at start) now) m.sites in
    let are : AreWeights m move f (choice_at start) weights = λ p l opened. list_of_at (site_weight m move f (choice_at start)) m.sites p l in
    let W : (ℕ → Choice) → Type 0 = λ choice. AreWeights m move f choice less in
    let later = weights_go_on m move f (choice_at start) now weights less pairs allowed are
    (λ p l opened still. list_of_at (site_weight m move f (choice_at start)) m.sites p l
    ∙ back (site_weight m move f (choice_at start) p) (pos (border_at m move f (choice_at start) (not_ones now) p))
    ∙ ap (λ z. z +ℤ pos (border_at m move f (choice_at start) (not_ones now) p)) (sym (list_of_at (weight_now m move f (choice_at start) now) m.sites p l))) in
    subst W (sym (view_is known from to))
    (strip_weights m move f now (range_of from to) less
    (weights_same m move f (choices_or (choice_at start) now) now less pairs (λ p l. goes_on_joined start known p on (omega (arith, l, size))) later))

pub map_now : (g : ℕ → ℤ) (n : ℕ) (opened : List ℕ) → All (λ p. p < n) opened → map g opened ≡ map (weight_at (list_of g n)) opened
map_now g n [] all = refl
map_now g n (x ∷ xs) all =
    (λ i. sym (list_of_at g n x (All-head (λ p. p < n) x xs all)) i ∷ map_now g n xs (All-tail (λ p. p < n) x xs all) i)
