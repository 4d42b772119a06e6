-- The ends that are left to look at.
use Rattle.std.proofs.Common.{◌≡◌, ◌≢◌, ℕ, zero, suc, ◌+◌, ◌-◌, ◌*◌, ◌<◌, ◌≤◌, false, List, length, refl, sym, ap, arith}
use Rattle.sums.specs.Sums.{sum_below, count_if}
use Rattle.sums.proofs.SumLemmas.{sum_below-change, sum_below-le, counted-le}
use Rattle.move_energy.specs.declared.by_site.Neighbours.{Neighbours}
use Rattle.label_field.specs.PairLists.{PairList}
use Rattle.move_energy.specs.BySite.{degree, neighbours_start, AreBySite}
use Rattle.move_energy.specs.declared.choice.Choice.{Choice}
use Rattle.move_energy.specs.declared.choice.Choice.TheVariants.{Open, Zero, One}
use Rattle.move_energy.specs.Choices.{choice_at, is_open}
use Rattle.site_bounds.specs.Working.{open_ends}
use Rattle.move_energy.proofs.Parts.{starts_rise, starts_within}
use Rattle.move_energy.proofs.PairEnds.{ends_len}

closed_not : (c : Choice) → ¬ (c ≡ Open) → is_open c ≡ false
closed_not Open off = absurd (off refl)
closed_not Zero off = refl
closed_not One off = refl

-- a decided site's ends are no longer left
pub left_less : (ends : Neighbours) (n site : ℕ) (old new : List Choice) → site < n → choice_at old site ≡ Open → ¬ (choice_at new site ≡ Open)
    → ((u : ℕ) → u ≢ site → choice_at new u ≡ choice_at old u) → open_ends ends n new + degree ends site ≡ open_ends ends n old
left_less ends n site old new l opened closed others =
    let change = sum_below-change n site (λ u. count_if (is_open (choice_at old u)) (degree ends u)) (λ u. count_if (is_open (choice_at new u)) (degree ends u)) l
    (λ u k other. ap (λ (c : Choice). count_if (is_open c) (degree ends u)) (sym (others u other))) in
    let was : count_if (is_open (choice_at old site)) (degree ends site) ≡ degree ends site = ap (λ (c : Choice). count_if (is_open c) (degree ends site)) opened in
    let is : count_if (is_open (choice_at new site)) (degree ends site) ≡ 0 = ap (λ b. count_if b (degree ends site)) (closed_not (choice_at new site) closed) in
    omega (arith, change, was, is)

succ_is : (n : ℕ) → n + 1 ≡ suc n
succ_is n = omega arith

all_degrees : (ends : Neighbours) (n : ℕ) → ((v : ℕ) → v < n → neighbours_start ends v ≤ neighbours_start ends (v + 1)) → sum_below n (degree ends) ≤ neighbours_start ends n
all_degrees ends zero ordered = omega arith
all_degrees ends (suc n) ordered =
    let before = all_degrees ends n (λ v l. ordered v (omega (arith, l))) in
    let here = ordered n (omega arith) in
    let next = ap (neighbours_start ends) (succ_is n) in
    omega (arith, before, here, next)

-- at most two ends of each pair are left
pub left_most : (pairs : PairList) (ends : Neighbours) (choices : List Choice) → AreBySite pairs ends → open_ends ends pairs.sites choices ≤ 2 * length pairs.list
left_most pairs ends choices by_site =
    let below = sum_below-le pairs.sites (λ u. count_if (is_open (choice_at choices u)) (degree ends u)) (degree ends) (λ u l. counted-le (is_open (choice_at choices u)) (degree ends u)) in
    let all = all_degrees ends pairs.sites (λ v l. starts_rise pairs ends v by_site l) in
    let most = starts_within pairs ends pairs.sites by_site (omega arith) in
    omega (arith, below, all, most, ends_len pairs.list)

climbs : (pairs : PairList) (ends : Neighbours) (v k : ℕ) → AreBySite pairs ends → v + k ≤ pairs.sites → neighbours_start ends v ≤ neighbours_start ends (v + k)
climbs pairs ends v zero b l =
    let same : v + zero ≡ v = omega arith in
    omega (arith, ap (neighbours_start ends) same)
climbs pairs ends v (suc k) b l =
    let before = climbs pairs ends v k b (omega (arith, l)) in
    let here = starts_rise pairs ends (v + k) b (omega (arith, l)) in
    let same : v + k + 1 ≡ v + suc k = omega arith in
    omega (arith, before, here, ap (neighbours_start ends) same)

-- the neighbours of a later site begin no earlier
pub starts_climb : (pairs : PairList) (ends : Neighbours) (v w : ℕ) → AreBySite pairs ends → v ≤ w → w ≤ pairs.sites → neighbours_start ends v ≤ neighbours_start ends w
starts_climb pairs ends v w b l most =
    let same : v + (w - v) ≡ w = omega (arith, l) in
    let up = climbs pairs ends v (w - v) b (omega (arith, same, most)) in
    omega (arith, up, ap (neighbours_start ends) same)
