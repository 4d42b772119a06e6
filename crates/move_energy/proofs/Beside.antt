-- The neighbours of the sites tell the pairs of the list.
use Rattle.std.proofs.Common.{◌≡◌, ◌≢◌, ℕ, ◌+◌, ◌<◌, Bool, All, ℤ, pos, sym, ap, ◌∙◌, sum_by, arith}
use Rattle.sums.specs.Sums.{count_if}
use Rattle.sums.specs.IntegerSums.{int_sum_below, int_sum_by}
use Rattle.sums.proofs.SumLemmas.{sum_below-same}
use Rattle.sums.proofs.IntegerSumLemmas.{int_sum_below-same}
use Rattle.label_field.specs.declared.pair.Pair.{Pair}
use Rattle.label_field.specs.PairLists.{IsPair, PairList}
use Rattle.move_energy.specs.declared.by_site.Neighbours.{Neighbours}
use Rattle.move_energy.specs.BySite.{AreBySite, degree, neighbours_start, pair_of, rising_sites, is_counted, has_chosen, met_at, grouped_at}
use Rattle.move_energy.proofs.Grouped as grouped
use Rattle.move_energy.proofs.Meetings as meetings
use Rattle.move_energy.proofs.AtSite as at_site
use Rattle.move_energy.proofs.Listings.{listed_sites_are_summed}

-- the pair that is told at a place is that whose end stands there
same_pair : (pairs : PairList) (ends : Neighbours) (site k : ℕ) → (b : AreBySite pairs ends) → site < pairs.sites → k < degree ends site
    → pair_of ends site k ≡ grouped.pair_of pairs.list (grouped_at ends b.places) site k
same_pair pairs ends site k b inside l = b.each site (neighbours_start ends site + k) inside (omega arith) (omega (arith, l))

same_met : (pairs : PairList) (ends : Neighbours) (chosen : ℕ → Bool) (value : Pair → ℕ) (site : ℕ) → (b : AreBySite pairs ends) → site < pairs.sites
    → met_at ends chosen value site ≡ grouped.met_at pairs.list (grouped_at ends b.places) chosen value site
same_met pairs ends chosen value site b inside =
    sum_below-same (degree ends site) (λ k. count_if (is_counted chosen site (pair_of ends site k)) (value (pair_of ends site k)))
    (λ k. count_if (is_counted chosen site (grouped.pair_of pairs.list (grouped_at ends b.places) site k)) (value (grouped.pair_of pairs.list (grouped_at ends b.places) site k)))
    (λ k l. ap (λ (p : Pair). count_if (is_counted chosen site p) (value p)) (same_pair pairs ends site k b inside l))

-- the sum over the chosen sites of what is met at each is that over all pairs of a chosen site
pub pairs_are_met_once : (pairs : PairList) (ends : Neighbours) (chosen : ℕ → Bool) (value : Pair → ℕ) → All (IsPair pairs.sites) pairs.list → AreBySite pairs ends
    → sum_by (met_at ends chosen value) (rising_sites chosen pairs.sites) ≡ sum_by (λ pair. count_if (has_chosen chosen pair) (value pair)) pairs.list
pairs_are_met_once pairs ends chosen value all b =
    let n = pairs.sites in
    let met = grouped.met_at pairs.list (grouped_at ends b.places) chosen value in
    listed_sites_are_summed chosen n (met_at ends chosen value)
    ∙ sum_below-same n (λ s. count_if (chosen s) (met_at ends chosen value s)) (λ s. count_if (chosen s) (met s))
    (λ s l. ap (count_if (chosen s)) (same_met pairs ends chosen value s b l))
    ∙ sym (listed_sites_are_summed chosen n met)
    ∙ meetings.pairs_are_met_once n pairs.list (grouped_at ends b.places) chosen value all b.grouped

-- what is nothing at each pair without an end at the site has the same sum over all pairs and over
-- the site's
pub site_sum : (pairs : PairList) (ends : Neighbours) (site : ℕ) (g : Pair → ℤ) → All (IsPair pairs.sites) pairs.list → AreBySite pairs ends → site < pairs.sites
    → ((pair : Pair) → pair.first ≢ site → pair.second ≢ site → g pair ≡ pos 0)
    → int_sum_by g pairs.list ≡ int_sum_below (degree ends site) (λ k. g (pair_of ends site k))
site_sum pairs ends site g all b inside none =
    at_site.site_sum pairs.sites site pairs.list (grouped_at ends b.places) g all b.grouped inside none
    ∙ int_sum_below-same (degree ends site) (λ k. g (grouped.pair_of pairs.list (grouped_at ends b.places) site k)) (λ k. g (pair_of ends site k))
    (λ k l. ap g (sym (same_pair pairs ends site k b inside l)))
