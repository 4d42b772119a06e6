-- The places of the pairs of a list.
use Rattle.std.proofs.Common.{◌≡◌, ℕ, ◌∙◌, refl, sym, subst, ◌+◌, ◌*◌, ◌<◌, ◌≤◌, Bool, true, false, arith, length}
use Rattle.label_field.specs.PairLists.{IsPair, IsWeightIn, PairList, IsPairList}
use Rattle.move_energy.specs.declared.by_site.Neighbours.{Neighbours}
use Rattle.move_energy.specs.BySite.{AreBySite, neighbours_start, neighbour_at, is_first, weight_at, pair_from}
use Rattle.move_energy.proofs.Parts.{starts_rise, starts_within, beside_has}
use Rattle.move_energy.proofs.PairEnds.{ends_len}
use Rattle.site_forms.specs.Fields.{ArePlaces, AreLight}

place_at_site : (n : ℕ) (first : Bool) (u head weight : ℕ) → IsPair n (pair_from first u head weight) → head < n
place_at_site n true u head weight is = is.second
place_at_site n false u head weight is = is.first

weight_of_pair : (first : Bool) (u head weight : ℕ) → (pair_from first u head weight).weight ≡ weight
weight_of_pair true u head weight = refl
weight_of_pair false u head weight = refl

-- the weight at a place is that of a pair of the list
pub weight_there : (pairs : PairList) (ends : Neighbours) (u place : ℕ) → IsPairList pairs → AreBySite pairs ends → u < pairs.sites
    → neighbours_start ends u ≤ place → place < neighbours_start ends (u + 1) → IsWeightIn pairs (weight_at ends place)
weight_there pairs ends u place list by_site l from to =
    subst (IsWeightIn pairs) (weight_of_pair (is_first ends u place) u (neighbour_at ends place) (weight_at ends place))
    (beside_has (λ pair. IsWeightIn pairs pair.weight) pairs ends u place list.weights by_site l from to)

pub light_places : (pairs : PairList) (ends : Neighbours) (n : ℕ) → n ≡ pairs.sites → IsPairList pairs → AreBySite pairs ends → pairs.numbered ≡ false → AreLight n ends
light_places pairs ends n same list by_site weighted = λ u place l from to. (weight_there pairs ends u place list by_site (omega (arith, l, same)) from to).weighted weighted

pub pairs_places : (pairs : PairList) (ends : Neighbours) (n : ℕ) → n ≡ pairs.sites → IsPairList pairs → AreBySite pairs ends → ArePlaces n ends
pairs_places pairs ends n same list by_site =
    let count = ends_len pairs.list in
    let heads : length ends.heads.items ≡ 2 * length pairs.list = omega (arith, by_site.heads_len, by_site.grouped.places_len, count) in
    let at = λ (u place : ℕ) (l : u < n) (from : neighbours_start ends u ≤ place) (to : place < neighbours_start ends (u + 1)).
    place_at_site pairs.sites (is_first ends u place) u (neighbour_at ends place) (weight_at ends place)
    (beside_has (IsPair pairs.sites) pairs ends u place list.each by_site (omega (arith, l, same)) from to) in
    record {
      few_sites = omega (arith, same, list.sites);
      starts_len = omega (arith, same, by_site.grouped.starts_len);
      rising = λ u l. starts_rise pairs ends u by_site (omega (arith, l, same));
      within = λ u l. (let w = starts_within pairs ends u by_site (omega (arith, l, same)) in omega (arith, w, heads, count));
      firsts_len = λ off. by_site.firsts_len off ∙ sym by_site.heads_len;
      weights_len = λ off. by_site.weights_len off ∙ sym by_site.heads_len;
      few_places = omega (arith, heads, list.count);
      inside = λ u place l from to. omega (arith, at u place l from to, same);
    }
