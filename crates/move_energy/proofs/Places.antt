-- The places of a site's part, as the loop over them reads them.
use Rattle.std.proofs.Common.{◌≡◌, ℕ, ◌+◌, ◌*◌, ◌<◌, ◌≤◌, List, All, length, sym, subst, arith}
use Rattle.counting_sort.specs.Grouping.{IsGrouped}
use Rattle.label_field.specs.declared.pair.Pair.{Pair}
use Rattle.label_field.specs.PairLists.{IsPair, PairList, IsPairList}
use Rattle.label_energies.specs.Energies.{Instance, IsInstance}
use Rattle.move_energy.specs.declared.by_site.Neighbours.{Neighbours}
use Rattle.move_energy.specs.BySite.{degree, pair_ends, grouped_at, AreBySite, AreEndsBySite, AreNeighboursOf}
use Rattle.move_energy.proofs.Parts.{starts_within}
use Rattle.move_energy.proofs.PairEnds.{ends_len}

pub meant_pairs : (m : Instance) (pairs : PairList) → m.pairs ≡ pairs.list → m.sites ≡ pairs.sites → IsPairList pairs → IsInstance m
meant_pairs m pairs same sites list =
    let P : ℕ → Type 0 = λ n. All (IsPair n) pairs.list in
    let Q : List Pair → Type 0 = λ ps. All (IsPair m.sites) ps in
    subst Q (sym same) (subst P (sym sites) list.each)

pub meant_grouped : (m : Instance) (pairs : PairList) (ends : Neighbours) → m.pairs ≡ pairs.list → m.sites ≡ pairs.sites → (b : AreBySite pairs ends) → IsGrouped m.sites (pair_ends m.pairs) (grouped_at ends b.places)
meant_grouped m pairs ends same sites b =
    let P : ℕ → Type 0 = λ n. IsGrouped n (pair_ends pairs.list) (grouped_at ends b.places) in
    let Q : List Pair → Type 0 = λ ps. IsGrouped m.sites (pair_ends ps) (grouped_at ends b.places) in
    subst Q (sym same) (subst P (sym sites) b.grouped)

pub meant_beside : (m : Instance) (pairs : PairList) (ends : Neighbours) → m.pairs ≡ pairs.list → m.sites ≡ pairs.sites → AreBySite pairs ends → AreNeighboursOf m ends
meant_beside m pairs ends same sites by_site =
    let P : ℕ → Type 0 = λ n. AreEndsBySite n pairs.list ends in
    let Q : List Pair → Type 0 = λ ps. AreEndsBySite m.sites ps ends in
    subst Q (sym same) (subst P (sym sites) by_site)

-- a site has at most two ends of each pair
pub degree_most : (pairs : PairList) (ends : Neighbours) (site : ℕ) → AreBySite pairs ends → site < pairs.sites → degree ends site ≤ 2 * length pairs.list
degree_most pairs ends site by_site l =
    let most = starts_within pairs ends (site + 1) by_site (omega (arith, l)) in
    omega (arith, most, ends_len pairs.list)
