-- The border of a site, pair by pair.
use Rattle.std.proofs.Common.{◌≡◌, ◌<◌, ◌≤◌, ◌+◌, ◌*◌, ℕ, Bool, List, ℤ, pos, ◌+ℤ◌, unsigned_abs, to_z, of_z, w64, lit<, sym, ap, ◌∙◌, subst, add-one, arith}
use Rattle.std.specs.List.{All}
use Rattle.std.proofs.lemmas.Int.{ints, to_z-of_z}
use Rattle.sums.specs.Sums.{sum_below}
use Rattle.sums.proofs.IntegerSumLemmas.{within_fits, abs-add}
use Rattle.move_energy.specs.declared.by_site.Neighbours.{Neighbours}
use Rattle.label_field.specs.declared.pair.Pair.{Pair}
use Rattle.label_field.specs.PairLists.{PairList, IsPairList}
use Rattle.label_energies.specs.declared.change.Move.{Move}
use Rattle.label_energies.specs.Energies.{Instance}
use Rattle.label_energies.specs.Moves.{IsRegularPair, IsAllowed}
use Rattle.move_energy.specs.BySite.{AreBySite, degree, pair_of}
use Rattle.move_energy.specs.declared.choice.Choice.{Choice}
use Rattle.move_energy.proofs.Parts.{pair_has}
use Rattle.move_energy.proofs.Places.{meant_pairs, meant_beside}
use Rattle.persistency.specs.Borders.{pair_border, border_at}
use Rattle.persistency.proofs.Borders.{border_by_site}

-- the sum, as the machine counts it
pub total_is : (old added : ℤ) (k : ℕ) → unsigned_abs old ≤ 20000000 * k → unsigned_abs added ≤ 20000000 → k ≤ 4294967296
    → to_z w64 (of_z w64 (old +ℤ to_z w64 (of_z w64 added))) ≡ old +ℤ added
total_is old added k within small few =
    let a = abs-add old added in
    let fits = within_fits 100000000000000000 (old +ℤ added) (omega (arith, a, within, small, few)) (lit< tt) in
    ap (λ z. to_z w64 (of_z w64 (old +ℤ z))) (to_z-of_z w64 added (within_fits 20000000 added small (lit< tt))) ∙ to_z-of_z w64 (old +ℤ added) fits

pub total_small : (old added new : ℤ) (k : ℕ) → unsigned_abs old ≤ 20000000 * k → unsigned_abs added ≤ 20000000 → new ≡ old +ℤ added
    → unsigned_abs new ≤ 20000000 * (k + 1)
total_small old added new k within small is =
    let e = ap unsigned_abs is in
    let a = abs-add old added in
    omega (arith, e, a, within, small)

pub total_more : (old added new : ℤ) (g : ℕ → ℕ) (k b : ℕ) → new ≡ old +ℤ added → old ≡ pos (sum_below k g) → added ≡ pos b → b ≡ g k
    → new ≡ pos (sum_below (k + 1) g)
total_more old added new g k b is before one here = rw add-one (omega (arith, ints, is, before, one, here))

-- each pair of a site has a regular term
pub regular_at : (m : Instance) (move : Move) (f : ℕ → ℕ) (pairs : PairList) (ends : Neighbours) (site k : ℕ) (pair : Pair) → AreBySite pairs ends → site < pairs.sites → k < degree ends site
    → m.pairs ≡ pairs.list → pair ≡ pair_of ends site k → IsAllowed m move f → IsRegularPair m move f pair
regular_at m move f pairs ends site k pair by_site inside l same is allowed =
    let P : Pair → Type 0 = λ p. IsRegularPair m move f p in
    let Q : List Pair → Type 0 = λ ps. All (IsRegularPair m move f) ps in
    subst P (sym is)
    (pair_has P pairs ends site k (subst Q same allowed) by_site inside l)

-- all pairs
pub total_all : (m : Instance) (move : Move) (f : ℕ → ℕ) (choice : ℕ → Choice) (set : ℕ → Bool) (pairs : PairList) (ends : Neighbours) (site k : ℕ) (total : ℤ)
    → m.pairs ≡ pairs.list → m.sites ≡ pairs.sites → IsPairList pairs → AreBySite pairs ends → site < pairs.sites → k ≡ degree ends site
    → total ≡ pos (sum_below k (λ i. pair_border m move f choice set site (pair_of ends site i)))
    → total ≡ pos (border_at m move f choice set site)
total_all m move f choice set pairs ends site k total same sites list by_site inside end is =
    is ∙ (λ j. pos (sum_below (end j) (λ i. pair_border m move f choice set site (pair_of ends site i))))
    ∙ ap pos (sym (border_by_site m move f choice set site ends (meant_pairs m pairs same sites list) (meant_beside m pairs ends same sites by_site) (omega (arith, inside, sites))))
