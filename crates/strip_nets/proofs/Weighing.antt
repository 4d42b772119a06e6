-- What the listed sites of a strip weigh, read one after another.
use Rattle.std.proofs.Common.{◌≡◌, ◌<◌, ◌≤◌, ◌+◌, ◌*◌, ◌∷◌, ◌++◌, [], ℕ, ℤ, List, length, take, sum_by, get_or, unsigned_abs, ap, ◌∙◌, arith}
use Rattle.std.proofs.lemmas.List.{take_all}
use Rattle.std.proofs.lemmas.List.Sums.{sum_by_push, sum_by_more}
use Rattle.label_field.specs.PairLists.{IsPairList, PairList}
use Rattle.compile_cut.specs.Weights.{weights_size}
use Rattle.move_energy.specs.declared.by_site.Neighbours.{Neighbours}
use Rattle.move_energy.specs.declared.choice.Choice.{Choice}
use Rattle.move_energy.specs.BySite.{AreBySite, degree}
use Rattle.move_energy.specs.Choices.{AreOpenSites}
use Rattle.move_energy.proofs.Opened.{opened_few}
use Rattle.strip_nets.proofs.Borders.{degrees_few}

pub read_more : (list new : List ℤ) (opened : List ℕ) (ends : Neighbours) (i site : ℕ) (z : ℤ) → i < length opened → site ≡ get_or opened i 0
    → new ≡ list ++ z ∷ [] → unsigned_abs z ≤ 10000000 + 10000000 * degree ends site
    → weights_size list ≤ 10000000 * i + 10000000 * sum_by (degree ends) (take i opened)
    → weights_size new ≤ 10000000 * (i + 1) + 10000000 * sum_by (degree ends) (take (i + 1) opened)
read_more list new opened ends i site z l at pushed within before =
    let size = ap (λ (ws : List ℤ). weights_size ws) pushed ∙ sum_by_push unsigned_abs list z in
    let degrees = sum_by_more (degree ends) opened i 0 l in
    let own = ap (degree ends) at in
    omega (arith, size, degrees, own, within, before)

pub read_all : (pairs : PairList) (ends : Neighbours) (choices : List Choice) (list : List ℤ) (opened : List ℕ) (i : ℕ) → IsPairList pairs → AreBySite pairs ends
    → length choices ≡ pairs.sites → AreOpenSites choices opened → length opened ≤ i → i ≤ length opened
    → weights_size list ≤ 10000000 * i + 10000000 * sum_by (degree ends) (take i opened) → weights_size list ≤ 300000000000000
read_all pairs ends choices list opened i are by_site sites listed past few within =
    let degrees = ap (λ (xs : List ℕ). sum_by (degree ends) xs) (take_all i opened past) in
    omega (arith, within, degrees, degrees_few pairs ends choices opened by_site sites listed, opened_few choices opened listed, are.count, are.sites, sites, few)
