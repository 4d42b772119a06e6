-- The rises of the sites of a label, added up as the machine counts them.
use Rattle.std.proofs.Common.{◌≡◌, ℕ, ◌+◌, ◌*◌, ◌≤◌, ap, ◌∙◌, sym, subst, arith, ℤ, unsigned_abs, ◌+ℤ◌, w64, to_z, of_z, FitsSigned, lit<}
use Rattle.std.proofs.lemmas.Int.{to_z-of_z}
use Rattle.sums.proofs.IntegerSumLemmas.{within_fits, abs-add}
use Rattle.move_energy.specs.declared.by_site.Neighbours.{Neighbours}
use Rattle.move_energy.specs.BySite.{neighbours_start}
use Rattle.site_forms.specs.Fields.{ArePlaces}

-- the sum so far and one rise more
pub rise_adds : (y r : ℤ) (j k : ℕ) → unsigned_abs y ≤ 10000000 * j → unsigned_abs r ≤ 10000000 * k → j ≤ 4294967296 → k ≤ 4294967296
    → to_z w64 (of_z w64 (y +ℤ to_z w64 (of_z w64 r))) ≡ y +ℤ r
rise_adds y r j k h l few small =
    let one = to_z-of_z w64 r (within_fits 42949672960000000 r (omega (arith, l, small)) (lit< tt)) in
    let both = within_fits 85899345920000000 (y +ℤ r) (omega (arith, abs-add y r, h, l, few, small)) (lit< tt) in
    ap (λ z. to_z w64 (of_z w64 (y +ℤ z))) one ∙ to_z-of_z w64 (y +ℤ r) both

pub rise_fits : (y r : ℤ) (j k : ℕ) → unsigned_abs y ≤ 10000000 * j → unsigned_abs r ≤ 10000000 * k → j ≤ 4294967296 → k ≤ 4294967296
    → FitsSigned w64 (y +ℤ to_z w64 (of_z w64 r))
rise_fits y r j k h l few small =
    let one = to_z-of_z w64 r (within_fits 42949672960000000 r (omega (arith, l, small)) (lit< tt)) in
    subst (λ (z : ℤ). FitsSigned w64 (y +ℤ z)) (sym one) (within_fits 85899345920000000 (y +ℤ r) (omega (arith, abs-add y r, h, l, few, small)) (lit< tt))

pub few_so_far : (n : ℕ) (ends : Neighbours) (s : ℕ) → ArePlaces n ends → s ≤ n → s + neighbours_start ends s ≤ 4294967296
few_so_far n ends s are l = (let within = are.within s l in omega (arith, within, are.few_places, are.few_sites, l))

-- a sum so far, as it is read
held : (y : ℤ) (j : ℕ) → unsigned_abs y ≤ 10000000 * j → j ≤ 4294967296 → to_z w64 (of_z w64 y) ≡ y
held y j h few = to_z-of_z w64 y (within_fits 42949672960000000 y (omega (arith, h, few)) (lit< tt))

-- in a list the sum so far is read, and one rise more is written
pub held_adds : (y r : ℤ) (j k : ℕ) → unsigned_abs y ≤ 10000000 * j → unsigned_abs r ≤ 10000000 * k → j ≤ 4294967296 → k ≤ 4294967296
    → to_z w64 (of_z w64 (to_z w64 (of_z w64 y) +ℤ to_z w64 (of_z w64 r))) ≡ y +ℤ r
held_adds y r j k h l few small = ap (λ z. to_z w64 (of_z w64 (z +ℤ to_z w64 (of_z w64 r)))) (held y j h few) ∙ rise_adds y r j k h l few small

pub held_fits : (y r : ℤ) (j k : ℕ) → unsigned_abs y ≤ 10000000 * j → unsigned_abs r ≤ 10000000 * k → j ≤ 4294967296 → k ≤ 4294967296
    → FitsSigned w64 (to_z w64 (of_z w64 y) +ℤ to_z w64 (of_z w64 r))
held_fits y r j k h l few small = subst (λ (z : ℤ). FitsSigned w64 (z +ℤ to_z w64 (of_z w64 r))) (sym (held y j h few)) (rise_fits y r j k h l few small)
