-- Sums of entries, as rows are raised.
use Rattle.std.proofs.Common.{◌≡◌, ◌≢◌, ℕ, zero, suc, ◌+◌, ◌-◌, ◌*◌, ◌^◌, ◌<◌, ◌≤◌, ◌⊎◌, List, get_or, sym, ap, inl, inr, arith}
use Rattle.std.proofs.lemmas.Bool.{cases_lt}
use Rattle.std.proofs.lemmas.Nat.{mul-add-lt}
use Rattle.std.proofs.Math.Nat.{mul_comm, add-mul, mul-le-mul_right}
use Rattle.sums.specs.Sums.{sum_below}
use Rattle.sums.proofs.SumLemmas.{sum_below-change}
use Rattle.message_bound.specs.Rows.{AreRaised, row_entry, entries_of}

-- the place of another row is not within a row
pub other_row : (w site other label : ℕ) → other ≢ site → label < w
    → (other * w + label < site * w) ⊎ (site * w + w ≤ other * w + label)
other_row w site other label ne l = elim (cases_lt other site) [
  | inl below ↦ inl (omega (arith, mul-add-lt other w label site below l, mul_comm w site))
  | inr above ↦
      let next : site + 1 ≤ other = omega arith in
      inr (omega (arith, mul-le-mul_right w next, add-mul site 1 w))
]

-- where a row is raised, so are the entries of a labelling, by what its label there is raised by
pub entries_raised : (n w site count : ℕ) (by old new : List ℕ) (g : ℕ → ℕ) → site < n → ((p : ℕ) → p < n → g p < w)
    → count ≡ w → AreRaised (site * w) count by old new
    → entries_of n w new g ≡ entries_of n w old g + get_or by (g site) 0
entries_raised n w site count by old new g here labelled size is =
    omega (
      arith,
      sum_below-change n site (λ p. row_entry w old p (g p)) (λ p. row_entry w new p (g p)) here
          (λ p l ne. sym (is.outside (p * w + g p) (elim (other_row w site p (g p) ne (labelled p l)) [
            | inl before ↦ inl before
            | inr behind ↦ inr (omega (arith, behind, size))
          ]))),
      is.inside (g site) (omega (arith, labelled site here, size)),
    )

-- no entry moves further than a number of 32 bits
pub raised_little : (from count : ℕ) (by old new : List ℕ) → ((k : ℕ) → k < count → get_or by k 0 < 2 ^ 32)
    → AreRaised from count by old new
    → (j : ℕ) → (get_or old j 0 ≤ get_or new j 0) × (get_or new j 0 ≤ get_or old j 0 + 2 ^ 32)
raised_little from count by old new small is j = elim (cases_lt j from) [
  | inl before ↦ (let same = is.outside j (inl before) in (omega (arith, same), omega (arith, same)))
  | inr above ↦ elim (cases_lt j (from + count)) [
    | inl within ↦
        let k = j - from in
        let here : from + k ≡ j = omega arith in
        let less : k < count = omega arith in
        let own = is.inside k less in
        let a = ap (λ i. get_or old i 0) here in
        let b = ap (λ i. get_or new i 0) here in
        let c = small k less in
        (omega (arith, own, a, b), omega (arith, own, a, b, c))
    | inr behind ↦ (let same = is.outside j (inr behind) in (omega (arith, same), omega (arith, same)))
  ]
]

-- every entry above the ground, and what each adds to it
pub sum_above : (n base k : ℕ) (f : ℕ → ℕ) → sum_below n (λ p. base + k * f p) ≡ n * base + k * sum_below n f
sum_above zero base k f = omega arith
sum_above (suc n) base k f = omega (arith, sum_above n base k f)
