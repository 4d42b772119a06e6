-- The least and the greatest cost, cost by cost.
use Rattle.std.proofs.Common.{◌≡◌, ◌≢◌, ◌⊎◌, ℕ, ◌+◌, ◌<◌, ◌≤◌, refl, sym, ◌∙◌, inl, inr, subst, arith}
use Rattle.std.proofs.lemmas.Bool.{cases_lt}
use Rattle.label_energies.specs.Energies.{IsRatio}
use Rattle.cost_store.specs.declared.ratio.Ratio.{Ratio}
use Rattle.cost_store.specs.Ratios.{IsRatioSoFar, IsWithCost}

abbrev Met : ℕ → (ℕ → ℕ → ℕ) → ℕ → Type 0
Met k cost value = (a : ℕ) × (b : ℕ) × (a < k) × (b < k) × (a ≢ b) × (cost a b ≡ value)

met_by : (k : ℕ) (cost : ℕ → ℕ → ℕ) (old new value row column : ℕ) → row < k → column < k → row ≢ column → cost row column ≡ value → (new ≡ old) ⊎ (new ≡ value)
    → Met k cost old → Met k cost new
met_by k cost old new value row column lr lc apart is (inl same) met = (met.0, met.1, met.2, met.3, met.4, met.5 ∙ sym same)
met_by k cost old new value row column lr lc apart is (inr own) met = (row, column, lr, lc, apart, is ∙ sym own)

-- a cost of two unequal labels more
pub ratio_more : (k : ℕ) (cost : ℕ → ℕ → ℕ) (row column value : ℕ) (old new : Ratio) → row < k → column < k → row ≢ column → cost row column ≡ value → IsWithCost old new value
    → new.least ≤ new.greatest → IsRatioSoFar k cost row column old → IsRatioSoFar k cost row (column + 1) new
ratio_more k cost row column value old new lr lc apart is wider ordered so_far = record {
  ordered = ordered;
  rows = λ a b l m other.
      let within = so_far.rows a b l m other in
      (omega (arith, within.0, wider.least_old), omega (arith, within.1, wider.greatest_old));
  here = λ b l other. elim (cases_lt b column) [
    | inl before ↦
        let within = so_far.here b before other in
        (omega (arith, within.0, wider.least_old), omega (arith, within.1, wider.greatest_old))
    | inr not_before ↦
        let same : column ≡ b = omega (arith, l, not_before) in
        let P : ℕ → Type 0 = λ c. (new.least ≤ cost row c) × (cost row c ≤ new.greatest) in
        subst P same (omega (arith, is, wider.least_new), omega (arith, is, wider.greatest_new))
  ];
  least_met = met_by k cost old.least new.least value row column lr lc apart is wider.least_is so_far.least_met;
  greatest_met = met_by k cost old.greatest new.greatest value row column lr lc apart is wider.greatest_is so_far.greatest_met;
}

-- two equal labels
pub ratio_same : (k : ℕ) (cost : ℕ → ℕ → ℕ) (row column : ℕ) (ratio : Ratio) → row ≡ column → IsRatioSoFar k cost row column ratio → IsRatioSoFar k cost row (column + 1) ratio
ratio_same k cost row column ratio equal so_far = record {
  ordered = so_far.ordered;
  rows = so_far.rows;
  here = λ b l other. elim (cases_lt b column) [
    | inl before ↦ so_far.here b before other
    | inr not_before ↦ absurd (other (omega (arith, equal, l, not_before)))
  ];
  least_met = so_far.least_met;
  greatest_met = so_far.greatest_met;
}

-- a whole row
pub ratio_row : (k : ℕ) (cost : ℕ → ℕ → ℕ) (row : ℕ) (ratio : Ratio) → IsRatioSoFar k cost row k ratio → IsRatioSoFar k cost (row + 1) 0 ratio
ratio_row k cost row ratio so_far = record {
  ordered = so_far.ordered;
  rows = λ a b l m other. elim (cases_lt a row) [
    | inl before ↦ so_far.rows a b before m other
    | inr not_before ↦
        let same : row ≡ a = omega (arith, l, not_before) in
        let P : ℕ → Type 0 = λ r. (ratio.least ≤ cost r b) × (cost r b ≤ ratio.greatest) in
        subst P same (so_far.here b m (λ equal. other (sym same ∙ equal)))
  ];
  here = λ b l other. absurd (omega (arith, l));
  least_met = so_far.least_met;
  greatest_met = so_far.greatest_met;
}

-- before the first row
pub ratio_starts : (k : ℕ) (cost : ℕ → ℕ → ℕ) (ratio : Ratio) → 2 ≤ k → cost 0 1 ≡ ratio.least → ratio.greatest ≡ ratio.least → IsRatioSoFar k cost 0 0 ratio
ratio_starts k cost ratio some is same = record {
  ordered = omega (arith, same);
  rows = λ a b l m other. absurd (omega (arith, l));
  here = λ b l other. absurd (omega (arith, l));
  least_met = (0, 1, omega (arith, some), omega (arith, some), (λ equal. omega (arith, equal)), is);
  greatest_met = (0, 1, omega (arith, some), omega (arith, some), (λ equal. omega (arith, equal)), is ∙ sym same);
}

-- all rows
pub ratio_all : (k : ℕ) (cost : ℕ → ℕ → ℕ) (row : ℕ) (ratio : Ratio) → 2 ≤ k → k ≤ row → IsRatioSoFar k cost row 0 ratio → IsRatio k cost ratio.least ratio.greatest
ratio_all k cost row ratio some whole so_far = record {
  ordered = so_far.ordered;
  within = λ a b la lb other. so_far.rows a b (omega (arith, la, whole)) lb other;
  least_met = λ two. so_far.least_met;
  greatest_met = λ two. so_far.greatest_met;
  alone = λ one. absurd (omega (arith, one, some));
}

pub ratio_alone : (k : ℕ) (cost : ℕ → ℕ → ℕ) → k ≤ 1 → IsRatio k cost 1 1
ratio_alone k cost one = record {
  ordered = omega arith;
  within = λ a b la lb other. absurd (other (omega (arith, la, lb, one)));
  least_met = λ two. absurd (omega (arith, one, two));
  greatest_met = λ two. absurd (omega (arith, one, two));
  alone = λ alone. (refl, refl);
}
