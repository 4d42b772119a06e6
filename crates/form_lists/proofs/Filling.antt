-- The table of rises, as it is filled.
use Rattle.std.proofs.Common.{◌≡◌, ◌⊎◌, ℕ, ◌+◌, ◌<◌, ◌≤◌, Bool, true, false, List, length, slice_index, ℤ, pos, ◌-ℤ◌, unsigned_abs, ◌∙◌, sym, ap, subst, inl, inr, arith}
use Rattle.std.specs.Prelude.{slice_set}
use Rattle.std.proofs.lemmas.Bool.{cases_eq}
use Rattle.std.proofs.lemmas.Int.{ints}
use Rattle.std.proofs.lemmas.List.{get_or-set_same, get_or-set_other}
use Rattle.move_energy.specs.declared.rises.EndRises.{EndRises}
use Rattle.move_energy.specs.Rising.{entry_place}
use Rattle.site_forms.specs.Fields.{table_cost, unit_rise, rises_in}
use Rattle.site_forms.proofs.Entries.{small_cost}

difference_small : (a b : ℕ) (z : ℤ) → z ≡ pos a -ℤ pos b → a ≤ 10000 → b ≤ 10000 → unsigned_abs z ≤ 10000000
difference_small a b z is l h = omega (arith, ints, is, l, h)

-- a rise of a pair of weight 1 is the difference of two costs
pub unit_small : (stays turns smooth : List ℕ) (first : Bool) (own label : ℕ) (z : ℤ) → ((place : ℕ) → slice_index smooth place ≤ 10000)
    → z ≡ unit_rise stays turns smooth first own label → unsigned_abs z ≤ 10000000
unit_small stays turns smooth first own label z each is =
    difference_small (table_cost smooth first (slice_index turns own) label) (table_cost smooth first (slice_index stays own) label) z is
    (small_cost smooth first (slice_index turns own) label each) (small_cost smooth first (slice_index stays own) label each)

-- no pair rises where an end keeps its label
pub no_rise : (stays turns smooth : List ℕ) (first : Bool) (own label : ℕ) → slice_index turns own ≡ slice_index stays own → pos 0 ≡ unit_rise stays turns smooth first own label
no_rise stays turns smooth first own label same =
    let cost = table_cost smooth first (slice_index stays own) label in
    let none : pos 0 ≡ pos cost -ℤ pos cost = omega (arith, ints) in
    none ∙ ap (λ turned. pos (table_cost smooth first turned label) -ℤ pos cost) (sym same)

-- ---- where they are written

pub place_within : (first : Bool) (own other : ℕ) → own < 64 → other < 64 → entry_place first own other < 8192
place_within true own other l h = omega (arith, l, h)
place_within false own other l h = omega (arith, l, h)

pub row_more : (P : ℕ → EndRises → Type 0) (xs : List EndRises) (base n i : ℕ) (r : EndRises) → i ≡ base + n → i < length xs
    → ((k : ℕ) → k < n → P k (rises_in xs (base + k))) → P n r → (k : ℕ) → k < n + 1 → P k (rises_in (slice_set xs i r) (base + k))
row_more P xs base n i r at l before here k b = elim (cases_eq k n) [
  | inl same ↦
      let place : base + k ≡ i = omega (arith, at, same) in
      let e : rises_in (slice_set xs i r) (base + k) ≡ r = ap (rises_in (slice_set xs i r)) place ∙ get_or-set_same xs i r _ l in
      let Q : EndRises → Type 0 = λ v. P k v in
      let R : ℕ → Type 0 = λ j. P j r in
      subst Q (sym e) (subst R (sym same) here)
  | inr other ↦
      let Q : EndRises → Type 0 = λ v. P k v in
      subst Q (sym (get_or-set_other xs i (base + k) r _ (λ same. other (omega (arith, at, same))))) (before k (omega (arith, b, other)))
]

pub row_others : (xs : List EndRises) (base n i : ℕ) (r : EndRises) → i ≡ base + n → n < 64 → (k : ℕ) → (k < base + 0) ⊎ (base + 64 ≤ k) → rises_in (slice_set xs i r) k ≡ rises_in xs k
row_others xs base n i r at l k (inl before) = get_or-set_other xs i k r _ (λ same. absurd (omega (arith, at, before, same)))
row_others xs base n i r at l k (inr past) = get_or-set_other xs i k r _ (λ same. absurd (omega (arith, at, past, l, same)))

abbrev SameBut : Bool → ℕ → List EndRises → List EndRises → Type 0
SameBut first n xs ys = (k : ℕ) → (k < entry_place first n 0) ⊎ (entry_place first n 64 ≤ k) → rises_in ys k ≡ rises_in xs k

earlier_row : (first : Bool) (own n other : ℕ) → own < n → other < 64 → entry_place first own other < entry_place first n 0
earlier_row true own n other l h = omega (arith, l, h)
earlier_row false own n other l h = omega (arith, l, h)

pub rows_more : (P : Bool → ℕ → ℕ → EndRises → Type 0) (xs ys zs : List EndRises) (n labels : ℕ) → n < 64 → labels ≤ 64 → SameBut true n xs ys → SameBut false n ys zs
    → ((first : Bool) (own other : ℕ) → own < n → other < labels → P first own other (rises_in xs (entry_place first own other)))
    → ((other : ℕ) → other < labels → P true n other (rises_in ys (entry_place true n other)))
    → ((other : ℕ) → other < labels → P false n other (rises_in zs (entry_place false n other)))
    → (first : Bool) (own other : ℕ) → own < n + 1 → other < labels → P first own other (rises_in zs (entry_place first own other))
rows_more P xs ys zs n labels few most one two before first_row second_row true own other l h = elim (cases_eq own n) [
  | inl same ↦
      let Q : EndRises → Type 0 = λ v. P true own other v in
      let R : ℕ → Type 0 = λ u. P true u other (rises_in ys (entry_place true u other)) in
      subst Q (sym (two (entry_place true own other) (inl (omega (arith, same, few, h, most))))) (subst R (sym same) (first_row other h))
  | inr off ↦
      let less : own < n = omega (arith, l, off) in
      let Q : EndRises → Type 0 = λ v. P true own other v in
      subst Q (sym (two (entry_place true own other) (inl (omega (arith, less, few, h, most))) ∙ one (entry_place true own other) (inl (earlier_row true own n other less (omega (arith, h, most))))))
      (before true own other less h)
]
rows_more P xs ys zs n labels few most one two before first_row second_row false own other l h = elim (cases_eq own n) [
  | inl same ↦
      let R : ℕ → Type 0 = λ u. P false u other (rises_in zs (entry_place false u other)) in
      subst R (sym same) (second_row other h)
  | inr off ↦
      let less : own < n = omega (arith, l, off) in
      let Q : EndRises → Type 0 = λ v. P false own other v in
      subst Q (sym (two (entry_place false own other) (inl (earlier_row false own n other less (omega (arith, h, most)))) ∙ one (entry_place false own other) (inr (omega (arith, few)))))
      (before false own other less h)
]
