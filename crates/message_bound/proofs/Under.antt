-- Rows stay under the energy while messages are passed.
use Rattle.std.proofs.Common.{◌≡◌, ℕ, ◌+◌, ◌-◌, ◌*◌, ◌/◌, ◌%◌, ◌^◌, ◌<◌, ◌≤◌, List, length, take, get_or, sym, ap, ◌∙◌, subst, arith, w64, to_z}
use Rattle.std.specs.Prelude.{slice_get, Some}
use Rattle.std.specs.List.{sum_by}
use Rattle.std.proofs.lemmas.Int.{ints, to_z_pos}
use Rattle.std.proofs.lemmas.Nat.{mul-add-lt, div-mul-add, mod-mul-add}
use Rattle.std.proofs.lemmas.List.{take_all}
use Rattle.std.proofs.lemmas.List.Sums.{sum_by_more}
use Rattle.std.proofs.lemmas.Option.{get_or_from_slice_get}
use Rattle.std.proofs.Math.Nat.{mul_comm}
use Rattle.sums.proofs.SumLemmas.{sum_below-same}
use Rattle.label_field.specs.declared.pair.Pair.{Pair}
use Rattle.label_energies.specs.Energies.{Instance, energy, data_energy, pair_cost}
use Rattle.message_bound.specs.Rows.{ground, AreRaised, row_entry, entries_of}
use Rattle.message_bound.specs.Costs.{parts}
use Rattle.message_bound.specs.PairTables.{ArePairCosts}
use Rattle.message_bound.specs.Bounds.{ArePaid, AreUnder, IsLowerBound}
use Rattle.message_bound.proofs.Entries.{entries_raised, sum_above}

-- the costs of the sites alone
pub first_under : (m : Instance) (n w : ℕ) (rows : List ℕ) → m.sites ≡ n → m.labels ≡ w
    → ((j : ℕ) → j < n * w → get_or rows j 0 ≡ ground + parts * m.data_cost (j / w) (j % w)) → AreUnder m 0 rows
first_under m n w rows sites labels each g labelled =
    let own = λ (p : ℕ) (l : p < m.sites).
    let lp : p < n = omega (arith, l, sites) in
    let lg : g p < w = omega (arith, labelled p l, labels) in
    let at = each (p * w + g p) (omega (arith, mul-add-lt p w (g p) n lp lg, mul_comm n w)) in
    let C : ℕ → ℕ → ℕ = λ a b. ground + parts * m.data_cost a b in
    at ∙ (λ i. C (div-mul-add p w (g p) lg i) (mod-mul-add p w (g p) lg i)) in
    let total : entries_of m.sites w rows g ≡ m.sites * ground + parts * data_energy m g =
    sum_below-same m.sites (λ p. row_entry w rows p (g p)) (λ p. ground + parts * m.data_cost p (g p)) own
    ∙ sum_above m.sites ground parts (λ p. m.data_cost p (g p)) in
    let P : ℕ → Type 0 = λ k. entries_of m.sites k rows g ≤ m.sites * ground + parts * (data_energy m g + 0) in
    subst P (sym labels) (omega (arith, total))

-- one message passed
pub passed : (m : Instance) (index n w c d e times : ℕ) (pair : Pair) (list : List Pair) (costs taken given added old low mid new : List ℕ)
    → m.sites ≡ n → m.labels ≡ w → m.pairs ≡ list → ArePairCosts m w pair.weight costs times → index < length list → slice_get list index ≡ Some pair
    → pair.first < n → pair.second < n → c ≡ w → e ≡ w → d ≡ w
    → AreRaised (pair.first * w) c taken low old → AreRaised (pair.first * w) e given low mid → AreRaised (pair.second * w) d added mid new
    → ArePaid w (λ a b. times * get_or costs (a * w + b) 0) added taken given → AreUnder m index old → AreUnder m (index + 1) new
passed m index n w c d e times pair list costs taken given added old low mid new sites labels pairs are within here first second cw ew dw lowered gave raised paid under g labelled =
    let lf : pair.first < m.sites = omega (arith, first, sites) in
    let ls : pair.second < m.sites = omega (arith, second, sites) in
    let each = λ (p : ℕ) (l : p < m.sites). let h : g p < w = omega (arith, labelled p l, labels) in h in
    let before = entries_raised m.sites w pair.first c taken low old g lf each cw lowered in
    let between = entries_raised m.sites w pair.first e given low mid g lf each ew gave in
    let behind = entries_raised m.sites w pair.second d added mid new g ls each dw raised in
    let due = paid (g pair.first) (g pair.second) (each pair.first lf) (each pair.second ls) in
    let entry_is = are (g pair.first) (g pair.second) (each pair.first lf) (each pair.second ls) in
    let inside : index < length m.pairs = omega (arith, within, ap (λ (ps : List Pair). length ps) pairs) in
    let read : get_or m.pairs index pair ≡ pair = ap (λ (ps : List Pair). get_or ps index pair) pairs ∙ get_or_from_slice_get list index pair pair here in
    let more = sum_by_more (pair_cost m g) m.pairs index pair inside in
    let cost : pair_cost m g (get_or m.pairs index pair) ≡ m.smooth_cost pair.weight (g pair.first) (g pair.second) = ap (pair_cost m g) read in
    let P : ℕ → Type 0 = λ k. entries_of m.sites k old g ≤ m.sites * ground + parts * (data_energy m g + sum_by (pair_cost m g) (take index m.pairs)) in
    let was = subst P labels (under g labelled) in
    let Q : ℕ → Type 0 = λ k. entries_of m.sites k new g ≤ m.sites * ground + parts * (data_energy m g + sum_by (pair_cost m g) (take (index + 1) m.pairs)) in
    subst Q (sym labels) (omega (arith, before, between, behind, due, entry_is, more, cost, was))

-- what is under the energy, in whole units
pub bound_is : (m : Instance) (n w count low : ℕ) (list : List Pair) (rows : List ℕ)
    → m.sites ≡ n → m.labels ≡ w → m.pairs ≡ list → AreUnder m (length list) rows
    → ((g : ℕ → ℕ) → ((p : ℕ) → p < n → g p < w) → count ≤ entries_of n w rows g - n * ground)
    → ((units : ℕ) → count ≤ parts * units → low ≤ units) → low < 2 ^ 63 → IsLowerBound m (to_z w64 low)
bound_is m n w count low list rows sites labels pairs under least units small g labelled =
    let each = λ (p : ℕ) (l : p < n). let h : g p < w = omega (arith, labelled p (omega (arith, l, sites)), labels) in h in
    let all : take (length list) m.pairs ≡ m.pairs = take_all (length list) m.pairs (omega (arith, ap (λ (ps : List Pair). length ps) pairs)) in
    let P : List Pair → Type 0 = λ ps. entries_of m.sites m.labels rows g ≤ m.sites * ground + parts * (data_energy m g + sum_by (pair_cost m g) ps) in
    let Q : ℕ → ℕ → Type 0 = λ a b. entries_of a b rows g ≤ a * ground + parts * (data_energy m g + sum_by (pair_cost m g) m.pairs) in
    let was = subst P all (under g labelled) in
    let R : ℕ → Type 0 = λ a. Q a w in
    let is = subst R sites (subst (Q m.sites) labels was) in
    let fits = units (energy m g) (omega (arith, least g each, is)) in
    omega (arith, ints, fits, to_z_pos w64 low small)
