-- What two labels cost a pair, by the entries of its table.
use Rattle.std.proofs.Common.{◌≡◌, ◌<◌, ◌≤◌, ◌+◌, ◌*◌, ℕ, suc, ℤ, pos, negsuc, ◌≤ℤ◌, List, All, length, take, get_or, unsigned_abs, inl, inr, refl, sym, subst, arith}
use Rattle.std.specs.Prelude.{slice_index_or}
use Rattle.std.proofs.lemmas.Int.{ints}
use Rattle.std.proofs.lemmas.Nat.{mul-le}
use Rattle.std.proofs.lemmas.Bool.{cases_lt}
use Rattle.std.proofs.lemmas.List.{get_or-map}
use Rattle.std.proofs.lemmas.List.Elements.{All-more}
use Rattle.cost_store.specs.Limits.{data_limit, pair_cost_limit}
use Rattle.cost_store.specs.Promises.{IsCost, cost_in}
use Rattle.gco_arrays.proofs.Entries.{place_in}
use Rattle.gco_arrays.specs.PairCalls.{HasPrice, table_number, weight_in}
use Rattle.gco_arrays.specs.PairRefusals.{IsTableTooDear}
use Rattle.gco_arrays.specs.declared.pairs.GcoPair.{GcoPair}

-- a number of 32 bits times an entry fits 64
pub times_fits : (weight entry : ℕ) → weight < 4294967296 → entry ≤ 10000000 → weight * entry < 18446744073709551616
times_fits weight entry light range = omega (arith, mul-le weight entry 4294967295 10000000 (omega (arith, light)) range)

-- a table that is there lies within the tables, and so does each of its rows
pub table_inside : (labels tables number entries : ℕ) → number < tables → entries ≡ (tables * labels) * labels → (number * labels + labels) * labels ≤ entries
table_inside labels tables number entries there is =
    let P : ℕ → Type 0 = λ n. (number * labels + labels) * labels ≤ n in
    subst P (sym is) (mul-le (number * labels + labels) labels (tables * labels) labels (omega (arith, mul-le (suc number) labels tables labels there (omega (arith)))) (omega (arith)))

pub row_inside : (labels row least entries : ℕ) → row < least → least * labels ≤ entries → row * labels + labels ≤ entries
row_inside labels row least entries there is = omega (arith, mul-le (suc row) labels least labels there (omega (arith)), is)

-- an entry that is a cost and at most a number
small : (z : ℤ) (most : ℕ) → pos 0 ≤ℤ z → z ≤ℤ pos most → unsigned_abs z ≤ most
small (pos n) most least greatest = omega (arith, ints, greatest)
small (negsuc n) most least greatest = absurd (omega (arith, ints, least))

pub cost_small : (table : List ℤ) (place n : ℕ) → All (IsCost data_limit) table → place < length table → n ≡ unsigned_abs (slice_index_or table place (pos 0)) → n ≤ 10000000
cost_small table place n costs inside is =
    let cost = costs place (pos 0) inside in omega (arith, is, small _ 10000000 cost.0 cost.1)

large : (z : ℤ) (n greater : ℕ) → pos 0 ≤ℤ z → n ≡ unsigned_abs z → n ≤ greater → z ≤ℤ pos greater
large (pos k) n greater least is own = omega (arith, ints, is, own)
large (negsuc k) n greater least is own = absurd (omega (arith, ints, least))

raised : (z : ℤ) (most greater : ℕ) → z ≤ℤ pos most → most ≤ greater → z ≤ℤ pos greater
raised z most greater below least = omega (arith, ints, below, least)

-- a number that is at least one more entry, and all that those before it are at most
pub most_more : (table : List ℤ) (place n most greater : ℕ) → All (IsCost data_limit) table → place < length table → n ≡ unsigned_abs (slice_index_or table place (pos 0))
    → All (λ cost. cost ≤ℤ pos most) (take place table) → most ≤ greater → n ≤ greater → All (λ cost. cost ≤ℤ pos greater) (take (place + 1) table)
most_more table place n most greater costs inside is below least own =
    let entry = large (slice_index_or table place (pos 0)) n greater (costs place (pos 0) inside).0 is own in
    All-more (λ cost. cost ≤ℤ pos greater) table place (pos 0) inside (λ i d l. raised (slice_index_or (take place table) i d) most greater (below i d l) least) entry

pub cost_most : (labels : ℕ) (tables : List ℤ) (row b most : ℕ) → All (IsCost data_limit) tables → All (λ cost. cost ≤ℤ pos most) tables
    → row * labels + b < length tables → cost_in labels tables row b ≤ most
cost_most labels tables row b most costs below inside =
    small _ most (costs (row * labels + b) (pos 0) inside).0 (below (row * labels + b) (pos 0) inside)

-- the price of a pair whose weight is this one
pub priced_most : (labels table_count : ℕ) (tables : List ℤ) (pairs : List GcoPair) (table_of : List ℕ) (n number weight most : ℕ)
    → length tables ≡ (table_count * labels) * labels → All (IsCost data_limit) tables → All (λ cost. cost ≤ℤ pos most) tables
    → number ≡ table_number table_of n → number < table_count → weight ≡ weight_in pairs n → weight * most ≤ pair_cost_limit
    → HasPrice labels table_count tables pairs table_of n
priced_most labels table_count tables pairs table_of n number weight most size costs below is there weighs light =
    let N : ℕ → Type 0 = λ t. t < table_count in record {
      there = subst N is there;
      within = λ a b la lb.
          let inside = place_in (table_number table_of n * labels + a) b labels (table_count * labels) (length tables)
          (place_in (table_number table_of n) a labels table_count (table_count * labels) (subst N is there) la refl) lb size in
          let cost = cost_most labels tables (table_number table_of n * labels + a) b most costs below inside in
          let W : ℕ → Type 0 = λ w. w * cost_in labels tables (table_number table_of n * labels + a) b ≤ pair_cost_limit in
          subst W weighs (omega (arith, mul-le weight (cost_in labels tables (table_number table_of n * labels + a) b) weight most (omega (arith)) cost, light));
    }

pub priced_table : (labels table_count : ℕ) (tables : List ℤ) (pairs : List GcoPair) (table_of : List ℕ) (n number weight : ℕ)
    → number ≡ table_number table_of n → number < table_count → weight ≡ weight_in pairs n → ¬ IsTableTooDear labels tables number weight
    → HasPrice labels table_count tables pairs table_of n
priced_table labels table_count tables pairs table_of n number weight is there weighs cheap =
    let N : ℕ → Type 0 = λ t. t < table_count in
    let P : ℕ → Type 0 = λ t. (a b : ℕ) → a < labels → b < labels → weight_in pairs n * cost_in labels tables (t * labels + a) b ≤ pair_cost_limit in
    let W : ℕ → Type 0 = λ w. (a b : ℕ) → a < labels → b < labels → w * cost_in labels tables (number * labels + a) b ≤ pair_cost_limit in record {
      there = subst N is there;
      within = subst P is (subst W weighs (λ a b la lb. elim (cases_lt pair_cost_limit (weight * cost_in labels tables (number * labels + a) b)) [
        | inl above ↦ absurd (cheap (a, la, (b, lb, above)))
        | inr within ↦ within
      ]));
    }

-- the refusal of a pair whose weight is this one
pub too_dear : (labels : ℕ) (tables : List ℤ) (pairs : List GcoPair) (table_of : List ℕ) (n number weight : ℕ)
    → number ≡ table_number table_of n → weight ≡ weight_in pairs n → IsTableTooDear labels tables number weight
    → IsTableTooDear labels tables (table_number table_of n) (weight_in pairs n)
too_dear labels tables pairs table_of n number weight is weighs dear =
    let N : ℕ → Type 0 = λ t. IsTableTooDear labels tables t weight in
    let W : ℕ → Type 0 = λ w. IsTableTooDear labels tables (table_number table_of n) w in subst W weighs (subst N is dear)

-- what holds of each number below n and of n
pub one_more : (P : ℕ → Type 0) (n : ℕ) → ((i : ℕ) → i < n → P i) → P n → (i : ℕ) → i < n + 1 → P i
one_more P n below own i l = elim (cases_lt i n) [
  | inl inside ↦ below i inside
  | inr beyond ↦ (let same : n ≡ i = omega (arith, l, beyond) in subst P same own)
]

-- a product that is within the limit, by other names of its numbers
pub times_is : (a weight b entry : ℕ) → a ≡ weight → b ≡ entry → a * b ≤ 10000000 → weight * entry ≤ pair_cost_limit
times_is a weight b entry same is within =
    let P : ℕ → Type 0 = λ n. n * entry ≤ pair_cost_limit in
    let Q : ℕ → Type 0 = λ n. a * n ≤ pair_cost_limit in subst P same (subst Q is within)

-- the weight of the pair at a place
pub weight_at : (pairs : List GcoPair) (n : ℕ) (d : GcoPair) → n < length pairs → (get_or pairs n d).weight ≡ weight_in pairs n
weight_at pairs n d inside = sym (get_or-map (λ (pair : GcoPair). pair.weight) pairs n d 0 inside)
