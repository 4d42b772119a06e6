-- The parts of a problem that a call makes of its arrays and its tables are its problem.
use Rattle.std.proofs.Common.{◌≡◌, ◌<◌, ◌∙◌, ℕ, ℤ, List, [], All, length, map, sym, subst, inr, None}
use Rattle.std.proofs.lemmas.List.{length-map}
use Rattle.label_field.specs.PairLists.{IsPairList}
use Rattle.cost_store.specs.Limits.{data_limit}
use Rattle.cost_store.specs.Promises.{IsCost}
use Rattle.cost_store.specs.LabelCosts.{costs_of}
use Rattle.gco_arrays.specs.Calls.{AreCostsInRange, arrays_with, list_given}
use Rattle.gco_arrays.specs.PairCalls.{ArePartsOfCall, AreTablesCounted, HasPrice, IsRestCounted, PairCall, pair_call_with}
use Rattle.gco_arrays.specs.PairRefusals.{ArePairsPriced, IsPairCallRefusal}
use Rattle.gco_arrays.specs.declared.prices.PairPrices.{PairPrices}
use Rattle.gco_arrays.specs.declared.ready.Ready.{Ready}
use Rattle.gco_arrays.specs.declared.refusal.Refusal.{Refusal}
use Rattle.gco_arrays.specs.declared.refusal.Refusal.TheVariants as why
use Rattle.gco_arrays.specs.declared.tables.PairArrays.{PairArrays}
use Rattle.gco_arrays.proofs.Parts.{kept_costs}

-- all but the start is in order
pub priced_call : {N : Type 0} (value : N → ℤ) (given : PairArrays N) (at : List ℕ) (number : ℕ) (prices : PairPrices N)
    → number ≡ length at → IsRestCounted (arrays_with value given.arrays at)
    → AreTablesCounted given.arrays.label_count given.table_count (length given.arrays.smooth.now) (length given.arrays.pairs.now) (length given.table_of.now)
    → AreCostsInRange (map value given.arrays.«data».now) [] (map value given.arrays.label_costs.now)
    → All (IsCost data_limit) (map value given.arrays.smooth.now) → IsPairList (list_given number given.arrays.pairs.now)
    → prices ≡ record { labels = given.arrays.label_count; tables = given.arrays.smooth; pairs = given.arrays.pairs; table_of = given.table_of }
    → ((n : ℕ) → n < length prices.pairs.now → HasPrice prices.labels given.table_count (map value prices.tables.now) prices.pairs.now prices.table_of.now n)
    → ArePairsPriced (pair_call_with value given at)
priced_call {N} value given at number prices sites rest counted ranges entries listed same priced =
    let L : ℕ → Type 0 = λ n. IsPairList (list_given n given.arrays.pairs.now) in
    let P : PairPrices N → Type 0 = λ p.
    (n : ℕ) → n < length p.pairs.now → HasPrice p.labels given.table_count (map value p.tables.now) p.pairs.now p.table_of.now n in
    let long : AreTablesCounted given.arrays.label_count given.table_count (length (map value given.arrays.smooth.now)) (length given.arrays.pairs.now) (length given.table_of.now) =
    record { tables_are = length-map given.arrays.smooth.now value ∙ counted.tables_are; numbers_are = counted.numbers_are } in
    (((((rest, long), ranges), entries), subst L sites listed), subst P same priced)

-- memory that was wanting at the end
pub late_refused : (a : PairCall) (refusal : Refusal) → ArePairsPriced a → refusal ≡ why.OutOfMemory → IsPairCallRefusal a refusal
late_refused a refusal priced is =
    let P : Refusal → Type 0 = λ r. IsPairCallRefusal a r in
    subst P (sym is) (inr (inr (inr (inr (inr (inr (priced, tt)))))))

-- the parts that were made of arrays that are in order
pub pair_ready_is : (a : PairCall) (number : ℕ) (ready : Ready) → number ≡ length a.arrays.start → ArePairsPriced a
    → ready.pairs ≡ list_given number a.arrays.pairs
    → ready.start ≡ record { labels = a.arrays.label_count; at = a.arrays.start } → All (λ label. label < a.arrays.label_count) a.arrays.start
    → costs_of ready.label_costs ≡ a.arrays.label_costs → (length a.arrays.label_costs ≡ 0 → ready.label_costs ≡ None) → ArePartsOfCall a ready
pair_ready_is a number ready sites priced pairs_are start_is below costs_are none =
    let L : ℕ → Type 0 = λ n. ready.pairs ≡ list_given n a.arrays.pairs in
    let ranges = priced.0.0.0.1 in
    let rest = priced.0.0.0.0.0 in
    record {
      given = record {
        rest = rest;
        counted = priced.0.0.0.0.1;
        data_range = ranges.data_range;
        table_range = priced.0.0.1;
        label_range = ranges.label_range;
        pairs = priced.0.1;
        priced = priced.1;
        start = below;
      };
      pairs_are = subst L sites pairs_are;
      start_is = start_is;
      costs_are = costs_are;
      costs_kept = kept_costs a.arrays.label_count ready.label_costs a.arrays.label_costs costs_are none rest.costs_are ranges.label_range;
    }
