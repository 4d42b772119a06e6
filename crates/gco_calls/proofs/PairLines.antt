-- What is known of the arrays of a call whose pairs have costs of their own, line by line of its
-- tables.
use Rattle.std.proofs.Common.{◌≡◌, ◌<◌, ◌≤◌, ◌+◌, ◌*◌, ◌/◌, ◌%◌, ◌∙◌, ℕ, ℤ, pos, List, length, map, Result, refl, sym, ap, subst, arith}
use Rattle.std.proofs.lemmas.Int.{ints}
use Rattle.std.proofs.lemmas.List.{length-map}
use Rattle.std.proofs.lemmas.Nat.{div-mul-add, div_below, mod-mul-add, mod_below}
use Rattle.label_field.specs.PairLists.{PairList}
use Rattle.cost_store.specs.LabelCosts.{costs_of}
use Rattle.cost_store.specs.Limits.{pair_cost_limit}
use Rattle.cost_store.specs.Promises.{IsCost}
use Rattle.one_move.specs.declared.error.MoveError.{MoveError}
use Rattle.gco_arrays.specs.Calls.{call_arrays, pair_from_c}
use Rattle.gco_arrays.specs.PairCalls.{ArePartsOfCall, IsPairCallGiven, IsPriceIn, PairCall, instance_of_call, own_cost, pair_call}
use Rattle.gco_arrays.specs.declared.pairs.GcoPair.{GcoPair}
use Rattle.gco_arrays.specs.declared.ready.Ready.{Ready}
use Rattle.gco_arrays.proofs.Entries.{place_in}
use Rattle.dual_bound.specs.declared.bound.LowerBound.{LowerBound}
use Rattle.dual_bound.specs.declared.error.BoundError.{BoundError}
use Rattle.gco_calls.specs.Bounds.{AnswersBound}
use Rattle.gco_calls.specs.PairRuns.{AnswersAsked}
use Rattle.gco_calls.specs.declared.asked.Asked.{Asked}
use Rattle.gco_calls.specs.declared.asked.Made.{Made}

-- the cost of a line and a column is there, and within the limit
pub line_priced : (a : PairCall) (line second : ℕ) → IsPairCallGiven a → line < length a.arrays.pairs * a.arrays.label_count → second < a.arrays.label_count
    → IsPriceIn a.arrays.label_count a.arrays.smooth_costs a.arrays.pairs a.table_of (line / a.arrays.label_count) (line % a.arrays.label_count) second
line_priced a line second given inside column =
    let k = a.arrays.label_count in
    let some : 0 < k = omega (arith, column) in
    let pair = div_below line k (length a.arrays.pairs) some inside in
    let first = mod_below line k some in
    let priced = given.priced (line / k) pair in
    record {
      few = given.rest.sizes.2;
      pair = pair;
      numbers = given.counted.numbers_are;
      inside = place_in _ second k (a.table_count * k) (length a.arrays.smooth_costs) (place_in _ (line % k) k a.table_count (a.table_count * k) priced.there first refl) column given.counted.tables_are;
      within = priced.within (line % k) second first column;
    }

-- the line of a pair and a label is theirs
pub line_is : (labels : ℕ) (tables : List ℤ) (pairs : List GcoPair) (table_of : List ℕ) (n a b : ℕ) (z : ℤ) → a < labels
    → z ≡ pos (own_cost labels tables pairs table_of ((n * labels + a) / labels) ((n * labels + a) % labels) b) → z ≡ pos (own_cost labels tables pairs table_of n a b)
line_is labels tables pairs table_of n a b z inside is =
    is ∙ (λ i. pos (own_cost labels tables pairs table_of (div-mul-add n labels a inside i) (mod-mul-add n labels a inside i) b))

-- the call whose label costs and start are those of the parts
abbrev pub call_of_parts : PairCall → Ready → PairCall
call_of_parts a ready =
    pair_call (call_arrays ready.start.labels a.arrays.data_costs a.arrays.smooth_costs (costs_of ready.label_costs) a.arrays.pairs ready.start.at) a.table_count a.table_of

same_call : (a : PairCall) (ready : Ready) → ArePartsOfCall a ready → call_of_parts a ready ≡ a
same_call a ready is =
    (λ i. pair_call (call_arrays ((is.start_is i).labels) a.arrays.data_costs a.arrays.smooth_costs (is.costs_are i) a.arrays.pairs ((is.start_is i).at)) a.table_count a.table_of)

pub parts_of_parts : (a : PairCall) (ready : Ready) → ArePartsOfCall a ready → ArePartsOfCall (call_of_parts a ready) ready
parts_of_parts a ready is = (let P : PairCall → Type 0 = λ c. ArePartsOfCall c ready in subst P (sym (same_call a ready is)) is)

-- what is answered of the parts is answered of what the call was given
pub asked_given : (a : PairCall) (ready : Ready) (asked : Asked) (r : Result Made MoveError) → ArePartsOfCall a ready
    → AnswersAsked (instance_of_call (call_of_parts a ready)) asked ready.start.at r → AnswersAsked (instance_of_call a) asked a.arrays.start r
asked_given a ready asked r is answers =
    let P : PairCall → Type 0 = λ c. AnswersAsked (instance_of_call c) asked c.arrays.start r in subst P (same_call a ready is) answers

pub bound_of_call : (a : PairCall) (ready : Ready) (allowed : ℕ) (r : Result LowerBound BoundError) → ArePartsOfCall a ready
    → AnswersBound (instance_of_call (call_of_parts a ready)) allowed r → AnswersBound (instance_of_call a) allowed r
bound_of_call a ready allowed r is answers =
    let P : PairCall → Type 0 = λ c. AnswersBound (instance_of_call c) allowed r in subst P (same_call a ready is) answers

-- how many pairs and sites the parts have
pub parts_pairs : (a : PairCall) (ready : Ready) → ArePartsOfCall a ready → ready.pairs.list ≡ map pair_from_c a.arrays.pairs
parts_pairs a ready is = ap (λ (p : PairList). p.list) is.pairs_are

pub parts_count : (a : PairCall) (ready : Ready) → ArePartsOfCall a ready → length ready.pairs.list ≡ length a.arrays.pairs
parts_count a ready is = ap length (parts_pairs a ready is) ∙ length-map a.arrays.pairs pair_from_c

pub parts_sites : (a : PairCall) (ready : Ready) → ArePartsOfCall a ready → ready.pairs.sites ≡ length a.arrays.start
parts_sites a ready is = ap (λ (p : PairList). p.sites) is.pairs_are

-- the same where the numbers of labels and pairs go by other names
pub line_at : (a : PairCall) (ready : Ready) (k count line second : ℕ) → ArePartsOfCall a ready → k ≡ a.arrays.label_count → count ≡ length ready.pairs.list
    → line < count * k → second < k → IsPriceIn k a.arrays.smooth_costs a.arrays.pairs a.table_of (line / k) (line % k) second
line_at a ready k count line second is labels counted inside column =
    let P : ℕ → Type 0 = λ n. IsPriceIn n a.arrays.smooth_costs a.arrays.pairs a.table_of (line / n) (line % n) second in
    let L : ℕ → Type 0 = λ n. line < n in
    subst P (sym labels) (line_priced a line second is.given (subst L (λ i. (counted ∙ parts_count a ready is) i * labels i) inside) (omega (arith, column, labels)))

-- a cost that is within the limit
pub within_cost : (n : ℕ) (z : ℤ) → z ≡ pos n → n ≤ pair_cost_limit → IsCost (pos pair_cost_limit) z
within_cost n z is within = (let P : ℤ → Type 0 = λ y. IsCost (pos pair_cost_limit) y in subst P (sym is) (omega (arith, ints), omega (arith, ints, within)))
