-- The parts of a problem that a call makes are its problem.
use Rattle.std.proofs.Common.{◌≡◌, ◌⊎◌, ◌<◌, ◌*◌, ◌∙◌, ℕ, ℤ, pos, List, All, length, sym, ap, subst, inl, inr, Option, Some, None}
use Rattle.std.specs.Global.{Vec}
use Rattle.label_field.specs.LabelFields.{LabelField}
use Rattle.label_field.specs.PairLists.{PairList, IsPairList}
use Rattle.cost_store.specs.Limits.{data_limit, smooth_limit, label_cost_limit}
use Rattle.cost_store.specs.Promises.{IsCost}
use Rattle.cost_store.specs.LabelCosts.{AreLabelCosts, costs_of}
use Rattle.gco_arrays.specs.Calls.{CallArrays, AreCostsInRange, AreLong, ArePartsOf, list_given}
use Rattle.gco_arrays.specs.declared.ready.Ready.{Ready}

sites_of : (a : CallArrays) (ready : Ready) → ArePartsOf a ready → length a.start ≡ ready.pairs.sites
sites_of a ready is = sym (ap (λ (p : PairList). p.sites) is.pairs_are)

labels_of : (a : CallArrays) (ready : Ready) → ArePartsOf a ready → a.label_count ≡ ready.start.labels
labels_of a ready is = sym (ap (λ (s : LabelField). s.labels) is.start_is)

pub ready_sites : (a : CallArrays) (ready : Ready) → ArePartsOf a ready → length ready.start.at ≡ ready.pairs.sites
ready_sites a ready is = ap (λ (s : LabelField). length s.at) is.start_is ∙ sites_of a ready is

pub ready_data : (a : CallArrays) (ready : Ready) → ArePartsOf a ready
    → (length a.data_costs ≡ ready.pairs.sites * ready.start.labels) × All (IsCost data_limit) a.data_costs
ready_data a ready is =
    (is.given.tables.long.data_is ∙ (λ i. sites_of a ready is i * labels_of a ready is i), is.given.tables.ranges.data_range)

pub ready_smooth : (a : CallArrays) (ready : Ready) → ArePartsOf a ready
    → (length a.smooth_costs ≡ ready.start.labels * ready.start.labels) × All (IsCost smooth_limit) a.smooth_costs
ready_smooth a ready is =
    (is.given.tables.long.smooth_is ∙ (λ i. labels_of a ready is i * labels_of a ready is i), is.given.tables.ranges.smooth_range)

pub ready_costs : (a : CallArrays) (ready : Ready) → ArePartsOf a ready → AreLabelCosts ready.start.labels ready.label_costs
ready_costs a ready is = (let P : ℕ → Type 0 = λ k. AreLabelCosts k ready.label_costs in subst P (labels_of a ready is) is.costs_kept)

pub kept_costs : (labels : ℕ) (costs : Option (Vec ℤ)) (given : List ℤ) → costs_of costs ≡ given → (length given ≡ 0 → costs ≡ None)
    → (length given ≡ 0) ⊎ (length given ≡ labels) → All (IsCost (pos label_cost_limit)) given → AreLabelCosts labels costs
kept_costs labels None given is none count each = tt
kept_costs labels (Some costs) given is none (inl empty) each = absurd (let e : Some costs ≡ None = none empty in cc)
kept_costs labels (Some costs) given is none (inr count) each =
    (let P : List ℤ → Type 0 = λ xs. All (IsCost (pos label_cost_limit)) xs in (ap length is ∙ count, subst P (sym is) each))

-- the parts that were made of arrays that are in order
pub ready_is : (a : CallArrays) (number : ℕ) (ready : Ready) → number ≡ length a.start → AreLong a → AreCostsInRange a.data_costs a.smooth_costs a.label_costs
    → ready.pairs ≡ list_given number a.pairs → IsPairList (list_given number a.pairs)
    → ready.start ≡ record { labels = a.label_count; at = a.start } → All (λ label. label < a.label_count) a.start
    → costs_of ready.label_costs ≡ a.label_costs → (length a.label_costs ≡ 0 → ready.label_costs ≡ None) → ArePartsOf a ready
ready_is a number ready sites long ranges pairs_are pairs start_is below costs_are none =
    let L : ℕ → Type 0 = λ n. ready.pairs ≡ list_given n a.pairs in
    let P : ℕ → Type 0 = λ n. IsPairList (list_given n a.pairs) in
    record {
      given = record { tables = record { long = long; ranges = ranges }; pairs = subst P sites pairs; start = below };
      pairs_are = subst L sites pairs_are;
      start_is = start_is;
      costs_are = costs_are;
      costs_kept = kept_costs a.label_count ready.label_costs a.label_costs costs_are none long.costs_are ranges.label_range;
    }
