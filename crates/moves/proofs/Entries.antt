-- Entries of the table of smooth costs, and what a refused run over a metric tells.
use Rattle.std.proofs.Common.{◌≡◌, ℕ, ◌+◌, ◌*◌, ◌<◌, ◌≤◌, List, length, All, ℤ, pos, negsuc, ◌≤ℤ◌, unsigned_abs, Err, refl, sym, ap, ◌∙◌, subst, inl, inr, arith, get_or, slice_index}
use Rattle.std.proofs.lemmas.Int.{ints}
use Rattle.std.proofs.lemmas.Nat.{mul-add-lt}
use Rattle.std.proofs.Math.Nat.{mul_comm}
use Rattle.cost_store.specs.Promises.{IsCost, IsMetricTable, IsTable, cost_in, entry_at}
use Rattle.cost_store.proofs.Metrics.{table_of_metric}
use Rattle.label_field.specs.LabelFields.{LabelField}
use Rattle.label_energies.specs.declared.change.Move.{Move}
use Rattle.label_energies.specs.Energies.{Instance, IsInstance, IsMetric, HasMetric, IsWeighted}
use Rattle.label_energies.proofs.Metric.{one_table}
use Rattle.moves.specs.Instances.{data_entry}
use Rattle.run_steps.specs.Problems.{IsRunOfCycles, TellsPairNotRegular}
use Rattle.one_move.specs.declared.error.MoveError.{MoveError}
use Rattle.moves.proofs.Refused.{metric_refusal}

pub place_in : (a b k n len : ℕ) → a < n → b < k → len ≡ n * k → a * k + b < len
place_in a b k n len la lb size = omega (arith, mul-add-lt a k b n la lb, mul_comm n k, size)

-- a closure that reads a table of costs in range may be called everywhere, and answers costs in
-- range
pub smooth_keeps : (most : ℤ) (table : List ℤ) (n k : ℕ) → length table ≡ n * k → k ≤ 256 → All (IsCost most) table
    → (a b : ℕ) → a < n → b < k
    → ((a * k + b < length table) × (k ≤ 256)) × ((z : ℤ) → z ≡ entry_at k table a b → IsCost most z)
smooth_keeps most table n k size small costs a b la lb =
    let inside = place_in a b k n (length table) la lb size in
    let P : ℤ → Type 0 = λ y. IsCost most y in
    ((inside, small), λ z is. subst P (sym is) (costs (a * k + b) (pos 0) inside))

not_below : (z : ℤ) → pos 0 ≤ℤ z → z ≡ pos (unsigned_abs z)
not_below (pos n) h = refl
not_below (negsuc n) h = absurd (omega (arith, ints, h))

-- a list of costs is the table of its entries
pub table_of_costs : (most : ℤ) (table : List ℤ) (k : ℕ) → length table ≡ k * k → All (IsCost most) table → IsTable k k (cost_in k table) table
table_of_costs most table k size costs = record {
  size = size;
  each = λ a b la lb. not_below (entry_at k table a b) (costs (a * k + b) (pos 0) (place_in a b k k (length table) la lb size)).0;
}

pub below_along : (b k l : ℕ) → b < k → k ≡ l → b < l
below_along b k l h e = omega (arith, h, e)

pub smooth_along : (table : List ℤ) (a b : ℕ) (z : ℤ) (k l : ℕ) → k ≡ l → z ≡ entry_at k table a b → z ≡ entry_at l table a b
smooth_along table a b z k l e is = is ∙ ap (λ n. entry_at n table a b) e

-- costs that are the entries of a metric's table are a metric
pub metric_kept : (k : ℕ) (table : List ℤ) → IsMetricTable k table → (cost : ℕ → ℕ → ℕ)
    → ((a b : ℕ) (z : ℤ) → a < k → b < k → z ≡ entry_at k table a b → z ≡ pos (cost a b)) → IsMetric k cost
metric_kept k table metric cost entries =
    let same = λ (a b : ℕ) (la : a < k) (lb : b < k). let is : entry_at k table a b ≡ pos (cost a b) = entries a b (entry_at k table a b) la lb refl in
    let number : cost_in k table a b ≡ cost a b = ap unsigned_abs is in number in
    let m = metric.metric in
    record {
      equal = λ a la. sym (same a a la la) ∙ m.equal a la;
      unequal = λ a b la lb apart. (let P : ℕ → Type 0 = λ n. 0 < n in subst P (same a b la lb) (m.unequal a b la lb apart));
      symmetric = λ a b la lb. sym (same a b la lb) ∙ m.symmetric a b la lb ∙ same b a lb la;
      triangle = λ a b c la lb lc. omega (arith, same a b la lb, same a c la lc, same c b lc lb, m.triangle a b c la lb lc);
    }

-- where a closure answers the table's entries, and its costs are a metric, the table is one
pub table_metric : (m : Instance) (k l : ℕ) (table : List ℤ) → 0 < k → length table ≡ k * k → m.labels ≡ l → l ≡ k
    → (cost : ℕ → ℕ → ℕ) → IsWeighted cost m
    → ((a b : ℕ) (z : ℤ) → a < l → b < l → z ≡ entry_at k table a b → z ≡ pos (cost a b)) → HasMetric m → IsMetricTable k table
table_metric m k l table some size labels same cost weighted entries has =
    let M : ℕ → Type 0 = λ n. IsMetric n cost in
    let T : (ℕ → ℕ → ℕ) → Type 0 = λ t. IsMetric m.labels t in
    table_of_metric k cost table some
    (record { size = size; each = λ a b la lb. entries a b (entry_at k table a b) (below_along a k l la (sym same)) (below_along b k l lb (sym same)) refl })
    (subst M (labels ∙ same) (subst T (one_table m has.table cost has.weighted weighted) has.metric))

-- over a metric no run is refused for a pair whose term is not regular
pub metric_run : (m : Instance) (moves : List Move) (allowed : ℕ) (f : List ℕ) (field : LabelField) (e : MoveError)
    → All (λ label. label < field.labels) field.at → IsInstance m → length field.at ≡ m.sites → field.labels ≡ m.labels
    → HasMetric m → IsRunOfCycles m moves allowed f field.at (Err e) → ¬ TellsPairNotRegular e
metric_run m moves allowed f field e below pairs sites labels metric (inl run) =
    metric_refusal m run.0 field e below pairs sites labels metric run.2
metric_run m moves allowed f field e below pairs sites labels metric (inr never) = (let P : MoveError → Type 0 = λ told. ¬ TellsPairNotRegular told in subst P (sym never.1) (λ told. told))

-- the same of a table of numbers
pub data_keeps : (most : ℕ) (table : List ℕ) (n k : ℕ) → length table ≡ n * k → k ≤ 256 → All (λ cost. cost ≤ most) table
    → (a b : ℕ) → a < n → b < k
    → ((a * k + b < length table) × (k ≤ 256)) × ((z : ℤ) → z ≡ pos (slice_index table (a * k + b)) → IsCost (pos most) z)
data_keeps most table n k size small costs a b la lb =
    let inside = place_in a b k n (length table) la lb size in
    let limit : get_or table (a * k + b) 0 ≤ most = costs (a * k + b) 0 inside in
    let P : ℤ → Type 0 = λ y. IsCost (pos most) y in
    ((inside, small), λ z is. subst P (sym is) (omega (arith, ints), omega (arith, ints, limit)))

pub data_along : (table : List ℕ) (a b : ℕ) (z : ℤ) (k l : ℕ) → k ≡ l → z ≡ pos (slice_index table (a * k + b)) → z ≡ pos (data_entry l table a b)
data_along table a b z k l e is = is ∙ ap (λ n. pos (slice_index table (a * n + b))) e
