-- The tables of a caller's numbers: what a closure over one answers, and what a problem of two
-- means.
use Rattle.std.proofs.Common.{◌≡◌, ◌+◌, ◌*◌, ◌<◌, ◌≤◌, ◌∙◌, ℕ, ℤ, pos, false, List, All, length, map, refl, subst, sym}
use Rattle.std.proofs.lemmas.List.{length-map}
use Rattle.cost_store.specs.LabelCosts.{costs_of}
use Rattle.cost_store.specs.Limits.{data_limit, smooth_limit}
use Rattle.cost_store.specs.Posed.{Closure, gives, IsMeant}
use Rattle.cost_store.specs.Promises.{IsCost, cost_in, entry_at}
use Rattle.cost_store.specs.declared.problem.Problem.{Problem}
use Rattle.moves.specs.Instances.{instance_of}
use Rattle.moves.proofs.Entries.{smooth_along, smooth_keeps}
use Rattle.moves.proofs.Instances.{instance_meant, table_instance}
use Rattle.gco_arrays.proofs.Entries.{cost_of_entry}

-- a closure that reads a table of costs in range may be called everywhere, and answers costs in
-- range
pub table_keeps : {N : Type 0} (value : N → ℤ) (most : ℤ) (table : List N) (s l n k : ℕ) → s ≡ n → l ≡ k → l ≤ 256
    → length table ≡ n * k → All (IsCost most) (map value table) → (a b : ℕ) → a < s → b < l
    → ((a * l + b < length table) × (l ≤ 256)) × ((z : ℤ) → z ≡ entry_at l (map value table) a b → IsCost most z)
table_keeps value most table s l n k rows columns few size range a b la lb =
    let count = length-map table value in
    let known = smooth_keeps most (map value table) s l (count ∙ size ∙ (λ i. sym rows i * sym columns i)) few range a b la lb in
    let P : ℕ → Type 0 = λ c. a * l + b < c in
    ((subst P count known.0.0, known.0.1), known.1)

-- they are the costs of the table
pub table_answers : {N : Type 0} (value : N → ℤ) (most : ℤ) (table : List N) (l n k : ℕ) → l ≡ k
    → length table ≡ n * k → All (IsCost most) (map value table) → (a b : ℕ) (z : ℤ) → a < n → b < k
    → z ≡ entry_at l (map value table) a b → z ≡ pos (cost_in k (map value table) a b)
table_answers value most table l n k columns size range a b z la lb is =
    cost_of_entry most (map value table) n k (length-map table value ∙ size) range a b la lb z (smooth_along (map value table) a b z l k columns is)

-- a problem whose closures read two tables means the instance of the tables
pub tables_meant : {F V N : Type 0} (f : Closure F) (v : Closure V) (p : Problem F V) (value : N → ℤ) (costs smooth : List N) (l labels : ℕ)
    → p.pairs.numbered ≡ false → p.data_cost.labels ≡ l → l ≡ labels
    → length costs ≡ p.pairs.sites * labels → All (IsCost data_limit) (map value costs)
    → length smooth ≡ labels * labels → All (IsCost smooth_limit) (map value smooth)
    → ((a b : ℕ) (z : ℤ) → gives f p.data_cost.f a b z → z ≡ entry_at l (map value costs) a b)
    → ((a b : ℕ) (z : ℤ) → gives v p.smooth_cost.v a b z → z ≡ entry_at l (map value smooth) a b)
    → IsMeant f v p (instance_of p.pairs labels (cost_in labels (map value costs)) (map value smooth) (costs_of p.label_costs))
tables_meant f v p value costs smooth l labels weighted same count size range smooth_size smooth_range of_sites of_pairs =
    instance_meant f v p l labels (map value smooth) (instance_of p.pairs labels (cost_in labels (map value costs)) (map value smooth) (costs_of p.label_costs))
    weighted (same ∙ count) count of_pairs
    (table_instance (gives f p.data_cost.f) p.pairs labels (cost_in labels (map value costs)) (map value smooth) (costs_of p.label_costs)
    (length-map smooth value ∙ smooth_size) smooth_range
    (λ a b z la lb ans. table_answers value data_limit costs l p.pairs.sites labels count size range a b z la lb (of_sites a b z ans)))
    (record { each = λ label below. refl })
