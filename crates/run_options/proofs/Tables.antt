-- The table of a named cost is as long as it must be, and its costs are in their limits.
use Rattle.std.proofs.Common.{◌≡◌, ℕ, zero, suc, ◌+◌, ◌*◌, ◌<◌, ◌≤◌, ◌==◌, true, false, List, [], ◌∷◌, ◌++◌, length, get_or, ℤ, pos, All, if◌then◌else◌, refl, ap, sym, ◌∙◌, arith, length-append}
use Rattle.std.specs.List.{flat_map, range_with_len}
use Rattle.std.proofs.lemmas.Int.{ints}
use Rattle.std.proofs.lemmas.List.{flat_map_more, get_or-append-add, get_or_append_left, map-id}
use Rattle.std.proofs.lemmas.List.Elements.{All-append, All-map, All-nil}
use Rattle.std.proofs.lemmas.List.FromFn.{get_or-map-range_with_len, length-map-range_with_len, map-range_with_len_more}
use Rattle.run_options.specs.Limits.{IsSmoothCost, greatest_smooth_cost, trunc_limit}
use Rattle.run_options.specs.Shapes.{shape_cost, shape_row, shape_table}
use Rattle.run_options.specs.declared.shape.Shape.{Shape}
use Rattle.run_options.specs.declared.shape.Shape.TheVariants.{Potts, Linear, Quadratic}

pub cost_kept : (shape : Shape) (most a b : ℕ) → most ≤ trunc_limit → shape_cost shape most a b ≤ greatest_smooth_cost
cost_kept Potts most a b few = elim (a == b) as (λ t. (if t then 0 else 1) ≤ 10000) [ true ↦ omega arith | false ↦ omega arith ]
cost_kept Linear most a b few = omega arith
cost_kept Quadratic most a b few = omega arith

to_cost : (n : ℕ) → n ≤ greatest_smooth_cost → IsSmoothCost (pos n)
to_cost n h = (omega (arith, ints), omega (arith, ints))

row_kept : (shape : Shape) (k most a : ℕ) → most ≤ trunc_limit → All IsSmoothCost (shape_row shape k most a)
row_kept shape k most a few =
    All-map IsSmoothCost (λ b. pos (shape_cost shape most a b)) (range_with_len 0 k)
    (λ i d below. to_cost (shape_cost shape most a (get_or (range_with_len 0 k) i d)) (cost_kept shape most a (get_or (range_with_len 0 k) i d) few))

-- n rows from the row of a label on
rows_from : (shape : Shape) (k most a n : ℕ) → most ≤ trunc_limit → All IsSmoothCost (flat_map (shape_row shape k most) (range_with_len a n))
rows_from shape k most a zero few = All-nil IsSmoothCost
rows_from shape k most a (suc n) few =
    All-append IsSmoothCost (shape_row shape k most a) (flat_map (shape_row shape k most) (range_with_len (a + 1) n)) (row_kept shape k most a few) (rows_from shape k most (a + 1) n few)

pub rows_kept : (shape : Shape) (k most : ℕ) → most ≤ trunc_limit → All IsSmoothCost (shape_table shape k most)
rows_kept shape k most few = rows_from shape k most 0 k few

long_from : (shape : Shape) (k most a n : ℕ) → length (flat_map (shape_row shape k most) (range_with_len a n)) ≡ n * k
long_from shape k most a zero = omega arith
long_from shape k most a (suc n) =
    let rest = long_from shape k most (a + 1) n in
    let row : length (shape_row shape k most a) ≡ k = length-map-range_with_len (λ b. pos (shape_cost shape most a b)) 0 k in
    rw length-append (grind (arith, row, rest))

-- there is a cost for each two labels
pub table_long : (shape : Shape) (k most : ℕ) → length (shape_table shape k most) ≡ k * k
table_long shape k most = long_from shape k most 0 k

entry_from : (shape : Shape) (k most a n i b : ℕ) → i < n → b < k
    → get_or (flat_map (shape_row shape k most) (range_with_len a n)) (i * k + b) (pos 0) ≡ pos (shape_cost shape most (a + i) b)
entry_from shape k most a zero i b within column = absurd (omega arith)
entry_from shape k most a (suc n) zero b within column =
    let row : length (shape_row shape k most a) ≡ k = length-map-range_with_len (λ b. pos (shape_cost shape most a b)) 0 k in
    let here = get_or-map-range_with_len (λ b. pos (shape_cost shape most a b)) 0 k b b (pos 0) column (omega arith) in
    let first = get_or_append_left (shape_row shape k most a) (flat_map (shape_row shape k most) (range_with_len (a + 1) n)) (pos 0) b (omega arith) in
    let place : 0 * k + b ≡ b = grind arith in
    let same : a + 0 ≡ a = omega arith in
    rw (place, same) (first ∙ here)
entry_from shape k most a (suc n) (suc i) b within column =
    let row : length (shape_row shape k most a) ≡ k = length-map-range_with_len (λ b. pos (shape_cost shape most a b)) 0 k in
    let rest = entry_from shape k most (a + 1) n i b (omega arith) column in
    let next = get_or-append-add (shape_row shape k most a) (flat_map (shape_row shape k most) (range_with_len (a + 1) n)) (i * k + b) (pos 0) in
    let place : suc i * k + b ≡ length (shape_row shape k most a) + (i * k + b) = grind (arith, row) in
    let same : a + suc i ≡ a + 1 + i = omega arith in
    rw (place, same) (next ∙ rest)

-- the entry of two labels is their cost
pub table_entry : (shape : Shape) (k most a b : ℕ) → a < k → b < k
    → get_or (shape_table shape k most) (a * k + b) (pos 0) ≡ pos (shape_cost shape most a b)
table_entry shape k most a b row column = entry_from shape k most 0 k a b row column ∙ (let same : 0 + a ≡ a = omega arith in rw same refl)

-- one more row
pub front_more : (f : ℕ → List ℤ) (n : ℕ) → flat_map f (range_with_len 0 (n + 1)) ≡ flat_map f (range_with_len 0 n) ++ f n
front_more f n =
    let numbers : range_with_len 0 (n + 1) ≡ range_with_len 0 n ++ n ∷ [] =
    sym (map-id (range_with_len 0 (n + 1))) ∙ map-range_with_len_more (λ x. x) 0 n n (omega arith) ∙ ap (λ xs. xs ++ n ∷ []) (map-id (range_with_len 0 n)) in
    ap (flat_map f) numbers ∙ sym (flat_map_more f [] (range_with_len 0 n) n)
