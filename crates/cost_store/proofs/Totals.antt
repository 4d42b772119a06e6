-- Sums over the sites and over the pairs, term by term.
use Rattle.std.proofs.Common.{◌≡◌, Bool, true, false, Option, Some, None, All, refl, ℕ, ◌+◌, ◌*◌, ◌<◌, ◌≤◌, List, length, take, get_or, sym, ap, ◌∙◌, add-one, arith, ℤ, pos, negsuc, unsigned_abs, ◌+ℤ◌, ◌≤ℤ◌, w64, to_z, of_z}
use Rattle.std.specs.Prelude.{slice_get}
use Rattle.std.specs.List.{sum_by}
use Rattle.std.proofs.lemmas.List.Sums.{sum_by_more}
use Rattle.std.proofs.lemmas.List.{take_all}
use Rattle.std.proofs.lemmas.Option.{get_or_from_slice_get}
use Rattle.std.proofs.lemmas.Int.{ints, to_z_pos, to_z-of_z}
use Rattle.sums.specs.Sums.{sum_below, count_if}
use Rattle.sums.proofs.SumLemmas.{sum_below-same, sum_below-none}
use Rattle.std.specs.Global.{Vec}
use Rattle.std.proofs.lemmas.List.Elements.{All-nil}
use Rattle.cost_store.specs.LabelCosts.{cost_at}
use Rattle.cost_store.specs.LabelCosts.{costs_of, AreLabelCosts, HasCosts}
use Rattle.sums.proofs.IntegerSumLemmas.{within_fits, abs-add, add_is}
use Rattle.label_field.specs.declared.pair.Pair.{Pair}
use Rattle.cost_store.specs.Promises.{IsCost}
use Rattle.label_energies.specs.Energies.{Instance, is_used, label_energy}

pub sum_next : (n : ℕ) (f : ℕ → ℕ) (total r : ℕ) → total ≡ sum_below n f → r ≡ f n → total + r ≡ sum_below (n + 1) f
sum_next n f total r so_far own = (let next = ap (λ k. sum_below k f) (sym (add-one n)) in omega (arith, so_far, own, next))

pub list_next : (f : Pair → ℕ) (list xs : List Pair) (i total r : ℕ) (pair : Pair) → xs ≡ list → i < length list → slice_get list i ≡ Some pair
    → total ≡ sum_by f (take i xs) → r ≡ f pair → total + r ≡ sum_by f (take (i + 1) xs)
list_next f list xs i total r pair same l here so_far own =
    let within : i < length xs = omega (arith, l, ap (λ (ys : List Pair). length ys) same) in
    let read : get_or xs i pair ≡ pair = ap (λ (ys : List Pair). get_or ys i pair) same ∙ get_or_from_slice_get list i pair pair here in
    omega (arith, so_far, own, sum_by_more f xs i pair within, ap f read)

pub list_all : (f : Pair → ℕ) (list xs : List Pair) (i total : ℕ) → xs ≡ list → length list ≤ i → total ≡ sum_by f (take i xs) → total ≡ sum_by f xs
list_all f list xs i total same l so_far = so_far ∙ ap (λ (ys : List Pair). sum_by f ys) (take_all i xs (omega (arith, l, ap (λ (ys : List Pair). length ys) same)))

pub end_is : (i n len sites : ℕ) → i ≤ n → n ≤ i → n ≡ len → len ≡ sites → i ≡ sites
end_is i n len sites a b c d = omega (arith, a, b, c, d)

pub small_total : (total n : ℕ) → total ≤ 10000000 * n → n ≤ 1048576 → to_z w64 total ≡ pos total
small_total total n h l = to_z_pos w64 total (omega (arith, h, l))

pub small_pairs : (total n : ℕ) → total ≤ 10000000 * n → n ≤ 4194304 → to_z w64 total ≡ pos total
small_pairs total n h l = to_z_pos w64 total (omega (arith, h, l))

abs_small : (z : ℤ) (k : ℕ) → pos 0 ≤ℤ z → z ≤ℤ pos k → unsigned_abs z ≤ k
abs_small (pos n) k low high = omega (arith, ints, high)
abs_small (negsuc n) k low high = absurd (omega (arith, ints, low))

pub sum_of_two : (y z : ℤ) (a b : ℕ) → pos 0 ≤ℤ y → y ≤ℤ pos 10485760000000 → pos 0 ≤ℤ z → z ≤ℤ pos 41943040000000 → y ≡ pos a → z ≡ pos b
    → to_z w64 (of_z w64 (to_z w64 (of_z w64 y) +ℤ to_z w64 (of_z w64 z))) ≡ pos (a + b)
sum_of_two y z a b ly hy lz hz ya zb =
    let ay = abs_small y 10485760000000 ly hy in
    let az = abs_small z 41943040000000 lz hz in
    let fy = within_fits 10485760000000 y ay (omega arith) in
    let fz = within_fits 41943040000000 z az (omega arith) in
    let fs = within_fits 52428800000000 (y +ℤ z) (omega (arith, abs-add y z, ay, az)) (omega arith) in
    add_is y z fy fz fs ∙ (λ i. ya i +ℤ zb i)

pub sum_of_three : (x y z : ℤ) (a b c : ℕ) → pos 0 ≤ℤ x → x ≤ℤ pos 10485760000000 → pos 0 ≤ℤ y → y ≤ℤ pos 41943040000000 → pos 0 ≤ℤ z → z ≤ℤ pos 2560000000
    → x ≡ pos a → y ≡ pos b → z ≡ pos c
    → to_z w64 (of_z w64 (to_z w64 (of_z w64 (to_z w64 (of_z w64 x) +ℤ to_z w64 (of_z w64 y))) +ℤ to_z w64 (of_z w64 z))) ≡ pos (a + b + c)
sum_of_three x y z a b c lx hx ly hy lz hz xa yb zc =
    let az = abs_small z 2560000000 lz hz in
    let two = sum_of_two x y a b lx hx ly hy xa yb in
    let fz = within_fits 2560000000 z az (omega arith) in
    let three : to_z w64 (of_z w64 z) ≡ pos c = to_z-of_z w64 z fz ∙ zc in
    let most : a + b + c ≤ 52431360000000 = omega (arith, ints, hx, hy, hz, xa, yb, zc) in
    rw (two, three) (to_z-of_z w64 (pos (a + b + c)) (within_fits 52431360000000 (pos (a + b + c)) most (omega arith)))

none_paid : (b : Bool) (cost : ℕ) → cost ≡ 0 → count_if b cost ≡ 0
none_paid true cost h = h
none_paid false cost h = refl

-- what the labels cost by themselves, summed over the costs that were set
pub label_total : (m : Instance) (costs : Option (Vec ℤ)) (g : ℕ → ℕ) → AreLabelCosts m.labels costs → HasCosts m costs
    → sum_below (length (costs_of costs)) (λ label. count_if (is_used m.sites g label) (cost_at (costs_of costs) label)) ≡ label_energy m g
label_total m None g are has =
    sym (sum_below-none m.labels (λ label. count_if (is_used m.sites g label) (m.label_cost label)) (λ label l. none_paid (is_used m.sites g label) (m.label_cost label) (has.each label l)))
label_total m (Some costs) g are has =
    ap (λ (n : ℕ). sum_below n (λ label. count_if (is_used m.sites g label) (cost_at costs.items label))) are.0
    ∙ sum_below-same m.labels (λ label. count_if (is_used m.sites g label) (cost_at costs.items label)) (λ label. count_if (is_used m.sites g label) (m.label_cost label))
    (λ label l. ap (count_if (is_used m.sites g label)) (sym (has.each label l)))

pub few_set : (labels : ℕ) (costs : Option (Vec ℤ)) → AreLabelCosts labels costs → length (costs_of costs) ≤ labels
few_set labels None are = omega arith
few_set labels (Some costs) are = omega (arith, are.0)

pub in_range : (labels : ℕ) (costs : Option (Vec ℤ)) → AreLabelCosts labels costs → All (IsCost (pos 10000000)) (costs_of costs)
in_range labels None are = All-nil (IsCost (pos 10000000))
in_range labels (Some costs) are = are.1
