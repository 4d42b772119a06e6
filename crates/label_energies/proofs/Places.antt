-- The moves of a cycle stand at their places.
use Rattle.std.proofs.Common.{◌≡◌, ℕ, ◌+◌, ◌-◌, ◌*◌, ◌/◌, ◌<◌, ◌≤◌, length, get_or, zero, suc, Some, refl, sym, ap, ◌∙◌, arith, zero-add}
use Rattle.std.specs.Prelude.{slice_get}
use Rattle.std.specs.List.{flat_map, range_with_len}
use Rattle.std.proofs.Math.Nat.{mul-div_cancel_left}
use Rattle.std.proofs.lemmas.List.{length-map, length-append, take_all}
use Rattle.std.proofs.lemmas.List.Concat.{get_or-flat_map}
use Rattle.std.proofs.lemmas.List.FromFn.{get_or-map-range_with_len, length-range_with_len, get_or-range_with_len}
use Rattle.std.proofs.lemmas.Option.{slice_get-get_or}
use Rattle.label_energies.specs.declared.change.Move.TheVariants.{Expand, Swap}
use Rattle.label_energies.specs.Chains.{expansions, swaps}
use Rattle.label_energies.proofs.Swaps.{swaps_of, swaps_before, swaps_more}

pub expansions-length : (k : ℕ) → length (expansions k) ≡ k
expansions-length k = simp (length-map, length-range_with_len)

pub expansion_at : (k a : ℕ) → a < k → slice_get (expansions k) a ≡ Some (Expand a)
expansion_at k a l =
    slice_get-get_or (expansions k) a (Expand 0) (omega (arith, l, expansions-length k))
    ∙ ap Some (get_or-map-range_with_len Expand 0 k a a (Expand 0) l (omega arith))

swaps_of-length : (k a : ℕ) → length (swaps_of k a) ≡ k - (a + 1)
swaps_of-length k a = simp (length-map, length-range_with_len)

-- how many swaps there are of the labels below a
pub before-length : (k a : ℕ) → a < k → length (swaps_before k (a + 1)) ≡ length (swaps_before k a) + (k - (a + 1))
before-length k a l = ap length (swaps_more k a l) ∙ length-append (swaps_before k a) (swaps_of k a) ∙ ap (λ n. length (swaps_before k a) + n) (swaps_of-length k a)

pub swaps_all : (k : ℕ) → swaps_before k k ≡ swaps k
swaps_all k = ap (flat_map (swaps_of k)) (take_all k (range_with_len 0 k) (omega (arith, length-range_with_len 0 k)))

-- a swap of a stands after those of the labels below a
pub swap_at : (k a j : ℕ) → a < k → j < k - (a + 1) → length (swaps_before k a) + j < length (swaps k)
    → slice_get (swaps k) (length (swaps_before k a) + j) ≡ Some (Swap a (a + 1 + j))
swap_at k a j l within inside =
    let here : get_or (range_with_len 0 k) a 0 ≡ a = get_or-range_with_len 0 k a 0 l ∙ zero-add a in
    let of : swaps_of k (get_or (range_with_len 0 k) a 0) ≡ swaps_of k a = ap (swaps_of k) here in
    slice_get-get_or (swaps k) (length (swaps_before k a) + j) (Swap 0 0) inside
    ∙ ap Some (get_or-flat_map (swaps_of k) (range_with_len 0 k) a j 0 (Swap 0 0) (omega (arith, l, length-range_with_len 0 k))
    (omega (arith, within, ap length of, swaps_of-length k a))
    ∙ ap (λ xs. get_or xs j (Swap 0 0)) of
    ∙ get_or-map-range_with_len (Swap a) (a + 1) (k - (a + 1)) j (a + 1 + j) (Swap 0 0) within refl)

step_numbers : (n a k r : ℕ) → 2 * n + a * a + a ≡ 2 * (a * k) → k ≡ a + 1 + r → 2 * (n + r) + (a + 1) * (a + 1) + (a + 1) ≡ 2 * ((a + 1) * k)
step_numbers n a k r before is = grind arith

twice_before : (k a : ℕ) → a ≤ k → 2 * length (swaps_before k a) + a * a + a ≡ 2 * (a * k)
twice_before k zero l = let none : 0 * k ≡ 0 = grind arith in ap (λ n. 2 * n) (sym none)
twice_before k (suc a) l =
    let n = length (swaps_before k a) in
    let more = before-length k a (omega (arith, l)) in
    let next : suc a ≡ a + 1 = omega arith in
    rw (next, more) (step_numbers n a k (k - (a + 1)) (twice_before k a (omega (arith, l))) (omega (arith, l)))

half : (n k : ℕ) → 1 ≤ k → 2 * n + k * k + k ≡ 2 * (k * k) → 2 * n ≡ k * (k - 1)
half n zero l is = absurd (omega (arith, l))
half n (suc k) l is = grind arith

pub swaps-length : (k : ℕ) → 1 ≤ k → k * (k - 1) / 2 ≡ length (swaps k)
swaps-length k l =
    let twice = half (length (swaps_before k k)) k l (twice_before k k (omega arith)) in
    ap (λ n. n / 2) (sym twice) ∙ mul-div_cancel_left (length (swaps_before k k)) (omega arith) ∙ ap length (swaps_all k)
