use Rattle.std.proofs.Common.{◌≡◌, ℕ, ◌+◌, ◌-◌, ◌<◌, List, [], ◌∷◌, ◌++◌, map, take, length, ap, ◌∙◌, arith, get_or, zero-add, append-nil}
use Rattle.std.specs.List.{flat_map, range_with_len}
use Rattle.std.proofs.lemmas.List.{take_more}
use Rattle.std.proofs.lemmas.List.Concat.{flat_map-append, flat_map-cons}
use Rattle.std.proofs.lemmas.List.FromFn.{length-range_with_len, get_or-range_with_len}
use Rattle.label_energies.specs.declared.change.Move.{Move}
use Rattle.label_energies.specs.declared.change.Move.TheVariants.{Swap}

-- the swaps of one label with those above it
abbrev pub swaps_of : ℕ → ℕ → List Move
swaps_of k a = map (Swap a) (range_with_len (a + 1) (k - (a + 1)))

-- the swaps of the labels below a
abbrev pub swaps_before : ℕ → ℕ → List Move
swaps_before k a = flat_map (swaps_of k) (take a (range_with_len 0 k))

-- the outer loop's step
pub swaps_more : (k a : ℕ) → a < k → swaps_before k (a + 1) ≡ swaps_before k a ++ swaps_of k a
swaps_more k a l =
    let len : a < length (range_with_len 0 k) = omega (arith, l, length-range_with_len 0 k) in
    let here : get_or (range_with_len 0 k) a 0 ≡ a = get_or-range_with_len 0 k a 0 l ∙ zero-add a in
    ap (flat_map (swaps_of k)) (take_more (range_with_len 0 k) a 0 len ∙ ap (λ x. take a (range_with_len 0 k) ++ x ∷ []) here)
    ∙ flat_map-append (swaps_of k) (take a (range_with_len 0 k)) (a ∷ [])
    ∙ ap (λ ys. swaps_before k a ++ ys) (flat_map-cons (swaps_of k) a [] ∙ append-nil (swaps_of k a))
