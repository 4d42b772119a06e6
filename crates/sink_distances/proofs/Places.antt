-- Where directions stand in rows that have room for them.
use Rattle.std.proofs.Common.{◌≡◌, ◌≢◌, ℕ, ◌+◌, ◌-◌, ◌<◌, ◌≤◌, inl, inr, List, length, slice_index, take, refl, ap, arith}
use Rattle.std.proofs.lemmas.Bool.{cases_lt}
use Rattle.std.proofs.lemmas.List.{take_all}
use Rattle.counting_sort.specs.Grouping.{count_of}
use Rattle.counting_sort.proofs.Ranks.{count_of-lt, count_of-find}
use Rattle.sink_distances.specs.Rows.{place_from, HaveRowRoom}

-- the end's number may be told by another name
same_place : (start : ℕ → ℕ) (ends : List ℕ) (k v : ℕ) → slice_index ends k ≡ v → place_from start ends k ≡ start v + count_of v (take k ends)
same_place start ends k v e = ap (λ (u : ℕ). start u + count_of u (take k ends)) e

-- a place is in the row of its end
pub place_low : (start : ℕ → ℕ) (ends : List ℕ) (k v : ℕ) → slice_index ends k ≡ v → start v ≤ place_from start ends k
place_low start ends k v e = omega (arith, same_place start ends k v e)

pub place_high : (start : ℕ → ℕ) (ends : List ℕ) (k v : ℕ) → k < length ends → slice_index ends k ≡ v → place_from start ends k < start v + count_of v ends
place_high start ends k v l e =
    let all : count_of v (take (length ends) ends) ≡ count_of v ends = ap (count_of v) (take_all (length ends) ends (omega arith)) in
    omega (arith, same_place start ends k v e, count_of-lt v ends k (length ends) l l e, all)

pub place_within : (n : ℕ) (start : ℕ → ℕ) (ends : List ℕ) (total k : ℕ) → HaveRowRoom n ends start total → k < length ends → slice_index ends k < n
    → place_from start ends k < total
place_within n start ends total k room l node =
    let v = slice_index ends k in
    omega (arith, place_high start ends k v l refl, room.within v node)

-- two ends have places of their own
pub place_apart : (n : ℕ) (start : ℕ → ℕ) (ends : List ℕ) (total i k : ℕ) → HaveRowRoom n ends start total → i < k → k < length ends
    → slice_index ends i < n → slice_index ends k < n → place_from start ends i ≢ place_from start ends k
place_apart n start ends total i k room l m node_i node_k e =
    let u = slice_index ends i in
    let v = slice_index ends k in
    let near : i < length ends = omega (arith, l, m) in
    elim (cases_lt u v) [
      | inl less ↦ omega (arith, e, place_high start ends i u near refl, room.apart u v less node_k, place_low start ends k v refl)
      | inr more ↦ elim (cases_lt v u) [
        | inl greater ↦ omega (arith, e, place_high start ends k v m refl, room.apart v u greater node_i, place_low start ends i u refl)
        | inr less ↦
            let same : u ≡ v = omega (arith, more, less) in
            omega (arith, e, same_place start ends i v same, same_place start ends k v refl, count_of-lt v ends i k l near same)
      ]
    ]

-- and each place of a row is that of an end
pub end_found : (start : ℕ → ℕ) (ends : List ℕ) (v p : ℕ) → start v ≤ p → p < start v + count_of v ends
    → (k : ℕ) × (k < length ends) × (slice_index ends k ≡ v) × (place_from start ends k ≡ p)
end_found start ends v p low high =
    let all : count_of v (take (length ends) ends) ≡ count_of v ends = ap (count_of v) (take_all (length ends) ends (omega arith)) in
    let j : ℕ = p - start v in
    let found = count_of-find v ends (length ends) j (omega arith) (omega (arith, low, high, all)) in
    (found.0, found.1, found.2, omega (arith, same_place start ends found.0 v found.2, found.3, low))
