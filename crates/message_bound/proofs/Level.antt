-- Parabolas over labels, which open downwards from numbers that bend up less than they bend down.
use Rattle.std.proofs.Common.{◌≡◌, ℕ, zero, suc, ◌+◌, ◌-◌, ◌*◌, ◌<◌, ◌≤◌, List, length, get_or, ap, inl, inr, arith}
use Rattle.std.specs.Prelude.{min}
use Rattle.std.proofs.lemmas.Bool.{cases_lt}
use Rattle.std.proofs.Math.Nat.{mul-add, add-mul}
use Rattle.label_field.specs.Grids.{distance}
use Rattle.message_bound.specs.Costs.{square_apart, IsLevel, Rises, IsHighestOver}

next_square : (e : ℕ) → (e + 1) * (e + 1) ≡ e * e + 2 * e + 1
next_square e = omega (arith, mul-add (e + 1) e 1, add-mul e 1 e)

-- the squares of two places, one behind the other, over a label
squares_apart : (a b : ℕ) → square_apart a (b + 1) + 2 * a ≡ square_apart a b + (2 * b + 1)
squares_apart a b = elim (cases_lt b a) [
  | inl before ↦
      let e = a - (b + 1) in
      let here : distance a b ≡ e + 1 = omega (arith, before) in
      let next : distance a (b + 1) ≡ e = omega (arith, before) in
      omega (arith, before, ap (λ k. k * k) here, ap (λ k. k * k) next, next_square e)
  | inr behind ↦
      let e = b - a in
      let here : distance a b ≡ e = omega (arith, behind) in
      let next : distance a (b + 1) ≡ e + 1 = omega (arith, behind) in
      omega (arith, behind, ap (λ k. k * k) here, ap (λ k. k * k) next, next_square e)
]

-- the same times a step
steps_apart : (s a b : ℕ) → s * square_apart a (b + 1) + s * (2 * a) ≡ s * square_apart a b + s * (2 * b + 1)
steps_apart s a b =
    omega (
      arith,
      ap (λ k. s * k) (squares_apart a b),
      mul-add s (square_apart a (b + 1)) (2 * a),
      mul-add s (square_apart a b) (2 * b + 1),
    )

steps_on : (s b : ℕ) → s * (2 * (b + 1) + 1) ≡ s * (2 * b + 1) + 2 * s
steps_on s b =
    let next : 2 * (b + 1) + 1 ≡ 2 * b + 1 + 2 = omega arith in
    omega (arith, ap (λ k. s * k) next, mul-add s (2 * b + 1) 2)

-- what rises at a place rises at the one before
rises_before : (xs : List ℕ) (s a k : ℕ) → IsLevel xs s → k + 2 < length xs → Rises xs s a (k + 1) → Rises xs s a k
rises_before xs s a k level inside up =
    let same : k + 1 + 1 ≡ k + 2 = omega arith in
    omega (arith, level k inside, up, steps_on s k, ap (λ i. get_or xs i 0) same)

-- what does not rise at a place does not at the one behind
falls_behind : (xs : List ℕ) (s a k : ℕ) → IsLevel xs s → k + 2 < length xs
    → get_or xs (k + 1) 0 + s * (2 * a) ≤ get_or xs k 0 + s * (2 * k + 1)
    → get_or xs (k + 1 + 1) 0 + s * (2 * a) ≤ get_or xs (k + 1) 0 + s * (2 * (k + 1) + 1)
falls_behind xs s a k level inside down =
    let same : k + 1 + 1 ≡ k + 2 = omega arith in
    omega (arith, level k inside, down, steps_on s k, ap (λ i. get_or xs i 0) same)

-- what rises over a label rises over the next
pub rises_on : (xs : List ℕ) (s a k : ℕ) → Rises xs s a k → Rises xs s (a + 1) k
rises_on xs s a k up =
    let next : 2 * (a + 1) ≡ 2 * a + 2 = omega arith in
    omega (arith, up, ap (λ i. s * i) next, mul-add s (2 * a) 2)

-- places before one to which they rise
below_before : (xs : List ℕ) (s a k d : ℕ) → IsLevel xs s → k + d < length xs
    → ((j : ℕ) → j + 1 ≡ k + d → Rises xs s a j)
    → get_or xs k 0 + s * square_apart a (k + d) ≤ get_or xs (k + d) 0 + s * square_apart a k
below_before xs s a k zero level inside up =
    let same : k + 0 ≡ k = omega arith in
    omega (arith, ap (λ i. get_or xs i 0) same, ap (λ i. s * square_apart a i) same)
below_before xs s a k (suc d) level inside up =
    let same : k + suc d ≡ k + d + 1 = omega arith in
    let last = up (k + d) (omega arith) in
    let rest = below_before xs s a k d level (omega (arith, inside)) (λ j is. rises_before xs s a j level (omega (arith, inside, is)) (up (j + 1) (omega (arith, is)))) in
    omega (arith, rest, last, steps_apart s a (k + d), ap (λ i. get_or xs i 0) same, ap (λ i. s * square_apart a i) same)

-- places behind one from which they do not rise
below_behind : (xs : List ℕ) (s a k d : ℕ) → IsLevel xs s → k + d < length xs
    → (k + 1 < length xs → get_or xs (k + 1) 0 + s * (2 * a) ≤ get_or xs k 0 + s * (2 * k + 1))
    → get_or xs (k + d) 0 + s * square_apart a k ≤ get_or xs k 0 + s * square_apart a (k + d)
below_behind xs s a k zero level inside down =
    let same : k + 0 ≡ k = omega arith in
    omega (arith, ap (λ i. get_or xs i 0) same, ap (λ i. s * square_apart a i) same)
below_behind xs s a k (suc d) level inside down =
    let same : k + suc d ≡ k + 1 + d = omega arith in
    let here = down (omega (arith, inside)) in
    let rest = below_behind xs s a (k + 1) d level (omega (arith, inside)) (λ more. falls_behind xs s a k level (omega (arith, more)) here) in
    omega (arith, rest, here, steps_apart s a k, ap (λ i. get_or xs i 0) same, ap (λ i. s * square_apart a i) same)

-- the place to which those before rise, and from which the next does not, is the highest
pub highest_at : (xs : List ℕ) (s a k : ℕ) → IsLevel xs s → k < length xs
    → ((j : ℕ) → j + 1 ≡ k → Rises xs s a j)
    → (k + 1 < length xs → get_or xs (k + 1) 0 + s * (2 * a) ≤ get_or xs k 0 + s * (2 * k + 1))
    → IsHighestOver xs s a k
highest_at xs s a k level here up down b inside = elim (cases_lt b k) [
  | inl before ↦
      let d = k - b in
      let same : b + d ≡ k = omega (arith, before) in
      let is = below_before xs s a b d level (omega (arith, same, here)) (λ j l. up j (omega (arith, l, same))) in
      omega (arith, is, ap (λ i. get_or xs i 0) same, ap (λ i. s * square_apart a i) same)
  | inr behind ↦
      let d = b - k in
      let same : k + d ≡ b = omega (arith, behind) in
      let is = below_behind xs s a k d level (omega (arith, same, inside)) down in
      omega (arith, is, ap (λ i. get_or xs i 0) same, ap (λ i. s * square_apart a i) same)
]

-- what pays at the highest pays everywhere
pub highest_pays : (xs : List ℕ) (s a k due most : ℕ) → IsHighestOver xs s a k
    → get_or xs k 0 ≤ due + s * square_apart a k → ((b : ℕ) → b < length xs → get_or xs b 0 ≤ due + most)
    → (b : ℕ) → b < length xs → get_or xs b 0 ≤ due + min (s * square_apart a b) most
highest_pays xs s a k due most highest pays all b inside = omega (arith, highest b inside, pays, all b inside)
