-- Numbers whose neighbours are near are near wherever they are.
use Rattle.std.proofs.Common.{◌≡◌, ℕ, zero, suc, ◌+◌, ◌-◌, ◌*◌, ◌<◌, ◌≤◌, List, length, get_or, ap, inl, inr, arith}
use Rattle.std.specs.Prelude.{min}
use Rattle.std.proofs.lemmas.Bool.{cases_lt}
use Rattle.std.proofs.Math.Nat.{mul_assoc}
use Rattle.label_field.specs.Grids.{distance}
use Rattle.message_bound.specs.Costs.{IsGentle}

-- from a place upwards
climb : (xs : List ℕ) (step i d : ℕ)
    → ((k : ℕ) → k + 1 < length xs
    → (get_or xs (k + 1) 0 ≤ get_or xs k 0 + step) × (get_or xs k 0 ≤ get_or xs (k + 1) 0 + step))
    → i + d < length xs
    → (get_or xs (i + d) 0 ≤ get_or xs i 0 + step * d) × (get_or xs i 0 ≤ get_or xs (i + d) 0 + step * d)
climb xs step i zero near l =
    let same : i + 0 ≡ i = omega arith in
    let read = ap (λ k. get_or xs k 0) same in (omega (arith, read), omega (arith, read))
climb xs step i (suc d) near l =
    let before = climb xs step i d near (omega arith) in
    let here = near (i + d) (omega arith) in
    let same : i + suc d ≡ i + d + 1 = omega arith in
    let read = ap (λ k. get_or xs k 0) same in
    (omega (arith, before.0, here.0, read), omega (arith, before.1, here.1, read))

pub gentle_from : (xs : List ℕ) (step most least greatest : ℕ)
    → ((k : ℕ) → k + 1 < length xs
    → (get_or xs (k + 1) 0 ≤ get_or xs k 0 + step) × (get_or xs k 0 ≤ get_or xs (k + 1) 0 + step))
    → ((k : ℕ) → k < length xs → (least ≤ get_or xs k 0) × (get_or xs k 0 ≤ greatest))
    → greatest ≤ least + most → IsGentle xs step most
gentle_from xs step most least greatest near between close a b la lb =
    let top = (between b lb).1 in
    let low = (between a la).0 in
    elim (cases_lt a b) [
      | inl up ↦
          let d = b - a in
          let same : a + d ≡ b = omega arith in
          let steps = climb xs step a d near (omega (arith, same, lb)) in
          let read = ap (λ k. get_or xs k 0) same in
          let far : distance a b ≡ d = omega (arith, up) in
          let product = ap (λ k. step * k) far in
          omega (arith, steps.0, read, product, top, low, close)
      | inr down ↦
          let d = a - b in
          let same : b + d ≡ a = omega (arith, down) in
          let steps = climb xs step b d near (omega (arith, same, la)) in
          let read = ap (λ k. get_or xs k 0) same in
          let far : distance a b ≡ d = omega (arith, down) in
          let product = ap (λ k. step * k) far in
          omega (arith, steps.1, read, product, top, low, close)
    ]

-- a weight goes into a minimum
pub weighted_min : (w s d m : ℕ) → min (w * s * d) (w * m) ≤ w * min (s * d) m
weighted_min w s d m = elim (cases_lt (s * d) m) [
  | inl less ↦
      let is : min (s * d) m ≡ s * d = omega (arith, less) in
      let product = ap (λ k. w * k) is in
      omega (arith, product, mul_assoc w s d)
  | inr more ↦
      let is : min (s * d) m ≡ m = omega (arith, more) in
      let product = ap (λ k. w * k) is in
      omega (arith, product)
]
