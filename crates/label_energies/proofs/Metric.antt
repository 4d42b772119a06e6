use Rattle.std.proofs.Common.{◌≡◌, ℕ, ◌+◌, ◌*◌, ◌<◌, ◌≤◌, Bool, true, false, inl, inr, subst, length, arith}
use Rattle.std.proofs.Math.Nat.{mul-le-mul_left}
use Rattle.std.proofs.lemmas.List.Elements.{All-weaker}
use Rattle.label_field.specs.declared.pair.Pair.{Pair}
use Rattle.label_energies.specs.declared.change.Move.{Move}
use Rattle.label_energies.specs.declared.change.Move.TheVariants.{Expand, Swap}
use Rattle.label_field.specs.PairLists.{IsPair}
use Rattle.label_energies.specs.Energies.{Instance, IsInstance, IsMetric, IsLabelled, IsWeighted, HasMetric}
use Rattle.label_energies.specs.Moves.{label_after, IsRegularPair, IsAllowed, IsFirstIrregular, IsMoveOf}
use Rattle.std.proofs.lemmas.Option.{get_or_from_slice_get, slice_get_within}
use Rattle.label_energies.proofs.Reaching.{swap_one, swap_other, cases_one}

pub times_sum : (w a b : ℕ) → w * (a + b) ≡ w * a + w * b
times_sum w a b = grind arith

pub weighted : (w a b c d : ℕ) → a + d ≤ b + c → w * a + w * d ≤ w * b + w * c
weighted w a b c d h = omega (arith, times_sum w a d, times_sum w b c, mul-le-mul_left w h)

-- there is one such table
same_entry : (m : Instance) (one other : ℕ → ℕ → ℕ) (a b : ℕ) → IsWeighted one m → IsWeighted other m → one a b ≡ other a b
same_entry m one other a b first second = omega (arith, first 1 a b, second 1 a b)

pub one_table : (m : Instance) (one other : ℕ → ℕ → ℕ) → IsWeighted one m → IsWeighted other m → one ≡ other
one_table m one other first second = λ i a b. same_entry m one other a b first second i

-- at the two ends' labels of a move a metric makes a regular table
metric_table : (k : ℕ) (cost : ℕ → ℕ → ℕ) (move : Move) (l r : ℕ) → IsMetric k cost → IsMoveOf k move → l < k → r < k
    → cost (label_after move l false) (label_after move r false) + cost (label_after move l true) (label_after move r true)
    ≤ cost (label_after move l false) (label_after move r true) + cost (label_after move l true) (label_after move r false)
metric_table k cost (Expand a) l r metric here ll lr =
    omega (arith, metric.triangle l r a ll lr here, metric.equal a here)
metric_table k cost (Swap a b) l r metric here ll lr = elim (cases_one a b l) [
  | inl one ↦ elim (cases_one a b r) [
    | inl two ↦
        rw (swap_one a b l false one, swap_one a b l true one, swap_one a b r false two, swap_one a b r true two)
        (omega (arith, metric.equal a here.0, metric.equal b here.1))
    | inr other ↦
        rw (swap_one a b l false one, swap_one a b l true one, swap_other a b r false other.0 other.1, swap_other a b r true other.0 other.1)
        (omega arith)
  ]
  | inr other ↦
      rw (swap_other a b l false other.0 other.1, swap_other a b l true other.0 other.1) (omega arith)
]

-- a metric makes the term of every pair regular, in every move
pub metric_allows : (m : Instance) (move : Move) (f : ℕ → ℕ) → IsInstance m → HasMetric m → IsMoveOf m.labels move → IsLabelled m f
    → IsAllowed m move f
metric_allows m move f pairs has here labelled =
    All-weaker (IsPair m.sites) (IsRegularPair m move f) (λ pair within.
    (let l = f pair.first in
    let r = f pair.second in
    let cost : Bool → Bool → ℕ = λ x y. has.table (label_after move l x) (label_after move r y) in
    let read = λ (x y : Bool). has.weighted pair.weight (label_after move l x) (label_after move r y) in
    rw (read false false, read true true, read false true, read true false)
    (weighted pair.weight (cost false false) (cost false true) (cost true false) (cost true true)
    (metric_table m.labels has.table move l r has.metric here (labelled pair.first within.first) (labelled pair.second within.second)))))
    m.pairs pairs

-- so no pair is ever named
pub metric_never : (m : Instance) (move : Move) (f : ℕ → ℕ) (place : ℕ) → IsInstance m → HasMetric m → IsMoveOf m.labels move → IsLabelled m f
    → ¬ IsFirstIrregular m move f place
metric_never m move f place pairs metric here labelled first =
    let all = metric_allows m move f pairs metric here labelled in
    let inside : place < length m.pairs = slice_get_within m.pairs place first.failing first.here in
    let is = get_or_from_slice_get m.pairs place first.failing first.failing first.here in
    let P : Pair → Type 0 = λ pair. IsRegularPair m move f pair in
    first.fails (subst P is (all place first.failing inside))
