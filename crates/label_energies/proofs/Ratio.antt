use Rattle.std.proofs.Common.{◌≡◌, ◌≢◌, ℕ, ◌+◌, ◌*◌, ◌<◌, ◌≤◌, zero, suc, cond, eqb, List, [], ◌∷◌, refl, sym, ap, ◌∙◌, inl, inr, arith}
use Rattle.std.proofs.Math.Nat.{mul-le-mul_left}
use Rattle.std.proofs.lemmas.Nat.{mul-le}
use Rattle.std.proofs.lemmas.Bool.{cases_eq}
use Rattle.std.proofs.lemmas.Bool.Decides.{nat_tests}
use Rattle.std.specs.List.{All, sum_by}
use Rattle.std.proofs.lemmas.List.Sums.{sum_by-cons}
use Rattle.std.proofs.lemmas.List.Elements.{All-head, All-tail}
use Rattle.label_field.specs.declared.pair.Pair.{Pair}
use Rattle.label_energies.specs.declared.change.Move.TheVariants.{Expand}
use Rattle.label_energies.specs.Energies.{Instance, IsInstance, pair_cost, data_energy, smooth_energy, plain_energy, energy, AreLabelsFree, IsMetric, IsLabelled, IsRatio, IsWeighted}
use Rattle.label_energies.specs.Moves.{IsReached}
use Rattle.sums.specs.Sums.{sum_below}
use Rattle.label_field.specs.PairLists.{IsPair}
use Rattle.sums.proofs.SumLemmas.{sum_below-same, sum_below-le, sum_below-add, sum_below-zero, sum_below-swap, sum_below-change}
use Rattle.label_energies.proofs.Energy.{free-plain}
use Rattle.label_energies.proofs.Metric.{times_sum}

-- f, but with the label a wherever g has it
pub toward : (f g : ℕ → ℕ) → ℕ → ℕ → ℕ
toward f g a p = cond (eqb (g p) a) a (f p)

toward_at : (f g : ℕ → ℕ) (a p : ℕ) → g p ≡ a → toward f g a p ≡ g p
unfolding toward
toward_at f g a p h = grind (arith, nat_tests)

toward_off : (f g : ℕ → ℕ) (a p : ℕ) → g p ≢ a → toward f g a p ≡ f p
unfolding toward
toward_off f g a p h = grind (arith, nat_tests)

toward_reached : (f g : ℕ → ℕ) (a n : ℕ) → IsReached (Expand a) n f (toward f g a)
toward_reached f g a n p l = elim (cases_eq (g p) a) [
  | inl is ↦ inr (toward_at f g a p is ∙ is)
  | inr not_is ↦ inl (toward_off f g a p not_is)
]

-- u (A + B) ≤ u C + v D adds up
regroup : (A B a b : ℕ) → (A + a) + (B + b) ≡ (A + B) + (a + b)
regroup A B a b = omega arith

adds_up : (u v A B C D a b c d : ℕ) → u * (A + B) ≤ u * C + v * D → u * (a + b) ≤ u * c + v * d
    → u * ((A + a) + (B + b)) ≤ u * (C + c) + v * (D + d)
adds_up u v A B C D a b c d all one =
    omega (arith, times_sum u (A + B) (a + b), times_sum u C c, times_sum v D d, ap (λ x. u * x) (regroup A B a b))

sums_up : (u v n : ℕ) (A B C D : ℕ → ℕ) → ((i : ℕ) → i < n → u * (A i + B i) ≤ u * C i + v * D i)
    → u * (sum_below n A + sum_below n B) ≤ u * sum_below n C + v * sum_below n D
sums_up u v zero A B C D each = grind arith
sums_up u v (suc n) A B C D each =
    adds_up u v (sum_below n A) (sum_below n B) (sum_below n C) (sum_below n D) (A n) (B n) (C n) (D n)
    (sums_up u v n A B C D (λ i l. each i (omega arith))) (each n (omega arith))

lists_up : {X : Type 0} (P : X → Type 0) (u v : ℕ) (A B C D : X → ℕ) (xs : List X) → All P xs
    → ((x : X) → P x → u * (A x + B x) ≤ u * C x + v * D x)
    → u * (sum_by A xs + sum_by B xs) ≤ u * sum_by C xs + v * sum_by D xs
lists_up P u v A B C D [] all each = grind arith
lists_up P u v A B C D (x ∷ xs) all each =
    let step = adds_up u v (sum_by A xs) (sum_by B xs) (sum_by C xs) (sum_by D xs) (A x) (B x) (C x) (D x)
    (lists_up P u v A B C D xs (All-tail P x xs all) each) (each x (All-head P x xs all)) in
    let eA : sum_by A (x ∷ xs) ≡ sum_by A xs + A x = omega (arith, sum_by-cons A x xs) in
    let eB : sum_by B (x ∷ xs) ≡ sum_by B xs + B x = omega (arith, sum_by-cons B x xs) in
    let eC : sum_by C (x ∷ xs) ≡ sum_by C xs + C x = omega (arith, sum_by-cons C x xs) in
    let eD : sum_by D (x ∷ xs) ≡ sum_by D xs + D x = omega (arith, sum_by-cons D x xs) in
    rw (eA, eB, eC, eD) step

sum_by-swap : {X : Type 0} (k : ℕ) (f : ℕ → X → ℕ) (xs : List X) → sum_by (λ x. sum_below k (λ a. f a x)) xs ≡ sum_below k (λ a. sum_by (f a) xs)
sum_by-swap k f [] = sym (sum_below-zero k)
sum_by-swap k f (x ∷ xs) =
    omega (
      arith,
      sum_by-cons (λ y. sum_below k (λ a. f a y)) x xs,
      sum_by-swap k f xs,
      sum_below-add k (λ a. f a x) (λ a. sum_by (f a) xs),
      sum_below-same k (λ a. sum_by (f a) (x ∷ xs)) (λ a. f a x + sum_by (f a) xs) (λ a l. sum_by-cons (f a) x xs),
    )

-- a site: one of the k expansions toward g gives it g's label, all others keep its label
at_site : (m : Instance) (f g : ℕ → ℕ) (u v p : ℕ) → u ≤ v → g p < m.labels
    → u * (sum_below m.labels (λ a. m.data_cost p (toward f g a p)) + m.data_cost p (f p))
    ≤ u * sum_below m.labels (λ a. m.data_cost p (f p)) + v * m.data_cost p (g p)
at_site m f g u v p le lg =
    let here = ap (m.data_cost p) (toward_at f g (g p) p refl) in
    let all = sum_below-change m.labels (g p) (λ a. m.data_cost p (f p)) (λ a. m.data_cost p (toward f g a p)) lg
    (λ a l ne. ap (m.data_cost p) (sym (toward_off f g a p (λ e. ne (sym e))))) in
    let total : sum_below m.labels (λ a. m.data_cost p (toward f g a p)) + m.data_cost p (f p) ≡ sum_below m.labels (λ a. m.data_cost p (f p)) + m.data_cost p (g p) =
    omega (arith, all, here) in
    rw total (omega (
      arith,
      times_sum u (sum_below m.labels (λ a. m.data_cost p (f p))) (m.data_cost p (g p)),
      mul-le u (m.data_cost p (g p)) v (m.data_cost p (g p)) le (omega arith),
    ))

-- a smooth cost is at most the greatest
at_most : (k : ℕ) (cost : ℕ → ℕ → ℕ) (least greatest a b : ℕ) → IsMetric k cost → IsRatio k cost least greatest → a < k → b < k → cost a b ≤ greatest
at_most k cost least greatest a b metric ratio la lb = elim (cases_eq a b) [
  | inl same ↦ omega (arith, metric.equal a la, ap (cost a) same)
  | inr other ↦ (ratio.within a b la lb other).1
]

-- the bound of a pair, over plain numbers
pair_bound : (u v w x y z : ℕ) → u ≤ z → x ≤ v → y ≤ v → u * (w * x + w * y) ≤ (2 * v) * (w * z)
pair_bound u v w x y z uz xv yv =
    let a = mul-le (u * w) (x + y) (z * w) (2 * v) (mul-le u w z w uz (omega arith)) (omega (arith, xv, yv)) in
    let left : u * (w * x + w * y) ≡ (u * w) * (x + y) = grind arith in
    let right : (2 * v) * (w * z) ≡ (z * w) * (2 * v) = grind arith in
    omega (arith, a, left, right)

-- the two ends of a pair have one label under g
pair_together : (m : Instance) (table : ℕ → ℕ → ℕ) (f g : ℕ → ℕ) (u v : ℕ) (pair : Pair) → IsWeighted table m → IsMetric m.labels table → g pair.first < m.labels → g pair.first ≡ g pair.second
    → u * (sum_below m.labels (λ a. pair_cost m (toward f g a) pair) + pair_cost m f pair)
    ≤ u * sum_below m.labels (λ a. pair_cost m f pair) + v * pair_cost m g pair
pair_together m table f g u v pair weighted metric lg same =
    let p = pair.first in
    let q = pair.second in
    let a = toward_at f g (g p) p refl in
    let b = toward_at f g (g p) q (sym same) in
    let none = metric.equal (g p) lg in
    let zero_cost : table (toward f g (g p) p) (toward f g (g p) q) ≡ 0 = rw (a, b, ← same) none in
    let read = weighted pair.weight (toward f g (g p) p) (toward f g (g p) q) in
    let zero_pair : pair_cost m (toward f g (g p)) pair ≡ 0 = rw (read, zero_cost) (grind arith) in
    let all = sum_below-change m.labels (g p) (λ a. pair_cost m f pair) (λ a. pair_cost m (toward f g a) pair) lg
    (λ a l ne. (let x = toward_off f g a p (λ e. ne (sym e)) in let y = toward_off f g a q (λ e. ne (sym (same ∙ e))) in cc)) in
    let total : sum_below m.labels (λ a. pair_cost m (toward f g a) pair) + pair_cost m f pair ≡ sum_below m.labels (λ a. pair_cost m f pair) =
    omega (arith, all, zero_pair) in
    rw total (omega arith)

chosen : (s a x y : ℕ) → a ≢ s → cond (eqb s a) x y ≡ y
chosen s a x y n = grind (arith, nat_tests)

picked : (s a x y : ℕ) → a ≡ s → cond (eqb s a) x y ≡ x
picked s a x y e = grind (arith, nat_tests)

-- two places changed
twice_changed : (k s t c0 : ℕ) (c : ℕ → ℕ) → s < k → t < k → s ≢ t → ((a : ℕ) → a < k → a ≢ s → a ≢ t → c a ≡ c0)
    → sum_below k c + c0 + c0 ≡ sum_below k (λ a. c0) + c s + c t
twice_changed k s t c0 c ls lt ne others =
    let h : ℕ → ℕ = λ a. cond (eqb s a) (c a) c0 in
    let at : h s ≡ c s = grind (arith, nat_tests) in
    let off : (a : ℕ) → a ≢ s → h a ≡ c0 = λ a n. chosen s a (c a) c0 n in
    let on : (a : ℕ) → a ≡ s → h a ≡ c a = λ a e. picked s a (c a) c0 e in
    let one = sum_below-change k s (λ a. c0) h ls (λ a l n. sym (off a n)) in
    let two = sum_below-change k t h c lt (λ a l n. elim (cases_eq a s) [
      | inl is ↦ on a is
      | inr not_is ↦ off a not_is ∙ sym (others a l not_is n)
    ]) in
    omega (arith, one, two, at, off t (λ e. ne (sym e)))

-- the two ends of a pair have two labels under g
pair_apart : (m : Instance) (table : ℕ → ℕ → ℕ) (f g : ℕ → ℕ) (least greatest : ℕ) (pair : Pair) → IsWeighted table m → IsMetric m.labels table → IsRatio m.labels table least greatest
    → f pair.first < m.labels → f pair.second < m.labels → g pair.first < m.labels → g pair.second < m.labels → g pair.first ≢ g pair.second
    → least * (sum_below m.labels (λ a. pair_cost m (toward f g a) pair) + pair_cost m f pair)
    ≤ least * sum_below m.labels (λ a. pair_cost m f pair) + (2 * greatest) * pair_cost m g pair
pair_apart m table f g least greatest pair weighted metric ratio fp fq gp gq ne =
    let p = pair.first in
    let q = pair.second in
    let w = pair.weight in
    let two = twice_changed m.labels (g p) (g q) (pair_cost m f pair) (λ a. pair_cost m (toward f g a) pair) gp gq ne
    (λ a l np nq. (let x = toward_off f g a p (λ e. np (sym e)) in let y = toward_off f g a q (λ e. nq (sym e)) in cc)) in
    let first : pair_cost m (toward f g (g p)) pair ≡ w * table (g p) (f q) =
    (let x = toward_at f g (g p) p refl in let y = toward_off f g (g p) q (λ e. ne (sym e)) in let read = weighted w (g p) (f q) in cc) in
    let second : pair_cost m (toward f g (g q)) pair ≡ w * table (f p) (g q) =
    (let x = toward_off f g (g q) p ne in let y = toward_at f g (g q) q refl in let read = weighted w (f p) (g q) in cc) in
    let read : pair_cost m g pair ≡ w * table (g p) (g q) = weighted w (g p) (g q) in
    let bound = pair_bound least greatest w (table (g p) (f q)) (table (f p) (g q)) (table (g p) (g q))
    ((ratio.within (g p) (g q) gp gq ne).0) (at_most m.labels table least greatest (g p) (f q) metric ratio gp fq)
    (at_most m.labels table least greatest (f p) (g q) metric ratio fp gq) in
    let total : sum_below m.labels (λ a. pair_cost m (toward f g a) pair) + pair_cost m f pair
    ≤ sum_below m.labels (λ a. pair_cost m f pair) + (w * table (g p) (f q) + w * table (f p) (g q)) =
    omega (arith, two, first, second) in
    omega (arith, read, ap (λ x. (2 * greatest) * x) read, mul-le-mul_left least total, times_sum least (sum_below m.labels (λ a. pair_cost m f pair)) (w * table (g p) (f q) + w * table (f p) (g q)), bound)

at_pair : (m : Instance) (table : ℕ → ℕ → ℕ) (f g : ℕ → ℕ) (least greatest : ℕ) (pair : Pair) → IsWeighted table m → IsMetric m.labels table → IsRatio m.labels table least greatest
    → IsLabelled m f → IsLabelled m g → IsPair m.sites pair
    → least * (sum_below m.labels (λ a. pair_cost m (toward f g a) pair) + pair_cost m f pair)
    ≤ least * sum_below m.labels (λ a. pair_cost m f pair) + (2 * greatest) * pair_cost m g pair
at_pair m table f g least greatest pair weighted metric ratio lf lg within = elim (cases_eq (g pair.first) (g pair.second)) [
  | inl same ↦ pair_together m table f g least (2 * greatest) pair weighted metric (lg pair.first within.first) same
  | inr other ↦ pair_apart m table f g least greatest pair weighted metric ratio (lf pair.first within.first) (lf pair.second within.second) (lg pair.first within.first) (lg pair.second within.second) other
]

-- at the sum of k energies that are not lower, what is over is the bound
last_step : (u v K S e g : ℕ) → K ≤ S → u * (S + e) ≤ u * K + v * g → u * e ≤ v * g
last_step u v K S e g le all = omega (arith, times_sum u S e, mul-le-mul_left u le, all)

-- the bound of Boykov, Veksler and Zabih
plain_bound : (m : Instance) (table : ℕ → ℕ → ℕ) (f g : ℕ → ℕ) (least greatest : ℕ) → IsInstance m → IsWeighted table m → IsMetric m.labels table → IsRatio m.labels table least greatest
    → IsLabelled m f → IsLabelled m g → ((a : ℕ) → a < m.labels → (h : ℕ → ℕ) → IsReached (Expand a) m.sites f h → plain_energy m f ≤ plain_energy m h)
    → least * plain_energy m f ≤ (2 * greatest) * plain_energy m g
plain_bound m table f g least greatest pairs weighted metric ratio lf lg local =
    let k = m.labels in
    let at_sites = sums_up least (2 * greatest) m.sites (λ p. sum_below k (λ a. m.data_cost p (toward f g a p))) (λ p. m.data_cost p (f p))
    (λ p. sum_below k (λ a. m.data_cost p (f p))) (λ p. m.data_cost p (g p))
    (λ p l. at_site m f g least (2 * greatest) p (omega (arith, ratio.ordered)) (lg p l)) in
    let at_pairs = lists_up (IsPair m.sites) least (2 * greatest) (λ pair. sum_below k (λ a. pair_cost m (toward f g a) pair)) (pair_cost m f)
    (λ pair. sum_below k (λ a. pair_cost m f pair)) (pair_cost m g) m.pairs pairs
    (λ pair within. at_pair m table f g least greatest pair weighted metric ratio lf lg within) in
    let both = adds_up least (2 * greatest)
    (sum_below m.sites (λ p. sum_below k (λ a. m.data_cost p (toward f g a p)))) (data_energy m f) (sum_below m.sites (λ p. sum_below k (λ a. m.data_cost p (f p)))) (data_energy m g)
    (sum_by (λ pair. sum_below k (λ a. pair_cost m (toward f g a) pair)) m.pairs) (smooth_energy m f) (sum_by (λ pair. sum_below k (λ a. pair_cost m f pair)) m.pairs) (smooth_energy m g)
    at_sites at_pairs in
    let moved : sum_below m.sites (λ p. sum_below k (λ a. m.data_cost p (toward f g a p))) + sum_by (λ pair. sum_below k (λ a. pair_cost m (toward f g a) pair)) m.pairs
    ≡ sum_below k (λ a. plain_energy m (toward f g a)) =
    omega (
      arith,
      sum_below-swap m.sites k (λ p a. m.data_cost p (toward f g a p)),
      sum_by-swap k (λ a pair. pair_cost m (toward f g a) pair) m.pairs,
      sum_below-add k (λ a. data_energy m (toward f g a)) (λ a. smooth_energy m (toward f g a)),
    ) in
    let stayed : sum_below m.sites (λ p. sum_below k (λ a. m.data_cost p (f p))) + sum_by (λ pair. sum_below k (λ a. pair_cost m f pair)) m.pairs
    ≡ sum_below k (λ a. plain_energy m f) =
    omega (
      arith,
      sum_below-swap m.sites k (λ p a. m.data_cost p (f p)),
      sum_by-swap k (λ a pair. pair_cost m f pair) m.pairs,
      sum_below-add k (λ a. data_energy m f) (λ a. smooth_energy m f),
    ) in
    let not_lower = sum_below-le k (λ a. plain_energy m f) (λ a. plain_energy m (toward f g a)) (λ a l. local a l (toward f g a) (toward_reached f g a m.sites)) in
    last_step least (2 * greatest) (sum_below k (λ a. plain_energy m f)) (sum_below k (λ a. plain_energy m (toward f g a))) (plain_energy m f) (plain_energy m g) not_lower
    (rw (← moved, ← stayed) both)

-- also where label costs are counted, if all are 0
pub expansion_bound : (m : Instance) (table : ℕ → ℕ → ℕ) (f g : ℕ → ℕ) (least greatest : ℕ) → IsInstance m → IsWeighted table m → IsMetric m.labels table → IsRatio m.labels table least greatest
    → AreLabelsFree m → IsLabelled m f → IsLabelled m g → ((a : ℕ) → a < m.labels → (h : ℕ → ℕ) → IsReached (Expand a) m.sites f h → energy m f ≤ energy m h)
    → least * energy m f ≤ (2 * greatest) * energy m g
expansion_bound m table f g least greatest pairs weighted metric ratio free lf lg local =
    let at_f = free-plain m f free in
    let at_g = free-plain m g free in
    let plain = plain_bound m table f g least greatest pairs weighted metric ratio lf lg
    (λ a l h reached. (let low = local a l h reached in let at_h = free-plain m h free in omega (arith, low, at_f, at_h))) in
    rw (at_f, at_g) plain
