-- Potts and truncated linear costs are a metric, and the table of a metric is one of a metric.
use Rattle.std.proofs.Common.{◌≡◌, ◌≢◌, ◌∙◌, ℕ, ◌+◌, ◌-◌, ◌<◌, ◌≤◌, List, ℤ, pos, unsigned_abs, min, max, refl, sym, ap, subst, arith}
use Rattle.cost_store.specs.Promises.{IsMetricTable, IsTable, cost_in}
use Rattle.cost_store.specs.Metrics.{potts, linear}
use Rattle.label_energies.specs.Energies.{IsMetric, IsRatio}

potts_same : (a : ℕ) → potts a a ≡ 0
potts_same a = grind arith

potts_apart : (a b : ℕ) → a ≢ b → potts a b ≡ 1
potts_apart a b apart = grind arith

potts_symmetric : (a b : ℕ) → potts a b ≡ potts b a
potts_symmetric a b = grind arith

potts_triangle : (a b c : ℕ) → potts a b ≤ potts a c + potts c b
potts_triangle a b c = grind arith

pub potts_metric : (k : ℕ) → IsMetric k potts
potts_metric k = record {
  equal = λ a la. potts_same a;
  unequal = λ a b la lb differ. omega (arith, potts_apart a b differ);
  symmetric = λ a b la lb. potts_symmetric a b;
  triangle = λ a b c la lb lc. potts_triangle a b c;
}

-- the least and the greatest cost of two unequal labels are 1
pub potts_ratio : (k : ℕ) → IsRatio k potts 1 1
potts_ratio k = record {
  ordered = omega arith;
  within = λ a b la lb differ. (omega (arith, potts_apart a b differ), omega (arith, potts_apart a b differ));
  least_met = λ two. (0, 1, omega (arith, two), omega (arith, two), (λ same. omega (arith, same)), refl);
  greatest_met = λ two. (0, 1, omega (arith, two), omega (arith, two), (λ same. omega (arith, same)), refl);
  alone = λ one. (refl, refl);
}

-- whatever they are cut off at, from 1 on
pub linear_metric : (k most : ℕ) → 1 ≤ most → IsMetric k (linear most)
linear_metric k most some = record {
  equal = λ a la. omega arith;
  unequal = λ a b la lb differ. omega (arith, some, differ);
  symmetric = λ a b la lb. omega arith;
  triangle = λ a b c la lb lc. omega arith;
}

linear_least : (most : ℕ) → 1 ≤ most → linear most 0 1 ≡ 1
linear_least most some = omega (arith, some)

linear_greatest : (k most : ℕ) → 1 ≤ most → 2 ≤ k → linear most 0 (k - 1) ≡ max 1 (min (k - 1) most)
linear_greatest k most some two = omega (arith, some, two)

pub linear_ratio : (k most : ℕ) → 1 ≤ most → IsRatio k (linear most) 1 (max 1 (min (k - 1) most))
linear_ratio k most some = record {
  ordered = omega arith;
  within = λ a b la lb differ. (omega (arith, some, differ), omega (arith, some, la, lb, differ));
  least_met = λ two. (0, 1, omega (arith, two), omega (arith, two), (λ same. omega (arith, same)), linear_least most some);
  greatest_met = λ two. (0, k - 1, omega (arith, two), omega (arith, two), (λ same. omega (arith, same, two)), linear_greatest k most some two);
  alone = λ one. (refl, omega (arith, one));
}

-- the table of costs that are a metric
pub table_of_metric : (k : ℕ) (cost : ℕ → ℕ → ℕ) (table : List ℤ) → 0 < k → IsTable k k cost table → IsMetric k cost → IsMetricTable k table
table_of_metric k cost table some is m =
    let same = λ (a b : ℕ) (la : a < k) (lb : b < k). let number : cost_in k table a b ≡ cost a b = ap unsigned_abs (is.each a b la lb) in number in
    record {
      some = some;
      entries = record { size = is.size; each = λ a b la lb. is.each a b la lb ∙ ap pos (sym (same a b la lb)) };
      metric = record {
        equal = λ a la. same a a la la ∙ m.equal a la;
        unequal = λ a b la lb apart. (let P : ℕ → Type 0 = λ n. 0 < n in subst P (sym (same a b la lb)) (m.unequal a b la lb apart));
        symmetric = λ a b la lb. same a b la lb ∙ m.symmetric a b la lb ∙ sym (same b a lb la);
        triangle = λ a b c la lb lc. omega (arith, same a b la lb, same a c la lc, same c b lc lb, m.triangle a b c la lb lc);
      };
    }
