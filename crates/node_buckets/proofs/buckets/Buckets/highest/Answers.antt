use Rattle.std.proofs.Common.{◌+◌, ◌<◌, ◌≤◌, ◌∙◌, ℕ, inl, inr, sym, subst, arith}
use Rattle.std.proofs.lemmas.Bool.{cases_lt}
use Rattle.node_buckets.specs.Standing.{BucketsView, row_count, row_in, IsHighest, AreBucketsEmpty}
use Rattle.node_buckets.proofs.Moving.{lower_top}
use Rattle.node_buckets.proofs.buckets.Buckets.highest.Goals as goal

pub returns-in-Some-clause-same : goal.returns-in-Some-clause-same
returns-in-Some-clause-same c = c.self-in-buckets.view_is ∙ c.buckets.invariant.same

pub returns-in-Some-clause-highest : goal.returns-in-Some-clause-highest
returns-in-Some-clause-highest c =
    let is = c.in-Some.ensures in
    subst (λ (s : BucketsView). IsHighest s c.in-Some.node) c.buckets.invariant.same (record {
      node = is.0;
      bucket = omega (arith, is.1, c.buckets.invariant.top);
      highest = λ u l bucket. omega (arith, is.1, c.buckets.invariant.below u l bucket, c.buckets-test.true);
    })

pub invariant_of-self-2 : goal.invariant_of-self-2
invariant_of-self-2 c =
    let below = subst (λ (s : BucketsView). (v : ℕ) → v < row_count s → row_in s v < s.buckets → row_in s v + c.buckets.step ≤ c.self.inside.top) (sym c.self-2.view_is) c.buckets.invariant.below in
    lower_top c.self-2.inside.top 0 _ _ _ _ (omega arith) (λ v l bucket. absurd (omega (arith, below v l bucket, c.buckets-test.false))) c.self-2.invariant

pub returns-clause-same : goal.returns-clause-same
returns-clause-same c = c.self-2.view_is ∙ c.buckets.invariant.same

pub returns-clause-highest : goal.returns-clause-highest
returns-clause-highest c = subst AreBucketsEmpty c.buckets.invariant.same (λ v l. elim (cases_lt (row_in c.buckets.self v) c.buckets.self.buckets) [
  | inl bucket ↦ absurd (omega (arith, c.buckets.invariant.below v l bucket, c.buckets-test.false))
  | inr past ↦ past
])
