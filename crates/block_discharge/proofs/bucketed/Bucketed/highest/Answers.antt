use Rattle.std.proofs.Common.{ℕ, MatchOption, IfSome, subst}
use Rattle.block_discharge.specs.Active.{IsActiveInBlock}
use Rattle.block_discharge.specs.Standing.{BucketedView, IsAside, HasHighestBucket}
use Rattle.block_discharge.proofs.Placing.{bucket_gives, highest_gives}
use Rattle.block_discharge.proofs.bucketed.Bucketed.highest.Goals as goal

pub returns-clause-node : goal.returns-clause-node
returns-clause-node c =
    subst (λ (x : BucketedView). MatchOption c.highest.result ((v : ℕ) → IsActiveInBlock x.block v → IsAside x v) (λ (v : ℕ). IsActiveInBlock x.block v × (¬ IsAside x v))) c.self.view_is
    (highest_gives c.self.inside.cells c.self.inside.buckets c.highest.result c.self.invariant c.highest.ensures.highest)

pub returns-clause-highest : goal.returns-clause-highest
returns-clause-highest c =
    subst (λ (x : BucketedView). IfSome c.highest.result (HasHighestBucket x)) c.self.view_is
    (bucket_gives c.self.inside.cells c.self.inside.buckets c.highest.result c.self.invariant c.highest.ensures.highest)
