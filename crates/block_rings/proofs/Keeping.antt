-- Rings that are kept for the next round.
use Rattle.std.proofs.Common.{ℕ, ◌+◌, ◌<◌, List, length, set, get_or, sym, subst, inl, inr, arith, get_or-set_same, get_or-set_other}
use Rattle.std.proofs.lemmas.Bool.{cases_eq}
use Rattle.block_rings.specs.declared.pair.PortPair.{PortPair}
use Rattle.block_rings.specs.Kept.{IsDrained}

-- one pair more is drained
pub drained_more : (pairs : List PortPair) (k : ℕ) (q : PortPair) → k < length pairs → IsDrained q
    → ((i : ℕ) (d : PortPair) → i < k → IsDrained (get_or pairs i d))
    → (i : ℕ) (d : PortPair) → i < k + 1 → IsDrained (get_or (set pairs k q) i d)
drained_more pairs k q low here before i d less = elim (cases_eq i k) [
  | inl is ↦
      let at : IsDrained (get_or (set pairs k q) k d) = subst IsDrained (sym (get_or-set_same pairs k q d low)) here in
      subst (λ (j : ℕ). IsDrained (get_or (set pairs k q) j d)) (sym is) at
  | inr off ↦ subst IsDrained (sym (get_or-set_other pairs k i q d off)) (before i d (omega (arith, less, off)))
]
