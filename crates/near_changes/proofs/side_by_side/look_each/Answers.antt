use Rattle.std.proofs.Common.{sym, subst, arith}
use Rattle.std.specs.Prelude.{slice_index_or}
use borrow.Pointer.Hide.{carried_same}
use Rattle.site_bounds.proofs.Trying.{if_ok_two}
use Rattle.near_changes.proofs.side_by_side.look_each.Goals as goal
use Rattle.near_changes.proofs.side_by_side.look_each.OwnLists.{same-1-1}

pub do_parts-requires-clause-work : goal.do_parts-requires-clause-work
do_parts-requires-clause-work g c = λ i l.
    ∣ (subst (λ (X : Type 0). X) (sym (carried_same _ _ _ _ (same-1-1 c.do_parts-arg-2-1.given) (Type 0) (λ j y. j.1.pre y.now (i, tt)) _)) (omega (arith, l, c.requires.few), c.requires.over, c.requires.sites, c.requires.inside)) ∣₁

pub returns-clause-found : goal.returns-clause-found
returns-clause-found g c = if_ok_two c.do_parts.result _ _ _ (λ v count each. λ i part l.
    subst (λ (X : Type 0). X) (carried_same _ _ _ _ (same-1-1 c.do_parts-arg-2-1.given) (Type 0) (λ j y. j.1.post y.now (i, tt) (slice_index_or v.items i part)) _) (each i part (omega (arith, l, count, v.ok))))
    c.do_parts.ensures.count c.do_parts.ensures.each
