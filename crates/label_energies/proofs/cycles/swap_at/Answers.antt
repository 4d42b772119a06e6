use Rattle.std.proofs.Common.{◌≡◌, ◌+◌, ◌∙◌, length, slice_get, Some, ℕ, arith, ap, subst}
use Rattle.label_energies.specs.declared.change.Move.TheVariants.{Swap}
use Rattle.label_energies.specs.Chains.{swaps}
use Rattle.label_energies.proofs.Swaps.{swaps_before}
use Rattle.label_energies.proofs.Places.{before-length, swaps_all, swap_at}
use Rattle.label_energies.proofs.cycles.swap_at.Goals as goal

pub returns-then-left-partners-clause-at : goal.returns-then-left-partners-clause-at
returns-then-left-partners-clause-at c =
    let k = c.args.labels in
    let a = c.loop-alpha.alpha in
    let counted = c.loop-alpha.invariant.counted in
    let P : ℕ → Type 0 = λ n. slice_get (swaps k) n ≡ Some (Swap a (a + 1 + c.loop-alpha.left)) in
    subst P counted (swap_at k a c.loop-alpha.left (omega arith) (omega arith) (omega (arith, counted)))

pub loop-alpha-preserved : goal.loop-alpha-preserved
loop-alpha-preserved c = record {
  counted = (let more = before-length c.args.labels c.loop-alpha.alpha (omega arith) in let counted = c.loop-alpha.invariant.counted in omega (arith, more, counted));
}

pub unreachable-requires : goal.unreachable-requires
unreachable-requires c =
    let k = c.args.labels in
    let end : c.loop-alpha.alpha ≡ k = omega arith in
    let all = ap (λ a. length (swaps_before k a)) end ∙ ap length (swaps_all k) in
    let counted = c.loop-alpha.invariant.counted in
    omega (arith, all, counted)
