use Rattle.std.proofs.Common.{◌≡◌, ◌∙◌, ℕ, List, true, inl, inr, sym, subst, refl, arith}
use Rattle.label_energies.specs.declared.change.Move.TheVariants.{Expand}
use Rattle.label_energies.specs.Energies.{labelling}
use Rattle.cost_store.proofs.Meaning.{pairs_meant, metric_meant}
use Rattle.near_changes.specs.Changes.{made_of}
use Rattle.near_changes.specs.Looking.{changed_since, AreFreshSites}
use Rattle.later_expansions.proofs.Stages.{metric_allowed, tested_gives, on_ok}
use Rattle.later_expansions.proofs.later_expansion.begin_numbers.Goals as goal

pub returns-then-problem-clause-numbers : goal.returns-then-problem-clause-numbers
returns-then-problem-clause-numbers g c =
    let a = c.args in
    let asked = c.requires.asked in
    record {
      sites_are = asked.asked.sites;
      allowed = λ m meant. metric_allowed m a.alpha a.problem.now.data_cost.labels a.at.now a.at.now (pairs_meant _ _ _ m asked.posed meant)
          (metric_meant _ _ _ m asked.posed meant c.if-problem.true) (omega (arith, asked.asked.move_of, meant.labels_are)) (sym meant.labels_are)
          (asked.asked.sites ∙ sym meant.sites_are) refl asked.asked.labels;
      lists = c.in_ok-begin.ensures.lists;
      read = c.in_ok-begin.ensures.read;
    }

pub returns-clause-numbers : goal.returns-clause-numbers
returns-clause-numbers g c =
    let a = c.args in
    let numbered : a.problem.now.pairs.numbered ≡ true = elim c.requires.testable [
      | inl metric ↦ absurd (let no = c.if-problem.false in cc (metric, no))
      | inr numbered ↦ numbered
    ] in
    let listed = c.in_ok-begin.ensures.lists.kind ∙ numbered in
    tested_gives g.F.Fn g.V.Fn a.problem.now (Expand a.alpha) (labelling a.at.now) _ c.test_terms.result
    (λ m meant. c.test_terms.ensures m (Expand a.alpha) a.at.now listed (c.in_ok-begin.ensures.terms m meant))
    (λ allowed. record {
      sites_are = c.requires.asked.asked.sites;
      allowed = allowed;
      lists = c.in_ok-begin.ensures.lists;
      read = c.in_ok-begin.ensures.read;
    })

pub returns-then-problem-clause-fresh : goal.returns-then-problem-clause-fresh
returns-then-problem-clause-fresh g c =
    let a = c.args in
    let stage = c.mark_fresh.new.self in
    let A : List ℕ → ℕ → Type 0 = λ stamps since. AreFreshSites a.problem.now.pairs a.alpha (labelling a.at.now) (changed_since stamps since) stage in
    let B : List ℕ → Type 0 = λ stamps. A stamps c.last.result in
    let D : ℕ → Type 0 = λ since. A a.changes.now.stamps.items since in
    subst D c.last.ensures (subst B c.deref.ensures.value c.in_ok-mark_fresh.ensures.fresh)

pub returns-clause-fresh : goal.returns-clause-fresh
returns-clause-fresh g c =
    let a = c.args in
    let stage = c.mark_fresh.new.self in
    let A : List ℕ → ℕ → Type 0 = λ stamps since. AreFreshSites a.problem.now.pairs a.alpha (labelling a.at.now) (changed_since stamps since) stage in
    let B : List ℕ → Type 0 = λ stamps. A stamps c.last.result in
    let D : ℕ → Type 0 = λ since. A a.changes.now.stamps.items since in
    on_ok (D (made_of a.changes.now a.alpha)) c.test_terms.result (subst D c.last.ensures (subst B c.deref.ensures.value c.in_ok-mark_fresh.ensures.fresh))
