use Rattle.std.proofs.Common.{ℕ, List, length, arith, refl, sym, subst, ◌∙◌}
use Rattle.message_bound.specs.PairTables.{ArePairCosts}
use Rattle.message_bound.proofs.Entries.{raised_little}
use Rattle.message_bound.proofs.Under.{passed}
use Rattle.message_bound.proofs.messages.pass_message.Goals as goal

pub raise-requires-clause-small : goal.raise-requires-clause-small
raise-requires-clause-small g c = λ j l.
    let lowered = raised_little _ _ _ c.lower.new.rows c.args.rows.now
    (λ k h. (c.take.ensures.small k (omega (arith, h, c.take.auto.taken, c.requires.taken))).0) c.lower.ensures j in
    let was = c.requires.range j (omega (arith, l, c.lower.ensures.size)) in
    omega (arith, lowered.0, was.1, c.requires.index, c.keeps.ensures.count)

pub raise-requires-2-clause-small : goal.raise-requires-2-clause-small
raise-requires-2-clause-small g c = λ j l.
    let lowered = raised_little _ _ _ c.lower.new.rows c.args.rows.now
    (λ k h. (c.take.ensures.small k (omega (arith, h, c.take.auto.taken, c.requires.taken))).0) c.lower.ensures j in
    let gave = raised_little _ _ _ c.lower.new.rows c.raise.new.rows
    (λ k h. (c.take.ensures.small k (omega (arith, h, c.take.auto.given, c.requires.given))).1) c.raise.ensures j in
    let was = c.requires.range j (omega (arith, l, c.lower.ensures.size, c.raise.ensures.size)) in
    omega (arith, lowered.0, gave.1, was.1, c.requires.index, c.keeps.ensures.count)

pub returns-clause-range : goal.returns-clause-range
returns-clause-range g c = λ j l.
    let lowered = raised_little _ _ _ c.lower.new.rows c.args.rows.now
    (λ k h. (c.take.ensures.small k (omega (arith, h, c.take.auto.taken, c.requires.taken))).0) c.lower.ensures j in
    let gave = raised_little _ _ _ c.lower.new.rows c.raise.new.rows
    (λ k h. (c.take.ensures.small k (omega (arith, h, c.take.auto.given, c.requires.given))).1) c.raise.ensures j in
    let raised = raised_little _ _ _ c.raise.new.rows c.raise-2.new.rows (λ k h. (c.type_inv.added k).fits) c.raise-2.ensures j in
    let was = c.requires.range j (omega (arith, l, c.lower.ensures.size, c.raise.ensures.size, c.raise-2.ensures.size)) in
    (omega (arith, lowered.1, gave.0, raised.0, was.0), omega (arith, lowered.0, gave.1, raised.1, was.1))

pub returns-clause-under : goal.returns-clause-under
returns-clause-under g c = λ m meant.
    let w = length c.args.added.now in
    let p = c.args.problem.now in
    let pair = c.get-pair.result in
    let times = c.load-weight.result in
    let P : ℕ → Type 0 = λ k. ArePairCosts m k pair.weight c.load-weight.new.self.entries times in
    let Q : List ℕ → Type 0 = λ es. ArePairCosts m w pair.weight es times in
    let are = subst Q (sym c.as_slice.ensures.entries) (subst P (sym c.requires.added) (c.load-weight.ensures.costs m meant)) in
    passed m c.args.index p.pairs.sites w _ _ _ times pair p.pairs.list c.as_slice.result.now c.take.new.taken c.take.new.given c.args.added.now c.args.rows.now c.lower.new.rows
    c.raise.new.rows c.raise-2.new.rows
    meant.sites_are (meant.labels_are ∙ sym c.requires.added) meant.pairs_are are c.requires.index c.get-pair.ensures.value c.get-pair.ensures.pair.first c.get-pair.ensures.pair.second
    (omega (arith, c.take.auto.taken, c.requires.taken)) (omega (arith, c.take.auto.given, c.requires.given)) refl
    c.lower.ensures c.raise.ensures c.raise-2.ensures c.take.ensures.paid
