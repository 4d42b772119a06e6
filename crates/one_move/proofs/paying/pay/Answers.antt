use Rattle.std.proofs.Common.{inl, inr, arith}
use Rattle.cost_store.proofs.Meaning.{pairs_meant}
use Rattle.label_energies.specs.Energies.{labelling}
use Rattle.one_move.specs.Building.{site_values}
use Rattle.one_move.proofs.Prices.{answer_left}
use Rattle.one_move.proofs.paying.pay.Goals as goal

pub returns-clause-answer : goal.returns-clause-answer
returns-clause-answer g c = λ m meant size answer.
    let a = c.args in
    answer_left m a.change (labelling a.at.now) a.price (site_values a.space.now.built.variables.choices.items) _ (pairs_meant _ _ _ m c.requires.posed meant)
    (λ p l. c.clear.ensures.zeros p (omega (arith, l, size, c.requires.choices))) answer
    (λ worth. elim worth [
      | inl none ↦ absurd (omega (arith, none, c.if-price-eq0.false))
      | inr low ↦ (let so = (c.saves.ensures m meant).1 low in absurd (cc (so, c.if-saves.false)))
    ])
