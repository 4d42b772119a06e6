use Rattle.std.proofs.Common.{◌≡◌, ◌∙◌, sym, subst, ap, List}
use Rattle.std.proofs.lemmas.Option.{get_or_from_slice_get}
use Rattle.label_field.specs.declared.pair.Pair.{Pair}
use Rattle.label_energies.specs.Energies.{labelling}
use Rattle.move_energy.specs.BySite.{pair_in}
use Rattle.form_lists.specs.PairSides.{AreSidesOf, sides_in}
use Rattle.form_lists.proofs.ByPair.{same_pair}
use Rattle.form_lists.proofs.by_pair.sides_known.Goals as goal

pub returns-then-eq-clause-rises : goal.returns-then-eq-clause-rises
returns-then-eq-clause-rises g c = λ m meant.
    let a = c.args in
    let n = a.pair.weight in
    let P : Pair → Type 0 = λ pair. AreSidesOf m a.change (labelling a.at.now) pair (sides_in a.listed.now n) in
    let read : pair_in m.pairs n ≡ c.get.result = ap (λ (xs : List Pair). pair_in xs n) meant.pairs_are
    ∙ get_or_from_slice_get a.problem.now.pairs.list n c.get.result (record { first = 0; second = 0; weight = 0 }) c.get.ensures.value in
    subst P (read ∙ same_pair c.get.result a.pair (sym c.eq.ensures ∙ c.if-eq.true)) (c.requires.read m meant n c.if-number-listed.true)
