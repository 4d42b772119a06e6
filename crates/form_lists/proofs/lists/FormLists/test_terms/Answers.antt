use Rattle.std.proofs.Common.{◌≡◌, List, length, sym, subst}
use Rattle.label_energies.specs.Energies.{labelling}
use Rattle.form_lists.specs.declared.by_pair.PairRises.{PairRises}
use Rattle.form_lists.specs.PairSides.{AreSidesRead}
use Rattle.form_lists.proofs.lists.FormLists.test_terms.Goals as goal

pub returns : goal.returns
returns c = λ m move at listed terms.
    let N : List PairRises → Type 0 = λ sides. length sides ≡ length m.pairs in
    let S : List PairRises → Type 0 = λ sides. AreSidesRead m move (labelling at) sides in
    c.test_sides.ensures m move at (subst N (sym c.deref.ensures.value) (terms.count listed)) (subst S (sym c.deref.ensures.value) (terms.read listed))
