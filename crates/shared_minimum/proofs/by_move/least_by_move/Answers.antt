use Rattle.std.proofs.Common.{◌∙◌, ◌<◌, ℕ, List, ap, subst, arith}
use Rattle.std.specs.Prelude.{Option, IfSome}
use Rattle.label_field.specs.PairLists.{PairList}
use Rattle.form_costs.specs.FormCosts.{AreFormPairs}
use Rattle.std.specs.Prelude.{◌==◌, slice_index}
use Rattle.pseudo_bool.specs.Energies.{assignment}
use Rattle.form_costs.proofs.Best.{best_is_minimum}
use Rattle.shared_minimum.proofs.by_move.least_by_move.Goals as goal

pub returns-clause-best : goal.returns-clause-best
returns-clause-best g c =
    let e = c.args.energy.now in
    let says = c.in-Ok.ensures in
    let at = c.as_slice.ensures.value in
    let P : Option PairList → Type 0 = λ found. IfSome found (AreFormPairs c.in-Ok.form) in
    let pairs = subst P c.in-Ok-Some.field-0-is c.in-Ok-Some.ensures in
    best_is_minimum e c.in-Ok.form c.in-Ok-Some.pairs c.in-Some.labelling.at (assignment c.in-Ok-list_ones.bits.items) says.limits says.values says.variables pairs c.in-Some.ensures
    (λ p l. c.in-Ok-list_ones.ensures.each p (omega (arith, l, c.variables.ensures.value)) ∙ ap (λ (xs : List ℕ). slice_index xs p == 1) at)
