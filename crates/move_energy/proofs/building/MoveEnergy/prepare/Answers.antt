use Rattle.std.proofs.Common.{◌∙◌, List, sym, subst}
use Rattle.move_energy.specs.Choices.{AreAllOpen}
use Rattle.move_energy.specs.declared.choice.Choice.{Choice}
use Rattle.cost_store.proofs.Meaning.{pairs_meant}
use Rattle.move_energy.proofs.Whole.{prepared_of}
use Rattle.std.proofs.lemmas.Result.{err_from_is_err_and}
use Rattle.move_energy.proofs.building.MoveEnergy.prepare.Goals as goal

pub returns-clause-prepared : goal.returns-clause-prepared
returns-clause-prepared g c = λ m meant.
    let P : List Choice → Type 0 = λ xs. AreAllOpen c.args.change c.args.at.now xs in
    prepared_of m c.args.change c.args.at.now c.build.new.self c.build.result
    (pairs_meant _ _ _ m c.requires.posed meant)
    (c.requires.asked.sites ∙ sym meant.sites_are) (subst P (sym c.build.ensures.kept) c.in_ok-open_all.ensures) (c.build.ensures.built m meant)

pub returns-clause-bounded : goal.returns-clause-bounded
returns-clause-bounded g c = c.build.ensures.bounded

pub returns-in_err-open_all-clause-opened : goal.returns-in_err-open_all-clause-opened
returns-in_err-open_all-clause-opened g c =
    let p = err_from_is_err_and c.from_residual.result c.from_residual.ensures.1 in
    rw (p.1) tt

pub returns-in_err-open_all-clause-bounded : goal.returns-in_err-open_all-clause-bounded
returns-in_err-open_all-clause-bounded g c =
    let p = err_from_is_err_and c.from_residual.result c.from_residual.ensures.1 in
    rw (p.1) tt

pub returns-clause-form : goal.returns-clause-form
returns-clause-form g c = c.build.ensures.form

pub returns-in_err-open_all-clause-form : goal.returns-in_err-open_all-clause-form
returns-in_err-open_all-clause-form g c =
    let p = err_from_is_err_and c.from_residual.result c.from_residual.ensures.1 in
    rw (p.1) tt
