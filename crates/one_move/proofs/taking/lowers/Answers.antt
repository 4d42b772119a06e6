use Rattle.std.proofs.Common.{◌≡◌, List, ℕ, sym, subst, arith}
use Rattle.label_energies.specs.Energies.{labelling}
use Rattle.move_energy.specs.declared.choice.Choice.{Choice}
use Rattle.one_move.specs.Building.{HasChanges}
use Rattle.one_move.specs.Turning.{energy_rise}
use Rattle.one_move.proofs.Rising.{whole, lower_by}
use Rattle.one_move.proofs.taking.lowers.Goals as goal

pub returns-then-space : goal.returns-then-space
returns-then-space g c = λ m meant.
    let a = c.args in
    let form = c.form-form in
    let numbers = c.requires.form.numbers in
    let is = form.ensures.of m a.change meant.sites_are meant.pairs_are (numbers.allowed m meant) (numbers.read m meant) in
    let C : List ℕ → Type 0 = λ f. HasChanges a.change f a.space.now.built.variables.choices.items a.space.now.deciding.lists.changing.items in
    let D : List Choice → Type 0 = λ cs. HasChanges a.change form.result.at.now cs a.space.now.deciding.lists.changing.items in
    let S : List ℕ → Type 0 = λ sites. HasChanges a.change form.result.at.now c.deref.result.now sites in
    let changes = subst S (sym c.deref-then-space.ensures.value) (subst D (sym c.deref.ensures.value) (subst C (sym form.ensures.at) (c.requires.changes c.if-space.true))) in
    let F : List ℕ → Type 0 = λ f. c.change_of_listed.result ≡ energy_rise m a.change (labelling f) a.space.now.built.variables.choices.items in
    let K : List Choice → Type 0 = λ cs. c.change_of_listed.result ≡ energy_rise m a.change (labelling form.result.at.now) cs in
    let told = subst F form.ensures.at (subst K c.deref.ensures.value (c.change_of_listed.ensures.rise m a.change is changes)) in
    lower_by c.is_negative.result _ c.change_of_listed.result _ _ (whole c.change_of_listed.result (omega (arith, c.change_of_listed.ensures.range))) told c.is_negative.ensures

pub returns : goal.returns
returns g c = λ m meant.
    let a = c.args in
    let form = c.form-form in
    let numbers = c.requires.form.numbers in
    let is = form.ensures.of m a.change meant.sites_are meant.pairs_are (numbers.allowed m meant) (numbers.read m meant) in
    let F : List ℕ → Type 0 = λ f. c.change_of_all.result ≡ energy_rise m a.change (labelling f) a.space.now.built.variables.choices.items in
    let K : List Choice → Type 0 = λ cs. c.change_of_all.result ≡ energy_rise m a.change (labelling form.result.at.now) cs in
    let told = subst F form.ensures.at (subst K c.deref-2.ensures.value (c.change_of_all.ensures.rise m a.change is)) in
    lower_by c.is_negative-2.result _ c.change_of_all.result _ _ (whole c.change_of_all.result (omega (arith, c.change_of_all.ensures.range))) told c.is_negative-2.ensures
