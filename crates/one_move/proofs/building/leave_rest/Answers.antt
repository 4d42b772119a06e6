use Rattle.std.proofs.Common.{◌∙◌, List, ℕ, length, ap, sym, subst}
use Rattle.std.specs.Global.{Vec}
use Rattle.label_energies.specs.Energies.{labelling}
use Rattle.move_energy.specs.declared.choice.Choice.{Choice}
use Rattle.move_energy.specs.Choices.{AreOpenSites}
use Rattle.one_move.specs.Building.{TellsLeft}
use Rattle.one_move.proofs.Forms.{read_meant}
use Rattle.one_move.proofs.building.leave_rest.Goals as goal

pub leave_read-requires-clause-count : goal.leave_read-requires-clause-count
leave_read-requires-clause-count g c = ap (λ (xs : List Choice). length xs) c.deref.ensures.value ∙ c.requires.read.count ∙ ap (λ (f : List ℕ). length f) (sym c.form-form.ensures.at)

pub leave_read-requires-clause-opened : goal.leave_read-requires-clause-opened
leave_read-requires-clause-opened g c =
    let O : List ℕ → Type 0 = λ sites. AreOpenSites c.args.space.now.built.variables.choices.items sites in
    let K : List Choice → Type 0 = λ ks. AreOpenSites ks c.deref-then-space.result.now in
    subst K (sym c.deref.ensures.value) (subst O (sym c.deref-then-space.ensures.value) (c.requires.read.near.lists.opened c.if-space.true))

pub returns-then-space-clause-left : goal.returns-then-space-clause-left
returns-then-space-clause-left g c =
    let a = c.args in
    let numbers = c.requires.read.numbers in
    let choices = a.space.now.built.variables.choices.items in
    let new = c.leave_read.new.written in
    let left = c.in_ok-left.left in
    record {
      sized = c.in_ok-left.ensures.sized;
      tells = read_meant _ _ a.problem.now a.space.now.deciding.ends a.at.now a.change a.space.now.deciding.numbers c.form-form.result (λ m f. TellsLeft m a.change (labelling f) choices new left)
          numbers.allowed numbers.read c.form-form.ensures.at c.form-form.ensures.of
          (λ m meant is.
          let T : List Choice → Type 0 = λ cs. TellsLeft m a.change (labelling c.form-form.result.at.now) cs new left in
          subst T c.deref.ensures.value (c.in_ok-left.ensures.tells m a.change is));
    }

pub leave_read-requires-2-clause-count : goal.leave_read-requires-2-clause-count
leave_read-requires-2-clause-count g c = ap (λ (xs : List Choice). length xs) c.deref-3.ensures.value ∙ c.requires.read.count ∙ ap (λ (f : List ℕ). length f) (sym c.form-form.ensures.at)

pub leave_read-requires-2-clause-opened : goal.leave_read-requires-2-clause-opened
leave_read-requires-2-clause-opened g c =
    let choices = c.args.space.now.built.variables.choices.items in
    let O : List ℕ → Type 0 = λ sites. AreOpenSites choices sites in
    let V : Vec ℕ → Type 0 = λ v. AreOpenSites choices v.items in
    let K : List Choice → Type 0 = λ cs. AreOpenSites cs c.list_open.new.self.opened.items in
    let N : List Choice → Type 0 = λ cs. AreOpenSites cs c.deref-4.result.now in
    subst N (sym c.deref-3.ensures.value) (subst O (sym c.deref-4.ensures.value) (subst V (sym c.swap.ensures.x_after) (subst K c.deref-2.ensures.value c.in_ok-list_open.ensures.opened)))

pub returns-clause-left : goal.returns-clause-left
returns-clause-left g c =
    let a = c.args in
    let numbers = c.requires.read.numbers in
    let choices = a.space.now.built.variables.choices.items in
    let new = c.leave_read-2.new.written in
    let left = c.in_ok-rest.rest in
    record {
      sized = c.in_ok-rest.ensures.sized;
      tells = read_meant _ _ a.problem.now a.space.now.deciding.ends a.at.now a.change a.space.now.deciding.numbers c.form-form.result (λ m f. TellsLeft m a.change (labelling f) choices new left)
          numbers.allowed numbers.read c.form-form.ensures.at c.form-form.ensures.of
          (λ m meant is.
          let T : List Choice → Type 0 = λ cs. TellsLeft m a.change (labelling c.form-form.result.at.now) cs new left in
          subst T c.deref-3.ensures.value (c.in_ok-rest.ensures.tells m a.change is));
    }
