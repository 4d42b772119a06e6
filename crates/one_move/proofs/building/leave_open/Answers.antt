use Rattle.std.proofs.Common.{◌≤◌, ◌∙◌, List, ℕ, ℤ, length, ap, sym, subst}
use Rattle.compile_cut.specs.Weights.{weights_size}
use Rattle.label_energies.specs.Energies.{labelling}
use Rattle.move_energy.specs.declared.choice.Choice.{Choice}
use Rattle.move_energy.specs.Choices.{choice_at, AreOpenSites}
use Rattle.move_energy.specs.Limits.{weights_limit}
use Rattle.move_energy.specs.Weights.{AreWeights, open_weights}
use Rattle.one_move.specs.Building.{TellsLeft}
use Rattle.one_move.proofs.Forms.{read_meant}
use Rattle.one_move.proofs.building.leave_open.Goals as goal

pub leave_weighed-requires-clause-can : goal.leave_weighed-requires-clause-can
leave_weighed-requires-clause-can g c =
    let count = ap (λ (f : List ℕ). length f) (sym c.form-form.ensures.at) in
    record {
      begins = record {
        over = c.form-form.ensures.over;
        starts = ap (λ (xs : List Choice). length xs) c.deref.ensures.value ∙ c.requires.weighed.read.count ∙ count;
        weighed = ap (λ (ws : List ℤ). length ws) c.deref-2.ensures.value ∙ c.requires.weighed.sized.0 ∙ count;
        size = subst (λ (X : Type 0). X)
            (λ i. weights_size (open_weights (sym c.deref.ensures.value i) (sym c.deref-2.ensures.value i) (count i)) ≤ weights_limit) c.requires.weighed.sized.1;
      };
      count = ap (λ (xs : List Choice). length xs) c.deref-3.ensures.value ∙ c.requires.weighed.read.count ∙ count;
      goes_on = λ p l shuts. ap (λ (ks : List Choice). choice_at ks p) (c.deref-3.ensures.value ∙ sym c.deref.ensures.value);
    }

pub leave_weighed-requires-clause-opened : goal.leave_weighed-requires-clause-opened
leave_weighed-requires-clause-opened g c =
    let O : List ℕ → Type 0 = λ sites. AreOpenSites c.args.space.now.built.variables.choices.items sites in
    let K : List Choice → Type 0 = λ ks. AreOpenSites ks c.deref-4.result.now in
    subst K (sym c.deref-3.ensures.value) (subst O (sym c.deref-4.ensures.value) (c.requires.weighed.read.near.lists.opened c.requires.listed))

pub returns-clause-left : goal.returns-clause-left
returns-clause-left g c =
    let a = c.args in
    let w = c.requires.weighed in
    let choices = a.space.now.built.variables.choices.items in
    let from = c.form-form.ensures.at in
    let new = c.leave_weighed.new.written in
    let left = c.in_ok-left.left in
    record {
      sized = c.in_ok-left.ensures.sized;
      tells = read_meant _ _ a.problem.now a.space.now.deciding.ends a.at.now a.change a.space.now.deciding.numbers c.form-form.result (λ m f. TellsLeft m a.change (labelling f) choices new left)
          w.read.numbers.allowed w.read.numbers.read from c.form-form.ensures.of
          (λ m meant is.
          let W : List ℤ → Type 0 = λ ws. AreWeights m a.change (labelling a.at.now) (choice_at choices) ws in
          let C : List Choice → Type 0 = λ cs. AreWeights m a.change (labelling a.at.now) (choice_at cs) c.deref-2.result.now in
          let F : List ℕ → Type 0 = λ f. AreWeights m a.change (labelling f) (choice_at c.deref.result.now) c.deref-2.result.now in
          let T : List Choice → Type 0 = λ cs. TellsLeft m a.change (labelling c.form-form.result.at.now) cs new left in
          subst T c.deref-3.ensures.value
          (c.in_ok-left.ensures.tells m a.change is (subst F (sym from) (subst C (sym c.deref.ensures.value) (subst W (sym c.deref-2.ensures.value) (w.weights m meant))))));
    }
