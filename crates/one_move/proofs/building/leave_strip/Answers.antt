use Rattle.std.proofs.Common.{◌≤◌, ◌∙◌, List, ℕ, ℤ, length, ap, sym, subst}
use Rattle.std.specs.Global.{Vec}
use Rattle.compile_cut.specs.Weights.{weights_size}
use Rattle.label_energies.specs.Energies.{Instance, labelling}
use Rattle.cost_store.specs.Posed.{IsMeant, WhereMeant}
use Rattle.move_energy.specs.declared.choice.Choice.{Choice}
use Rattle.move_energy.specs.Choices.{choice_at, AreOpenSites}
use Rattle.move_energy.specs.Limits.{weights_limit}
use Rattle.move_energy.specs.Weights.{AreWeights, open_weights}
use Rattle.move_energy.specs.MoveValues.{move_value}
use Rattle.persistency.specs.Agreeing.{Agree}
use Rattle.one_move.specs.Building.{TellsLeft}
use Rattle.one_move.proofs.Forms.{read_meant}
use Rattle.one_move.proofs.building.leave_strip.Goals.{In_ok-left}
use Rattle.one_move.proofs.building.leave_strip.Goals as goal

pub close_in-requires-clause-begins : goal.close_in-requires-clause-begins
close_in-requires-clause-begins g c =
    let at = c.form-form.ensures.at in
    let count = ap (λ (f : List ℕ). length f) (sym at) in
    let start = c.deref.ensures.value ∙ ap (λ (v : _). v.items) c.swap.ensures.x_after in
    let weights = c.deref-2.ensures.value in
    record {
      over = c.form-form.ensures.over;
      starts = ap (λ (xs : List Choice). length xs) start ∙ c.requires.weighed.read.count ∙ count;
      weighed = ap (λ (ws : List ℤ). length ws) weights ∙ c.requires.weighed.sized.0 ∙ count;
      size = subst (λ (X : Type 0). X) (λ i. weights_size (open_weights (sym start i) (sym weights i) (count i)) ≤ weights_limit) c.requires.weighed.sized.1;
    }

pub leave_weighed-requires-clause-can : goal.leave_weighed-requires-clause-can
leave_weighed-requires-clause-can g c = rw c.deref-3.ensures.value c.in_ok-close_in.ensures.can

pub leave_weighed-requires-clause-opened : goal.leave_weighed-requires-clause-opened
leave_weighed-requires-clause-opened g c =
    let choices = c.close_in.new.variables.choices.items in
    let O : List ℕ → Type 0 = λ sites. AreOpenSites choices sites in
    let V : Vec ℕ → Type 0 = λ v. AreOpenSites choices v.items in
    let K : List Choice → Type 0 = λ ks. AreOpenSites ks c.deref-4.result.now in
    subst K (sym c.deref-3.ensures.value) (subst O (sym c.deref-4.ensures.value) (subst V (sym c.swap-2.ensures.x_after) c.in_ok-close_in.ensures.opened))

-- what was weighed of the move is so of the form that was read
weighed : (g : _) (c : In_ok-left g) (m : Instance) → IsMeant g.F.Fn g.V.Fn c.args.problem.now m
    → AreWeights m c.args.change (labelling c.form-form.result.at.now) (choice_at c.deref.result.now) c.deref-2.result.now
weighed g c m meant =
    let a = c.args in
    let start = c.deref.ensures.value ∙ ap (λ (v : _). v.items) c.swap.ensures.x_after in
    let F : List ℕ → Type 0 = λ f. AreWeights m a.change (labelling f) (choice_at c.deref.result.now) c.deref-2.result.now in
    let C : List Choice → Type 0 = λ cs. AreWeights m a.change (labelling a.at.now) (choice_at cs) c.deref-2.result.now in
    let W : List ℤ → Type 0 = λ ws. AreWeights m a.change (labelling a.at.now) (choice_at a.space.now.built.variables.choices.items) ws in
    subst F (sym c.form-form.ensures.at) (subst C (sym start) (subst W (sym c.deref-2.ensures.value) (c.requires.weighed.weights m meant)))

-- what is told of the form is told of the move
left_told : (g : _) (c : In_ok-left g)
    → WhereMeant g.F.Fn g.V.Fn c.args.problem.now (λ m. TellsLeft m c.args.change (labelling c.args.at.now) c.close_in.new.variables.choices.items c.leave_weighed.new.written c.in_ok-left.left)
left_told g c =
    let a = c.args in
    let numbers = c.requires.weighed.read.numbers in
    let left = c.in_ok-left.left in
    read_meant _ _ a.problem.now a.space.now.deciding.ends a.at.now a.change a.space.now.deciding.numbers c.form-form.result
    (λ m f. TellsLeft m a.change (labelling f) c.close_in.new.variables.choices.items c.leave_weighed.new.written left)
    numbers.allowed numbers.read c.form-form.ensures.at c.form-form.ensures.of
    (λ m meant is.
    let T : List Choice → Type 0 = λ cs. TellsLeft m a.change (labelling c.form-form.result.at.now) cs c.leave_weighed.new.written left in
    subst T c.deref-3.ensures.value (c.in_ok-left.ensures.tells m a.change is (weighed g c m meant)))

-- and the choices agree with it still
still_agree : (g : _) (c : In_ok-left g)
    → WhereMeant g.F.Fn g.V.Fn c.args.problem.now (λ m. Agree m.sites (move_value m c.args.change (labelling c.args.at.now)) (choice_at c.args.space.now.built.variables.choices.items)
    → Agree m.sites (move_value m c.args.change (labelling c.args.at.now)) (choice_at c.close_in.new.variables.choices.items))
still_agree g c =
    let a = c.args in
    let numbers = c.requires.weighed.read.numbers in
    let start = c.deref.ensures.value ∙ ap (λ (v : _). v.items) c.swap.ensures.x_after in
    read_meant _ _ a.problem.now a.space.now.deciding.ends a.at.now a.change a.space.now.deciding.numbers c.form-form.result
    (λ m f. Agree m.sites (move_value m a.change (labelling f)) (choice_at a.space.now.built.variables.choices.items)
    → Agree m.sites (move_value m a.change (labelling f)) (choice_at c.close_in.new.variables.choices.items))
    numbers.allowed numbers.read c.form-form.ensures.at c.form-form.ensures.of
    (λ m meant is agree.
    let A : List Choice → Type 0 = λ cs. Agree m.sites (move_value m a.change (labelling c.form-form.result.at.now)) (choice_at cs) in
    c.in_ok-close_in.ensures.agree m a.change is (weighed g c m meant) (subst A (sym start) agree))

pub returns-then-space-clause-of_problem : goal.returns-then-space-clause-of_problem
returns-then-space-clause-of_problem g c = c.requires.weighed.read.of_problem

pub returns-then-space-clause-left : goal.returns-then-space-clause-left
returns-then-space-clause-left g c = record {
  sized = c.in_ok-left.ensures.sized;
  tells = left_told g (goal.at.returns-then-space-clause-left g c).In_ok-left;
}

pub returns-then-space-clause-agree : goal.returns-then-space-clause-agree
returns-then-space-clause-agree g c = still_agree g (goal.at.returns-then-space-clause-agree g c).In_ok-left

pub returns-clause-of_problem : goal.returns-clause-of_problem
returns-clause-of_problem g c = c.requires.weighed.read.of_problem

pub returns-clause-left : goal.returns-clause-left
returns-clause-left g c = record {
  sized = c.in_ok-left.ensures.sized;
  tells = left_told g (goal.at.returns-clause-left g c).In_ok-left;
}

pub returns-clause-agree : goal.returns-clause-agree
returns-clause-agree g c = still_agree g (goal.at.returns-clause-agree g c).In_ok-left
