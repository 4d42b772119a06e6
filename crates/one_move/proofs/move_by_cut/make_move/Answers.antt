use Rattle.std.proofs.Common.{rules, ◌<◌, ◌∙◌, All, List, refl, ap, sym, subst, length, IsTrue, ℕ, arith}
use Rattle.std.proofs.lemmas.Result.{err_from_is_err_and}
use Rattle.label_energies.specs.Energies.{labelling}
use Rattle.label_energies.specs.Moves.{IsMoveOf}
use Rattle.move_energy.specs.declared.choice.Choice.{Choice}
use Rattle.move_energy.specs.Choices.{AreAssigned, AreOpenSites}
use Rattle.one_move.proofs.Answers.{cut_refusal, cut_may_come, pair_may_come, pair_refusal, taken_free, costs_costly}
use Rattle.site_bounds.specs.declared.sites.Deciding.{Deciding}
use Rattle.cost_store.proofs.Meaning.{pairs_meant}
use Rattle.one_move.proofs.Prices.{assigned_answer}
use Rattle.one_move.proofs.Changes.{near_changes}
use Rattle.one_move.specs.Building.{HasFormOf}
use Rattle.one_move.proofs.Forms.{still_form}
use Rattle.one_move.proofs.OfProblem.{still_of_problem}
use Rattle.cost_store.specs.LabelCosts.{AreLabelCosts}
use Rattle.one_move.proofs.move_by_cut.make_move.Goals as goal

pub returns-in-Err-PairNotRegular-clause-moved : goal.returns-in-Err-PairNotRegular-clause-moved
returns-in-Err-PairNotRegular-clause-moved g c = λ m meant.
    let P : ℕ → Type 0 = λ k. IsMoveOf k c.args.change in
    let here = subst P (c.labels.ensures.value ∙ c.requires.fits.labels ∙ sym meant.labels_are) (c.is_below.ensures.0 c.if-not-is_below.false) in
    let first = rw (c.in-Err-PairNotRegular.field-0-is, c.as_slice.ensures.value) at (c.in-Err-PairNotRegular.ensures.built m meant) in (
      refl,
      pair_refusal m c.args.change c.args.labelling.now.at c.in-Err-PairNotRegular.pair c.not_regular.result here first
          (taken_free m c.args.change c.args.problem.now.label_costs meant.costs_are (c.is_taken.ensures.taken c.if-not-is_taken.false))
          (rw c.in-Err-PairNotRegular.field-0-is at c.not_regular.ensures),
    )

pub returns-in_err-bits-clause-moved : goal.returns-in_err-bits-clause-moved
returns-in_err-bits-clause-moved g c = λ m meant.
    let P : ℕ → Type 0 = λ k. IsMoveOf k c.args.change in
    let here = subst P (c.labels.ensures.value ∙ c.requires.fits.labels ∙ sym meant.labels_are) (c.is_below.ensures.0 c.if-not-is_below.false) in
    let p = err_from_is_err_and c.from_residual.result c.from_residual.ensures.1 in
    let ready = rw (c.as_slice.ensures.value) at (c.in-Ok.ensures.built m meant) in
    rw (p.1, p.2) (
      refl,
      cut_refusal (g.H.How.refuses c.args.how.now) m c.args.change c.args.labelling.now.at c.in_err-bits.field-0.0 here ready.0
          (taken_free m c.args.change c.args.problem.now.label_costs meant.costs_are (c.is_taken.ensures.taken c.if-not-is_taken.false)) c.in_err-bits.ensures.refused,
    )

pub returns-clause-values : goal.returns-clause-values
returns-clause-values g c = λ m meant.
    let ready = rw (c.as_slice.ensures.value) at (c.in-Ok.ensures.built m meant) in
    let pairs = pairs_meant _ _ _ m c.requires.posed meant in
    let least = ready.1 c.in_ok-bits.bits c.in_ok-bits.ensures.least in
    let A : List Choice → Type 0 = λ cs. AreAssigned cs c.in_ok-bits.bits.items c.assign.new.self.built.variables.choices.items in
    let assigned = subst A c.cut_left.ensures.kept (rw (c.deref.ensures.value) at c.assign.ensures.assigned) in
    let size = c.requires.fits.sites ∙ sym meant.sites_are in
    let values = assigned_answer m c.args.change (labelling c.args.labelling.now.at) c.in-Ok.built.price _ _ c.in_ok-bits.bits.items pairs
    (c.in-Ok.ensures.left.choices ∙ ap (λ (xs : List ℕ). length xs) c.as_slice.ensures.value ∙ size) assigned least in
    rw (c.as_slice-2.ensures.value) at (c.pay.ensures.answer m meant) size values

pub returns-clause-moved : goal.returns-clause-moved
returns-clause-moved g c = λ m meant.
    let P : ℕ → Type 0 = λ k. IsMoveOf k c.args.change in
    let here = subst P (c.labels.ensures.value ∙ c.requires.fits.labels ∙ sym meant.labels_are) (c.is_below.ensures.0 c.if-not-is_below.false) in
    let ready = rw (c.as_slice.ensures.value) at (c.in-Ok.ensures.built m meant) in
    let best = c.take_best.ensures.best m meant (returns-clause-values g c m meant) in
    (here, ready.0, best.0, best.1, taken_free m c.args.change c.args.problem.now.label_costs meant.costs_are (c.is_taken.ensures.taken c.if-not-is_taken.false))

pub returns-in-Err-PairNotRegular-clause-refused : goal.returns-in-Err-PairNotRegular-clause-refused
returns-in-Err-PairNotRegular-clause-refused g c =
    pair_may_come (g.H.How.refuses c.args.how.now) c.args.labelling.now.labels c.args.change c.in-Err-PairNotRegular.pair c.not_regular.result
    (rw c.in-Err-PairNotRegular.field-0-is at c.not_regular.ensures)

pub returns-in_err-bits-clause-refused : goal.returns-in_err-bits-clause-refused
returns-in_err-bits-clause-refused g c =
    let p = err_from_is_err_and c.from_residual.result c.from_residual.ensures.1 in
    rw (p.1, p.2) (cut_may_come (g.H.How.refuses c.args.how.now) c.args.labelling.now.labels c.args.change c.in_err-bits.field-0.0 c.in_err-bits.ensures.refused)

pub returns-then-not-is_below-clause-of_problem : goal.returns-then-not-is_below-clause-of_problem
returns-then-not-is_below-clause-of_problem g c = c.requires.of_problem

pub returns-then-not-is_below-clause-sizes : goal.returns-then-not-is_below-clause-sizes
returns-then-not-is_below-clause-sizes g c = record { labels = refl; sites = refl }

pub returns-then-not-is_below-clause-moved : goal.returns-then-not-is_below-clause-moved
returns-then-not-is_below-clause-moved g c = search rules

pub returns-then-not-is_below-clause-unchanged : goal.returns-then-not-is_below-clause-unchanged
returns-then-not-is_below-clause-unchanged g c = refl

pub returns-then-not-is_below-clause-refused : goal.returns-then-not-is_below-clause-refused
returns-then-not-is_below-clause-refused g c = search rules

pub returns-in-Err-PairNotRegular-clause-of_problem : goal.returns-in-Err-PairNotRegular-clause-of_problem
returns-in-Err-PairNotRegular-clause-of_problem g c = c.in-Err-PairNotRegular.ensures.of_problem

pub returns-in-Err-PairNotRegular-clause-sizes : goal.returns-in-Err-PairNotRegular-clause-sizes
returns-in-Err-PairNotRegular-clause-sizes g c = record { labels = refl; sites = refl }

pub returns-in-Err-PairNotRegular-clause-unchanged : goal.returns-in-Err-PairNotRegular-clause-unchanged
returns-in-Err-PairNotRegular-clause-unchanged g c = refl

pub returns-in-Err-OutOfMemory-clause-of_problem : goal.returns-in-Err-OutOfMemory-clause-of_problem
returns-in-Err-OutOfMemory-clause-of_problem g c = c.in-Err-OutOfMemory.ensures.of_problem

pub returns-in-Err-OutOfMemory-clause-sizes : goal.returns-in-Err-OutOfMemory-clause-sizes
returns-in-Err-OutOfMemory-clause-sizes g c = record { labels = refl; sites = refl }

pub returns-in-Err-OutOfMemory-clause-moved : goal.returns-in-Err-OutOfMemory-clause-moved
returns-in-Err-OutOfMemory-clause-moved g c = λ m meant. (refl, tt)

pub returns-in-Err-OutOfMemory-clause-unchanged : goal.returns-in-Err-OutOfMemory-clause-unchanged
returns-in-Err-OutOfMemory-clause-unchanged g c = refl

pub returns-in-Err-OutOfMemory-clause-refused : goal.returns-in-Err-OutOfMemory-clause-refused
returns-in-Err-OutOfMemory-clause-refused g c = tt

pub cut_left-requires-clause-sized : goal.cut_left-requires-clause-sized
cut_left-requires-clause-sized g c = c.in-Ok.ensures.left.sized

pub returns-in_err-bits-clause-of_problem : goal.returns-in_err-bits-clause-of_problem
returns-in_err-bits-clause-of_problem g c =
    still_of_problem _ _ c.args.problem.now c.build_move.new.space c.cut_left.new.space c.cut_left.ensures.same c.in-Ok.ensures.of_problem

pub returns-in_err-bits-clause-sizes : goal.returns-in_err-bits-clause-sizes
returns-in_err-bits-clause-sizes g c = record { labels = refl; sites = refl }

pub returns-in_err-bits-clause-made : goal.returns-in_err-bits-clause-made
returns-in_err-bits-clause-made g c =
    let p = err_from_is_err_and c.from_residual.result c.from_residual.ensures.1 in
    rw (p.1) tt

pub returns-in_err-bits-clause-unchanged : goal.returns-in_err-bits-clause-unchanged
returns-in_err-bits-clause-unchanged g c =
    let p = err_from_is_err_and c.from_residual.result c.from_residual.ensures.1 in
    rw (p.1) refl

pub take_best-requires-clause-below : goal.take_best-requires-clause-below
take_best-requires-clause-below g c = λ κs lives.
    let P : ℕ → Type 0 = λ k. IsMoveOf k c.args.change in
    subst P (c.labels.ensures.value) (c.is_below.ensures.0 c.if-not-is_below.false)

pub take_best-requires-clause-choices : goal.take_best-requires-clause-choices
take_best-requires-clause-choices g c = λ κs lives. c.pay.ensures.count ∙ ap (λ (xs : List ℕ). length xs) c.as_slice-2.ensures.value

pub take_best-requires-clause-changes : goal.take_best-requires-clause-changes
take_best-requires-clause-changes g c = λ κs lives listed_now.
    let same = c.assign.ensures.same ∙ c.cut_left.ensures.same in
    let listed = subst (λ (d : Deciding). IsTrue d.lists.listed) c.pay.ensures.same listed_now in
    let yes = subst (λ (d : Deciding). IsTrue d.lists.listed) same listed in
    let near = rw (c.as_slice.ensures.value) at (c.in-Ok.ensures.left.near yes) in
    let A : List Choice → Type 0 = λ cs. AreAssigned cs c.deref.result.now c.assign.new.self.built.variables.choices.items in
    rw (c.as_slice-2.ensures.value) at c.pay.ensures.changes (near_changes c.args.change c.args.labelling.now.at c.build_move.new.space c.assign.new.self _
    (c.in-Ok.ensures.left.choices ∙ ap (λ (xs : List ℕ). length xs) c.as_slice.ensures.value) near same (subst A c.cut_left.ensures.kept c.assign.ensures.assigned))

pub returns-clause-of_problem : goal.returns-clause-of_problem
returns-clause-of_problem g c =
    still_of_problem _ _ c.args.problem.now c.build_move.new.space c.pay.new.space (c.pay.ensures.same ∙ c.assign.ensures.same ∙ c.cut_left.ensures.same) c.in-Ok.ensures.of_problem

pub assign-requires : goal.assign-requires
assign-requires g c = λ listed.
    let same = c.cut_left.ensures.same in
    let lists = c.build_move.new.space.deciding.lists.opened.items in
    let D : Deciding → Type 0 = λ d. AreOpenSites c.cut_left.new.space.built.variables.choices.items d.lists.opened.items in
    let K : List Choice → Type 0 = λ cs. AreOpenSites cs lists in
    let yes = subst (λ (d : Deciding). IsTrue d.lists.listed) same listed in
    subst D (sym same) (subst K (sym c.cut_left.ensures.kept) (c.in-Ok.ensures.left.near yes).opened)

pub returns-clause-sizes : goal.returns-clause-sizes
returns-clause-sizes g c = c.take_best.ensures.sizes

pub returns-clause-made : goal.returns-clause-made
returns-clause-made g c = c.take_best.ensures.made

pub returns-clause-unchanged : goal.returns-clause-unchanged
returns-clause-unchanged g c = tt

pub returns-clause-refused : goal.returns-clause-refused
returns-clause-refused g c = tt

pub build_move-requires-clause-free : goal.build_move-requires-clause-free
build_move-requires-clause-free g c = λ κs lives. c.is_taken.ensures.taken c.if-not-is_taken.false

pub take_best-requires-clause-free : goal.take_best-requires-clause-free
take_best-requires-clause-free g c = λ κs lives. c.is_taken.ensures.taken c.if-not-is_taken.false

pub returns-then-not-is_taken-clause-of_problem : goal.returns-then-not-is_taken-clause-of_problem
returns-then-not-is_taken-clause-of_problem g c = c.requires.of_problem

pub returns-then-not-is_taken-clause-sizes : goal.returns-then-not-is_taken-clause-sizes
returns-then-not-is_taken-clause-sizes g c = record { labels = refl; sites = refl }

pub returns-then-not-is_taken-clause-moved : goal.returns-then-not-is_taken-clause-moved
returns-then-not-is_taken-clause-moved g c = λ m meant.
    let P : ℕ → Type 0 = λ k. IsMoveOf k c.args.change in
    let here = subst P (c.labels.ensures.value ∙ c.requires.fits.labels ∙ sym meant.labels_are) (c.is_below.ensures.0 c.if-not-is_below.false) in
    let A : ℕ → Type 0 = λ k. AreLabelCosts k c.args.problem.now.label_costs in
    let told = c.is_taken.ensures.refused c.if-not-is_taken.true in
    (refl, (here, told.0, costs_costly m c.args.problem.now.label_costs (subst A (sym meant.labels_are) c.requires.posed.label_costs) meant.costs_are told.1))

pub returns-then-not-is_taken-clause-unchanged : goal.returns-then-not-is_taken-clause-unchanged
returns-then-not-is_taken-clause-unchanged g c = refl

pub returns-then-not-is_taken-clause-refused : goal.returns-then-not-is_taken-clause-refused
returns-then-not-is_taken-clause-refused g c = (c.is_taken.ensures.refused c.if-not-is_taken.true).0

pub build_move-requires-clause-asked : goal.build_move-requires-clause-asked
build_move-requires-clause-asked g c = λ κs lives.
    let P : ℕ → Type 0 = λ k. IsMoveOf k c.args.change in
    let B : ℕ → List ℕ → Type 0 = λ k xs. All (λ label. label < k) xs in
    let C : ℕ → Type 0 = λ k. B k c.as_slice.result.now in
    record {
      posed = c.requires.posed;
      asked = record {
        sites = ap (λ (xs : List ℕ). length xs) c.as_slice.ensures.value ∙ c.requires.fits.sites;
        labels = subst C c.requires.fits.labels c.as_slice.ensures.below;
        move_of = subst P (c.labels.ensures.value ∙ c.requires.fits.labels) (c.is_below.ensures.0 c.if-not-is_below.false);
      };
      few = omega (arith, c.labels.ensures.sizes.2, c.labels.ensures.value, c.requires.fits.labels);
      of_problem = c.requires.of_problem;
    }

pub returns-clause-taken : goal.returns-clause-taken
returns-clause-taken g c = c.take_best.ensures.taken

pub take_best-requires-clause-form : goal.take_best-requires-clause-form
take_best-requires-clause-form g c = λ κs lives swap.
    let P : List ℕ → Type 0 = λ f. HasFormOf g.F.Fn g.V.Fn c.args.problem.now f c.args.change c.build_move.new.space in
    still_form _ _ c.args.problem.now c.args.labelling.now.at c.args.change c.build_move.new.space c.pay.new.space (c.pay.ensures.same ∙ c.assign.ensures.same ∙ c.cut_left.ensures.same)
    (subst P c.as_slice.ensures.value (c.in-Ok.ensures.form swap))

pub pay-requires-clause-price : goal.pay-requires-clause-price
pay-requires-clause-price g c = λ κs lives some.
    let P : List ℕ → Type 0 = λ f. HasFormOf g.F.Fn g.V.Fn c.args.problem.now f c.args.change c.build_move.new.space in
    let had = c.in-Ok.ensures.price some in (
      had.0,
      still_form _ _ c.args.problem.now c.as_slice-2.result.now c.args.change c.build_move.new.space c.assign.new.self (c.assign.ensures.same ∙ c.cut_left.ensures.same)
          (subst P (c.as_slice.ensures.value ∙ sym c.as_slice-2.ensures.value) had.1),
    )
