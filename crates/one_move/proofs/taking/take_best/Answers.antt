use Rattle.std.proofs.Common.{◌≡◌, ◌∙◌, ℕ, List, length, ap, sym, subst, refl, arith}
use Rattle.cost_store.proofs.Meaning.{pairs_meant}
use Rattle.one_move.specs.Building.{site_values, AreChangesListed, HasFormOf}
use Rattle.label_energies.specs.declared.change.Move.{Move}
use Rattle.cost_store.specs.LabelCosts.{costs_of}
use Rattle.one_move.specs.LabelCosts.{IsFreeFor}
use Rattle.one_move.proofs.Answers.{costs_free}
use Rattle.one_move.proofs.Least.{expanded_best, lower_best, kept_best, free_le, free_lt}
use Rattle.std.specs.Prelude.{slice_index}
use Rattle.label_energies.specs.Energies.{labelling}
use Rattle.label_energies.specs.Moves.{label_after, IsSwap}
use Rattle.label_energies.proofs.Best.{stays-reached}
use Rattle.one_move.proofs.Relabelled.{values_reach}
use Rattle.one_move.proofs.Rising.{not_lower}
use Rattle.one_move.proofs.taking.take_best.Goals as goal

pub returns-in-Expand-clause-best : goal.returns-in-Expand-clause-best
returns-in-Expand-clause-best g c = λ m meant least.
    let a = c.args in
    let pairs = pairs_meant _ _ _ m c.requires.posed meant in
    let size = c.requires.fits.sites ∙ sym meant.sites_are in (
      expanded_best m a.change _ a.field.now.at c.relabel.new.labelling.at (site_values a.space.now.built.variables.choices.items) c.in-Expand.is pairs least size
          c.relabel.ensures.sizes.1 (λ p l. c.relabel.ensures.each p (omega (arith, l, size))),
      c.relabel.ensures.changed,
    )

pub returns-then-not-lowers-clause-best : goal.returns-then-not-lowers-clause-best
returns-then-not-lowers-clause-best g c = λ m meant least.
    let a = c.args in
    let pairs = pairs_meant _ _ _ m c.requires.posed meant in
    let F : Move → Type 0 = λ mv. IsFreeFor mv (costs_of a.problem.now.label_costs) in
    let free = costs_free m a.problem.now.label_costs meant.costs_are (subst F c.in-Swap.is c.requires.free) in
    let told = rw (c.as_slice.ensures.value) at (c.lowers.ensures m meant) in (
      kept_best m a.change a.field.now.at (site_values a.space.now.built.variables.choices.items) pairs least (free_le m _ _ free (not_lower _ _ c.lowers.result told.1 c.if-not-lowers.true)),
      ((λ yes. absurd (cc yes)), λ still. refl),
    )

pub returns-else-not-lowers-clause-best : goal.returns-else-not-lowers-clause-best
returns-else-not-lowers-clause-best g c = λ m meant least.
    let a = c.args in
    let pairs = pairs_meant _ _ _ m c.requires.posed meant in
    let size = c.requires.fits.sites ∙ sym meant.sites_are in
    let F : Move → Type 0 = λ mv. IsFreeFor mv (costs_of a.problem.now.label_costs) in
    let free = costs_free m a.problem.now.label_costs meant.costs_are (subst F c.in-Swap.is c.requires.free) in
    let told = rw (c.as_slice.ensures.value) at (c.lowers.ensures m meant) in (
      lower_best m a.change a.field.now.at c.relabel-in-Swap.new.labelling.at (site_values a.space.now.built.variables.choices.items) pairs least
          c.relabel-in-Swap.ensures.sizes.1 (λ p l. c.relabel-in-Swap.ensures.each p (omega (arith, l, size))) (free_lt m _ _ free (told.0 c.if-not-lowers.false)),
      c.relabel-in-Swap.ensures.changed,
    )

pub returns-in-Expand-clause-made : goal.returns-in-Expand-clause-made
returns-in-Expand-clause-made g c = (
  values_reach c.args.change c.args.field.now.at c.relabel.new.labelling.at (site_values c.args.space.now.built.variables.choices.items) c.relabel.ensures.each,
  c.relabel.ensures.changed,
)

pub returns-then-not-lowers-clause-made : goal.returns-then-not-lowers-clause-made
returns-then-not-lowers-clause-made g c =
    (stays-reached c.args.change (length c.args.field.now.at) (labelling c.args.field.now.at), ((λ yes. absurd (cc yes)), λ still. refl))

pub returns-else-not-lowers-clause-made : goal.returns-else-not-lowers-clause-made
returns-else-not-lowers-clause-made g c = (
  values_reach c.args.change c.args.field.now.at c.relabel-in-Swap.new.labelling.at (site_values c.args.space.now.built.variables.choices.items) c.relabel-in-Swap.ensures.each,
  c.relabel-in-Swap.ensures.changed,
)

pub relabel-requires-clause-below : goal.relabel-requires-clause-below
relabel-requires-clause-below g c = c.requires.below

pub relabel-requires-clause-choices : goal.relabel-requires-clause-choices
relabel-requires-clause-choices g c = c.requires.choices

pub lowers-requires-clause-choices : goal.lowers-requires-clause-choices
lowers-requires-clause-choices g c = λ κs lives. c.requires.choices ∙ sym (ap (λ (xs : List ℕ). length xs) c.as_slice.ensures.value)

pub returns-then-not-lowers-clause-sizes : goal.returns-then-not-lowers-clause-sizes
returns-then-not-lowers-clause-sizes g c = record { labels = refl; sites = refl }

pub relabel-requires-in-Swap-clause-below : goal.relabel-requires-in-Swap-clause-below
relabel-requires-in-Swap-clause-below g c = c.requires.below

pub relabel-requires-in-Swap-clause-choices : goal.relabel-requires-in-Swap-clause-choices
relabel-requires-in-Swap-clause-choices g c = c.requires.choices

pub returns-in-Expand-clause-sizes : goal.returns-in-Expand-clause-sizes
returns-in-Expand-clause-sizes g c = record { labels = c.relabel.ensures.sizes.0; sites = c.relabel.ensures.sizes.1 }

pub returns-else-not-lowers-clause-sizes : goal.returns-else-not-lowers-clause-sizes
returns-else-not-lowers-clause-sizes g c = record { labels = c.relabel-in-Swap.ensures.sizes.0; sites = c.relabel-in-Swap.ensures.sizes.1 }

pub returns-in-Expand-clause-taken : goal.returns-in-Expand-clause-taken
returns-in-Expand-clause-taken g c = λ a is p l.
    subst (λ (move : Move). slice_index c.relabel.new.labelling.at p ≡ label_after move (slice_index c.args.field.now.at p) (site_values c.args.space.now.built.variables.choices.items p)) is
    (c.relabel.ensures.each p l)

pub returns-then-not-lowers-clause-taken : goal.returns-then-not-lowers-clause-taken
returns-then-not-lowers-clause-taken g c = λ a is. (let swap = c.in-Swap.is in absurd (cc (swap, is)))

pub returns-else-not-lowers-clause-taken : goal.returns-else-not-lowers-clause-taken
returns-else-not-lowers-clause-taken g c = λ a is. (let swap = c.in-Swap.is in absurd (cc (swap, is)))

pub lowers-requires-clause-changes : goal.lowers-requires-clause-changes
lowers-requires-clause-changes g c = λ κs lives yes.
    let P : List ℕ → Type 0 = λ f. AreChangesListed c.args.change f c.args.space.now in
    subst P (sym c.as_slice.ensures.value) (c.requires.changes yes)

pub lowers-requires-clause-form : goal.lowers-requires-clause-form
lowers-requires-clause-form g c = λ κs lives.
    let S : Move → Type 0 = λ move. IsSwap move in
    let P : List ℕ → Type 0 = λ f. HasFormOf g.F.Fn g.V.Fn c.args.problem.now f c.args.change c.args.space.now in
    subst P (sym c.as_slice.ensures.value) (c.requires.form (subst S (sym c.in-Swap.is) tt))
