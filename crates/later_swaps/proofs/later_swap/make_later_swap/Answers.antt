use Rattle.std.proofs.Common.{◌<◌, ◌∙◌, ℕ, List, All, length, sym, ap, subst, arith}
use Rattle.label_energies.specs.declared.change.Move.TheVariants.{Swap}
use Rattle.label_energies.specs.Energies.{labelling}
use Rattle.label_energies.specs.Moves.{IsMoveOf}
use Rattle.one_move.specs.Building.{site_values}
use Rattle.one_move.proofs.Answers.{costs_free}
use Rattle.later_swaps.proofs.Swaps.{made_least}
use Rattle.later_swaps.proofs.later_swap.make_later_swap.Goals as goal

pub look-requires-clause-asked : goal.look-requires-clause-asked
look-requires-clause-asked g c = λ κs lives.
    let can = c.can_look.ensures.labels c.if-not-can_look.false in
    let few = c.can_look.ensures.few c.if-not-can_look.false in
    let fits = c.requires.working.fits in
    let C : ℕ → Type 0 = λ k. All (λ label. label < k) c.as_slice.result.now in
    record {
      posed = c.requires.working.posed;
      asked = record {
        sites = ap (λ (xs : List ℕ). length xs) c.as_slice.ensures.value ∙ fits.sites;
        labels = subst C fits.labels c.as_slice.ensures.below;
        move_of = (omega (arith, can.0, fits.labels), omega (arith, can.1, fits.labels));
      };
      few = omega (arith, few, fits.labels);
      of_problem = c.requires.working.of_problem;
    }

pub returns-clause-values : goal.returns-clause-values
returns-clause-values g c = λ m meant stamped.
    let can = c.can_look.ensures.labels c.if-not-can_look.false in
    let few = c.can_look.ensures.few c.if-not-can_look.false in
    let found = rw (c.as_slice.ensures.value) at (c.in-Ok-true.ensures.found c.in-Ok-true.field-0-test) in
    let free = costs_free m c.args.problem.now.label_costs meant.costs_are (c.can_look.ensures.free c.if-not-can_look.false) in
    made_least m (Swap c.args.alpha c.args.beta) (labelling c.args.labelling.now.at) (site_values c.look.new.space.built.variables.choices.items) free
    (found.least m meant (stamped.known c.args.alpha c.args.beta (omega (arith, can.1, few)) (c.can_look.ensures.known c.if-not-can_look.false)))

pub returns-clause-moved : goal.returns-clause-moved
returns-clause-moved g c = λ m meant stamped.
    let can = c.can_look.ensures.labels c.if-not-can_look.false in
    let fits = c.requires.working.fits in
    let found = rw (c.as_slice.ensures.value) at (c.in-Ok-true.ensures.found c.in-Ok-true.field-0-test) in
    let free = costs_free m c.args.problem.now.label_costs meant.costs_are (c.can_look.ensures.free c.if-not-can_look.false) in
    let best = c.take_best.ensures.best m meant (returns-clause-values g c m meant stamped) in
    let P : ℕ → Type 0 = λ k. IsMoveOf k (Swap c.args.alpha c.args.beta) in
    (subst P (fits.labels ∙ sym meant.labels_are) (can.0, can.1), found.form.numbers.allowed m meant, best.0, best.1, free)
