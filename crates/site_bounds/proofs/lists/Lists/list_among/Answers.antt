use Rattle.std.proofs.Common.{◌≡◌, ◌<◌, ◌∙◌, ◌==◌, ◌||◌, ℕ, not, false, ap, sym, subst, length, slice_index, arith}
use Rattle.std.proofs.lemmas.List.{get_or_default}
use Rattle.label_energies.specs.Energies.{labelling}
use Rattle.label_energies.specs.Moves.{label_after}
use Rattle.move_energy.specs.BySite.{IsListing}
use Rattle.move_energy.specs.declared.choice.Choice.TheVariants.{Open, Zero}
use Rattle.move_energy.specs.Choices.{bit_of, is_open, open_at}
use Rattle.site_bounds.specs.Listed.{changes}
use Rattle.site_bounds.proofs.Skipping.{none_open}
use Rattle.site_bounds.proofs.Among.{picked_more, all_taken, chosen_listed, listed_inside}
use Rattle.site_bounds.proofs.lists.Lists.list_among.Goals as goal

pub loop-place-preserved : goal.loop-place-preserved
loop-place-preserved c =
    let a = c.args in
    let e = c.in_ok-add_site.ensures in
    let i = c.loop-place.invariant in
    let place = c.loop-place.place in
    let sites = a.sites.now in
    let site = slice_index sites place in
    let l : place < length sites = c.loop-place-test.true in
    let inside = listed_inside c.requires.among.before (length a.at.now) sites place c.requires.among.listing l in
    let read = get_or_default a.choices.now site Open Zero (omega (arith, inside, c.requires.count)) in
    record {
      opened = picked_more (open_at a.choices.now) sites place _ _ _ l (ap is_open read) e.opened i.opened;
      changing = picked_more (changes a.change (labelling a.at.now) a.choices.now) sites place _ _ _ l
          (λ j. is_open (read j) || not (label_after a.change (c.from-label.ensures j) (bit_of (read j) false) == c.from-label.ensures j)) e.changing i.changing;
      count = e.same.0 ∙ i.count;
      listed = e.same.1 ∙ i.listed;
    }

pub returns-clause-lists : goal.returns-clause-lists
returns-clause-lists c =
    let a = c.args in
    let i = c.loop-place.invariant in
    let n = length a.at.now in
    let among = c.requires.among in
    let place = c.loop-place.place in
    let at_end : place ≡ length a.sites.now = omega (arith, c.loop-place-test.false, c.loop-place.auto.place-end) in
    let moved = changes a.change (labelling a.at.now) a.choices.now in
    let O : ℕ → Type 0 = λ k. IsListing (open_at a.choices.now) k c.loop-place.self.opened.items in
    let M : ℕ → Type 0 = λ k. IsListing moved k c.loop-place.self.changing.items in
    record {
      opened = subst O (sym c.requires.count) (chosen_listed among.before (open_at a.choices.now) n a.sites.now _ among.listing
          (λ p l none. none_open a.change (labelling a.at.now) a.choices.now p (among.rest p l none)) (all_taken (open_at a.choices.now) a.sites.now _ place at_end i.opened));
      changing = subst M (sym c.requires.count) (chosen_listed among.before moved n a.sites.now _ among.listing among.rest (all_taken moved a.sites.now _ place at_end i.changing));
    }

pub bounds-at-site : goal.bounds-at-site
bounds-at-site c = listed_inside c.requires.among.before (length c.args.at.now) c.args.sites.now c.loop-place.place c.requires.among.listing c.loop-place-test.true

pub bounds-choices-site : goal.bounds-choices-site
bounds-choices-site c =
    let inside = listed_inside c.requires.among.before (length c.args.at.now) c.args.sites.now c.loop-place.place c.requires.among.listing c.loop-place-test.true in
    omega (arith, inside, c.requires.count)
