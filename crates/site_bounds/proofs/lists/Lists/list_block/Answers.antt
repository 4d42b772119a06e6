use Rattle.std.proofs.Common.{length, ◌<◌, ◌+◌, ◌∙◌, ◌==◌, ◌||◌, not, false, arith}
use Rattle.std.proofs.lemmas.List.{get_or_default}
use Rattle.label_energies.specs.Moves.{label_after}
use Rattle.move_energy.specs.declared.choice.Choice.TheVariants.{Open, Zero}
use Rattle.label_energies.specs.Energies.{labelling}
use Rattle.move_energy.specs.Choices.{bit_of, is_open, open_at}
use Rattle.site_bounds.specs.Listed.{changes}
use Rattle.site_bounds.proofs.Among.{open_test}
use Rattle.site_bounds.proofs.Skipping.{skipped, none_open, kept_more}
use Rattle.site_bounds.proofs.lists.Lists.list_block.Goals as goal

pub returns-then-not-has_change-clause-lists : goal.returns-then-not-has_change-clause-lists
returns-then-not-has_change-clause-lists c =
    let a = c.args in
    let none = c.has_change.ensures c.if-not-has_change.true in
    record {
      opened = skipped (open_at a.choices.now) a.from (a.from + 32) a.self.now.opened.items (omega arith)
          (λ p from to. none_open a.change (labelling a.at.now) a.choices.now p (none p from to)) c.requires.lists.opened;
      changing = skipped (changes a.change (labelling a.at.now) a.choices.now) a.from (a.from + 32) a.self.now.changing.items (omega arith)
          none c.requires.lists.changing;
    }

pub loop-place-preserved : goal.loop-place-preserved
loop-place-preserved c =
    let a = c.args in
    let i = c.loop-place.invariant in
    let place = c.loop-place.place in
    let site = a.from + place in
    let one = c.keep-open.ensures in
    let two = c.keep-moved.ensures in
    let inside : site < length a.choices.now = omega (arith, c.loop-place-test.true, c.requires.block, c.requires.sites.0) in
    let read = get_or_default a.choices.now site Open Zero inside in
    record {
      long = one.room ∙ i.long;
      wide = two.room ∙ i.wide;
      few = omega (arith, i.few, one.few);
      less = omega (arith, i.less, two.few);
      opened = kept_more (open_at a.choices.now) a.from place _ a.self.now.opened.items _ _ (open_test a.choices.now site _ inside c.is_open.ensures) one.kept i.opened;
      changing = kept_more (changes a.change (labelling a.at.now) a.choices.now) a.from place _ a.self.now.changing.items _ _
          (c.can_change-changes.ensures ∙ (λ j. is_open (read j) || not (label_after a.change (c.from.ensures j) (bit_of (read j) false) == c.from.ensures j))) two.kept i.changing;
    }
