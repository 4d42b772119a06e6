use Rattle.std.proofs.Common.{◌∙◌, ◌==◌, ◌||◌, not, false, ap, arith}
use Rattle.std.proofs.lemmas.List.{get_or_default}
use Rattle.label_energies.specs.Moves.{label_after}
use Rattle.move_energy.specs.declared.choice.Choice.TheVariants.{Open, Zero}
use Rattle.label_energies.specs.Energies.{labelling}
use Rattle.move_energy.specs.Choices.{bit_of, is_open, open_at}
use Rattle.site_bounds.specs.Listed.{changes}
use Rattle.site_bounds.proofs.Skipping.{listed_more}
use Rattle.site_bounds.proofs.lists.Lists.list_part.Goals as goal

pub loop-site-preserved : goal.loop-site-preserved
loop-site-preserved c =
    let a = c.args in
    let e = c.in_ok-add_site.ensures in
    let i = c.loop-site.invariant in
    let read = get_or_default a.choices.now c.loop-site.site Open Zero (omega (arith, c.loop-site-test.true, c.requires.part.1, c.requires.sites.0)) in
    record {
      opened = listed_more (open_at a.choices.now) c.loop-site.site _ _ _ (ap is_open read) e.opened i.opened;
      changing = listed_more (changes a.change (labelling a.at.now) a.choices.now) c.loop-site.site _ _ _
          (λ j. is_open (read j) || not (label_after a.change (c.from.ensures j) (bit_of (read j) false) == c.from.ensures j)) e.changing i.changing;
      count = e.same.0 ∙ i.count;
      listed = e.same.1 ∙ i.listed;
    }
