use Rattle.std.proofs.Common.{◌∙◌, List, sym, subst}
use Rattle.label_energies.specs.declared.change.Move.{Move}
use Rattle.label_energies.specs.Chains.{moves_of}
use Rattle.run_steps.specs.Bookmarks.{IsMarkOf}
use Rattle.run_steps.specs.Courses.{StandsOnCourse}
use Rattle.label_energies.specs.Energies.{labelling}
use Rattle.later_swaps.proofs.Swaps.{none_swapped}
use Rattle.run_steps.proofs.UnderWay.{cycle_is}
use Rattle.run_steps.proofs.under_way.RunUnderWay.resume.Goals as goal

pub returns-clause-goes_on : goal.returns-clause-goes_on
returns-clause-goes_on g c = λ m meant start left.
    let at = c.args.labelling.now.at in
    let course = c.in-Some.course in
    let asked = c.in-Some.ensures.asked in
    let same = meant.labels_are ∙ sym c.requires.fits.labels ∙ sym c.labels.ensures.value in
    let cycle = cycle_is m c.args.moves c.labels.result course asked.0 asked.1 same in
    let K : List Move → Type 0 = λ moves. IsMarkOf m moves c.args.bookmark.mark start at in
    let S : List Move → Type 0 = λ moves. StandsOnCourse m moves c.args.cycles course start at course.ended in
    record {
      kind_is = asked.0;
      allowed_is = asked.2;
      stands = subst S cycle (c.in-Some.ensures.stands m start at (subst K (λ i. moves_of c.args.moves (same i)) left.stands));
      stamped = record {
        expansions = record { sites = left.stamped.sites; made = left.stamped.most; known = left.stamped.known };
        swaps_are = none_swapped m (labelling at) c.none.result c.none.ensures;
      };
    }
