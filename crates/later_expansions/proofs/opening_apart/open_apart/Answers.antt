use Rattle.std.proofs.Common.{[], sym, subst}
use Rattle.label_energies.specs.declared.change.Move.TheVariants.{Expand}
use Rattle.site_bounds.specs.declared.sites.Deciding.{Deciding}
use Rattle.form_lists.specs.Lists.{AreFormLists, IsReadNear}
use Rattle.later_expansions.proofs.Asked.{read_everywhere}
use Rattle.later_expansions.proofs.opening_apart.open_apart.Goals as goal

pub returns-clause-numbers : goal.returns-clause-numbers
returns-clause-numbers g c =
    let a = c.args in
    let same = sym c.in_ok-open_by_parts.ensures.same.decided in
    let L : Deciding → Type 0 = λ d. AreFormLists a.problem.now.pairs d.ends a.at.now d.numbers in
    record {
      sites_are = c.requires.numbers.sites_are;
      allowed = λ m meant. c.requires.numbers.allowed m meant;
      lists = subst L same c.in_ok-read.ensures.lists;
      read = λ m meant.
          let N : Deciding → Type 0 = λ d. IsReadNear m (Expand a.alpha) d.ends a.at.now d.numbers [] in
          subst N same (read_everywhere m (Expand a.alpha) _ a.at.now _ (c.in_ok-read.ensures.read m meant));
    }

pub returns-clause-zeros : goal.returns-clause-zeros
returns-clause-zeros g c = λ m meant done. c.in_ok-open_by_parts.ensures.zeros m meant
