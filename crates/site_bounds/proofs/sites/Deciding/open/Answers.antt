use Rattle.std.proofs.Common.{ℕ, List, sym, subst, arith}
use Rattle.form_lists.specs.Lists.{CoversChanges}
use Rattle.site_bounds.proofs.Among.{covers_changes}
use Rattle.site_bounds.proofs.Whole.{chosen_first}
use Rattle.site_bounds.proofs.sites.Deciding.open.Goals as goal

pub returns-clause-passed : goal.returns-clause-passed
returns-clause-passed g c = λ m meant.
    let a = c.args in
    chosen_first m a.change a.at.now c.open_move.new.bounds (omega (arith, meant.sites_are, c.requires.asked.asked.sites)) c.in_ok-open_move.ensures.undecided

pub read_tested-requires-clause-covers : goal.read_tested-requires-clause-covers
read_tested-requires-clause-covers g c κs within swap =
    let a = c.args in
    let C : List ℕ → Type 0 = λ sites. CoversChanges a.change a.at.now sites in
    subst C (sym c.deref.ensures.value)
    (covers_changes a.change a.at.now c.open_move.new.bounds.choices.items _ c.in_ok-open_move.ensures.undecided.opened (c.in_ok-open_move.ensures.listed swap))
