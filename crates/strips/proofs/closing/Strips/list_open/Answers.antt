use Rattle.std.proofs.Common.{ℕ, length, subst, arith}
use Rattle.move_energy.specs.Choices.{AreOpenSites}
use Rattle.strip_nets.specs.Views.{strip_view}
use Rattle.strips.proofs.Listing.{none_listed, whole_listed}
use Rattle.strips.proofs.closing.Strips.list_open.Goals as goal

pub list_next-requires-clause-opened : goal.list_next-requires-clause-opened
list_next-requires-clause-opened c = none_listed c.args.known.now 0 _ c.clear.ensures.items

pub returns : goal.returns
returns c =
    let known = c.args.known.now in
    let next = c.in_ok-list_next.ensures in
    let O : ℕ → Type 0 = λ to. AreOpenSites (strip_view known 0 to) c.list_next.new.opened.items in
    record {
      opened = whole_listed known (length known) c.list_next.new.opened.items (omega arith) (subst O (next.whole (omega (arith, c.requires.few))) next.opened);
    }
