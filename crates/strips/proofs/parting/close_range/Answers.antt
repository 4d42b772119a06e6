use Rattle.std.proofs.Common.{◌∙◌, List, refl, subst, arith}
use Rattle.std.proofs.lemmas.Result.{on_ok_weaker}
use Rattle.label_energies.specs.Energies.{labelling}
use Rattle.move_energy.specs.declared.choice.Choice.{Choice}
use Rattle.move_energy.specs.Choices.{AreOpenSites}
use Rattle.strip_nets.specs.Views.{strip_view}
use Rattle.strips.proofs.Listing.{none_listed}
use Rattle.strips.proofs.Ranges.{ends_from}
use Rattle.strips.proofs.parting.close_range.Goals as goal

pub list_next-requires-clause-opened : goal.list_next-requires-clause-opened
list_next-requires-clause-opened c = none_listed c.deref.result.now c.args.from _ c.new-strips.ensures

pub returns-in_err-close_read-clause-goes_on : goal.returns-in_err-close_read-clause-goes_on
returns-in_err-close_read-clause-goes_on c = λ start on. c.close_read.ensures.goes_on start (c.strips.invariant.goes_on start on)

pub returns-in_err-end-2-clause-goes_on : goal.returns-in_err-end-2-clause-goes_on
returns-in_err-end-2-clause-goes_on c = λ start on. c.close_read.ensures.goes_on start (c.strips.invariant.goes_on start on)

pub strips-preserved : goal.strips-preserved
strips-preserved c =
    let inv = c.strips.invariant in
    let closed = c.in_ok-close_read.ensures in
    let next = c.in_ok-end-2.ensures in
    let known = c.close_read.new.known.items in
    let O : List Choice → Type 0 = λ ks. AreOpenSites (strip_view ks c.args.from c.in_ok-end-2.end) c.list_next-in-strips.new.opened.items in
    record {
      inside = next.inside;
      from = omega (arith, inv.from, next.later);
      count = closed.count ∙ inv.count;
      goes_on = λ start on. closed.goes_on start (inv.goes_on start on);
      opened = subst O c.deref-in-strips.ensures.value next.opened;
      agree = λ m move told is agree. closed.agree m move told is (inv.agree m move told is agree);
    }

pub returns-clause-goes_on : goal.returns-clause-goes_on
returns-clause-goes_on c = λ start on. c.close_read-2.ensures.goes_on start (c.strips.invariant.goes_on start on)

pub returns-clause-agree : goal.returns-clause-agree
returns-clause-agree c = λ m move told is agree. c.close_read-2.ensures.agree m move told is (c.strips.invariant.agree m move told is agree)

pub returns-clause-ends : goal.returns-clause-ends
returns-clause-ends c = λ m move told is agree.
    let a = c.args in
    let inv = c.strips.invariant in
    on_ok_weaker c.close_read-2.result
    (λ ends. ends_from m move (labelling a.form.now.at.now) a.known.now.items c.strips.known.items a.from a.to _ inv.count (inv.goes_on a.known.now.items (λ p l shuts. refl)) ends)
    (c.close_read-2.ensures.ends m move told is (inv.agree m move told is agree))
