use Rattle.std.proofs.Common.{◌∙◌, List, length, sym, ap, subst, arith}
use Rattle.label_energies.specs.Energies.{labelling}
use Rattle.move_energy.specs.declared.choice.Choice.{Choice}
use Rattle.move_energy.specs.Choices.{choice_at, AreOpenSites}
use Rattle.move_energy.specs.MoveValues.{move_value}
use Rattle.persistency.specs.Agreeing.{Agree}
use Rattle.strip_nets.specs.Views.{strip_view}
use Rattle.strips.proofs.Listing.{none_listed, whole_listed}
use Rattle.strips.proofs.closing.Strips.close_in.Goals as goal

pub list_next-requires-clause-opened : goal.list_next-requires-clause-opened
list_next-requires-clause-opened c = none_listed c.deref.result.now 0 _ c.clear.ensures.items

pub strips-init : goal.strips-init
strips-init c =
    let same = c.in_ok-know_start.ensures in
    let O : List Choice → Type 0 = λ known. AreOpenSites (strip_view known 0 c.in_ok-to.to) c.list_next.new.opened.items in
    record {
      inside =
          let known = ap (λ (xs : List Choice). length xs) c.deref.ensures.value in
          let start = ap (λ (xs : List Choice). length xs) same in
          omega (arith, c.in_ok-to.ensures.inside, known, start);
      can = record {
        begins = c.requires.begins;
        count = ap (λ (xs : List Choice). length xs) same ∙ c.requires.begins.starts;
        goes_on = λ p l shuts. ap (λ (xs : List Choice). choice_at xs p) same;
      };
      opened = subst O c.deref.ensures.value c.in_ok-to.ensures.opened;
      agree = λ m move read are agree.
          let A : List Choice → Type 0 = λ known. Agree m.sites (move_value m move (labelling c.args.form.now.at.now)) (choice_at known) in
          subst A (sym same) agree;
    }

pub strips-preserved : goal.strips-preserved
strips-preserved c =
    let closed = c.in_ok-close_weighed.ensures in
    let next = c.in_ok-to-2.ensures in
    let O : List Choice → Type 0 = λ known. AreOpenSites (strip_view known 0 c.in_ok-to-2.to) c.list_next-in-strips.new.opened.items in
    record {
      inside = next.inside;
      can = closed.can;
      opened = subst O c.deref-in-strips.ensures.value next.opened;
      agree = λ m move read are agree. closed.agree m move read are (c.strips.invariant.agree m move read are agree);
    }

pub returns-clause-opened : goal.returns-clause-opened
returns-clause-opened c =
    whole_listed c.strips.variables.choices.items c.strips.to c.strips.self.opened.items (omega (arith, c.strips.invariant.can.count, c.requires.begins.starts, c.strips-test.false)) c.strips.invariant.opened
