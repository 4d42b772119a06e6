use Rattle.std.proofs.Common.{◌<◌, ◌≤◌, ◌+◌, ◌-◌, ◌*◌, ◌/◌, ◌∙◌, ℕ, true, false, ap, sym, subst, refl, length, arith}
use Rattle.counting_sort.specs.Grouping.{place_at}
use Rattle.move_energy.specs.BySite.{degree, neighbours_start, grouped_at, pair_beside}
use Rattle.label_energies.specs.Energies.{labelling}
use Rattle.move_energy.specs.Choices.{choice_at}
use Rattle.site_bounds.specs.Working.{AreWaiting, SeesPair}
use Rattle.move_energy.proofs.Parts.{start_read, starts_rise}
use Rattle.site_bounds.proofs.Left.{left_less}
use Rattle.site_bounds.proofs.Closed.{same_closed, both_closed, marked_closed}
use Rattle.site_bounds.proofs.Ranges.{range_wider, decided_waits, marked_range, marked_total, marked_summed, looked_summed}
use Rattle.site_bounds.proofs.Spreading.{IsSpread, spread_start, spread_step, spread_end, pair_in}
use Rattle.move_energy.proofs.Places.{meant_grouped}
use Rattle.site_bounds.proofs.Places.{range_step, range_enough, site_free}
use Rattle.std.proofs.lemmas.Result.{err_from_is_err_and}
use Rattle.site_bounds.proofs.bounds.Bounds.decide.Goals as goal

pub loop-place-init : goal.loop-place-init
loop-place-init c =
    let a = c.args in
    let inside : a.site < a.form.now.pairs.now.sites = omega (arith, c.requires.site.0, c.requires.sized.within, c.requires.over.sites) in
    let start = start_read a.form.now.pairs.now a.form.now.ends.now a.site _ c.requires.over.by_site (omega (arith, inside)) c.index-place.ensures in
    record {
      choices = refl;
      sized = marked_summed (length a.form.now.at.now) a.site a.value a.self.now c.mark.new.self c.mark.ensures c.requires.sized;
      same = c.mark.ensures.summed;
      waiting = decided_waits (a.self.now.summed) a.site a.value a.self.now c.mark.new.self c.mark.ensures c.requires.waiting;
      more = (let e = ap (λ (v : _). length v.items) c.mark.ensures.waiting in omega (arith, e));
      range = λ most within. range_wider most _ c.mark.new.self (omega arith) (marked_range a.site most a.value a.self.now c.mark.new.self c.mark.ensures within);
      total = (let less = marked_total a.site a.value a.self.now c.mark.new.self c.mark.ensures in omega (arith, less));
      spread = λ m move read decided by_site.
          let G = grouped_at a.form.now.ends.now by_site.places in
          let most : a.self.now.summed ≤ m.sites = omega (arith, c.requires.sized.within, c.requires.over.sites, read.sites_are) in
          let P : ℕ → Type 0 = λ p. IsSpread m move (labelling a.form.now.at.now) (a.self.now.summed) decided.decisions a.site a.value G p c.mark.new.self in
          subst P (sym start)
          (spread_start m move (labelling a.form.now.at.now) a.site a.value G a.self.now c.mark.new.self (a.self.now.summed) most (meant_grouped m a.form.now.pairs.now a.form.now.ends.now read.pairs_are read.sites_are by_site) decided c.mark.ensures);
    }

pub see-requires-clause-place : goal.see-requires-clause-place
see-requires-clause-place c =
    let a = c.args in
    let inside : a.site < a.form.now.pairs.now.sites = omega (arith, c.requires.site.0, c.requires.sized.within, c.requires.over.sites) in
    let start = start_read a.form.now.pairs.now a.form.now.ends.now a.site _ c.requires.over.by_site (omega (arith, inside)) c.index-place.ensures in
    let end = start_read a.form.now.pairs.now a.form.now.ends.now (a.site + 1) _ c.requires.over.by_site (omega (arith, inside)) c.index-place-end.ensures in
    record { inside = omega (arith, inside, c.requires.over.sites); from = omega (arith, start, c.loop-place.auto.place); to = omega (arith, end, c.loop-place-test.true) }

pub see-requires-clause-range : goal.see-requires-clause-range
see-requires-clause-range c =
    let a = c.args in
    let inside : a.site < a.form.now.pairs.now.sites = omega (arith, c.requires.site.0, c.requires.sized.within, c.requires.over.sites) in
    let start = start_read a.form.now.pairs.now a.form.now.ends.now a.site _ c.requires.over.by_site (omega (arith, inside)) c.index-place.ensures in
    let end = start_read a.form.now.pairs.now a.form.now.ends.now (a.site + 1) _ c.requires.over.by_site (omega (arith, inside)) c.index-place-end.ensures in
    let from : neighbours_start a.form.now.ends.now a.site ≤ c.loop-place.place = omega (arith, start, c.loop-place.auto.place) in
    let to : c.loop-place.place < neighbours_start a.form.now.ends.now (a.site + 1) = omega (arith, end, c.loop-place-test.true) in
    range_enough a.form.now.pairs.now a.form.now.ends.now a.site c.loop-place.place a.self.now c.loop-place.self c.requires.over.by_site c.requires.over.list inside from to c.loop-place.invariant.range c.requires.range

pub loop-place-preserved : goal.loop-place-preserved
loop-place-preserved c =
    let a = c.args in
    let inside : a.site < a.form.now.pairs.now.sites = omega (arith, c.requires.site.0, c.requires.sized.within, c.requires.over.sites) in
    let start = start_read a.form.now.pairs.now a.form.now.ends.now a.site _ c.requires.over.by_site (omega (arith, inside)) c.index-place.ensures in
    let end = start_read a.form.now.pairs.now a.form.now.ends.now (a.site + 1) _ c.requires.over.by_site (omega (arith, inside)) c.index-place-end.ensures in
    let from : neighbours_start a.form.now.ends.now a.site ≤ c.loop-place.place = omega (arith, start, c.loop-place.auto.place) in
    let to : c.loop-place.place < neighbours_start a.form.now.ends.now (a.site + 1) = omega (arith, end, c.loop-place-test.true) in
    let looking = c.in_ok-see.ensures.looking in
    record {
      choices = looking.choices ∙ c.loop-place.invariant.choices;
      sized = looked_summed (length a.form.now.at.now) 1 c.loop-place.self c.see.new.self looking c.loop-place.invariant.sized;
      same = looking.summed ∙ c.loop-place.invariant.same;
      waiting = (let P : ℕ → Type 0 = λ n. AreWaiting n c.see.new.self in subst P c.loop-place.invariant.same c.in_ok-see.ensures.waiting);
      more = omega (arith, looking.waiting, c.loop-place.invariant.more, from);
      range = range_step (neighbours_start a.form.now.ends.now a.site) c.loop-place.place a.self.now c.loop-place.self c.see.new.self from looking c.loop-place.invariant.range;
      total = omega (arith, looking.total, c.loop-place.invariant.total, from);
      spread = λ m move read decided by_site.
          let G = grouped_at a.form.now.ends.now by_site.places in
          let within : a.site < m.sites = omega (arith, inside, read.sites_are) in
          let S : ℕ → Type 0 = λ n. SeesPair m move (labelling a.form.now.at.now) n a.site a.value (pair_beside a.form.now.ends.now a.site c.loop-place.place) c.loop-place.self c.see.new.self in
          spread_step m move (labelling a.form.now.at.now) (a.self.now.summed) decided.decisions a.site a.value G c.loop-place.place (pair_beside a.form.now.ends.now a.site c.loop-place.place) c.loop-place.self c.see.new.self
          read.instance (meant_grouped m a.form.now.pairs.now a.form.now.ends.now read.pairs_are read.sites_are by_site) within from to
          ((λ i. pair_in (read.pairs_are i) (place_at G c.loop-place.place / 2)) ∙ sym (by_site.each a.site c.loop-place.place inside from to))
          (site_free m move (labelling a.form.now.at.now) a.site true a.self.now (a.self.now.summed) decided within c.requires.site.1)
          (site_free m move (labelling a.form.now.at.now) a.site false a.self.now (a.self.now.summed) decided within c.requires.site.1)
          looking.choices (subst S c.loop-place.invariant.same (c.in_ok-see.ensures.sees m move read)) (c.loop-place.invariant.spread m move read decided by_site);
    }

pub returns-clause-range : goal.returns-clause-range
returns-clause-range c = λ most within.
    let a = c.args in
    let inside : a.site < a.form.now.pairs.now.sites = omega (arith, c.requires.site.0, c.requires.sized.within, c.requires.over.sites) in
    let end = start_read a.form.now.pairs.now a.form.now.ends.now (a.site + 1) _ c.requires.over.by_site (omega (arith, inside)) c.index-place-end.ensures in
    let start = start_read a.form.now.pairs.now a.form.now.ends.now a.site _ c.requires.over.by_site (omega (arith, inside)) c.index-place.ensures in
    let ordered = starts_rise a.form.now.pairs.now a.form.now.ends.now a.site c.requires.over.by_site inside in
    let last : c.loop-place.place - neighbours_start a.form.now.ends.now a.site ≤ degree a.form.now.ends.now a.site = omega (arith, start, end, ordered, c.loop-place.auto.place-end) in
    range_wider (most + 20000000 * (c.loop-place.place - neighbours_start a.form.now.ends.now a.site)) (most + 20000000 * degree a.form.now.ends.now a.site) c.loop-place.self
    (omega (arith, last)) (c.loop-place.invariant.range most within)

pub returns-clause-left : goal.returns-clause-left
returns-clause-left c =
    let a = c.args in
    let marked = c.mark.ensures in
    let choices = ap (λ (v : _). v.items) c.loop-place.invariant.choices in
    left_less a.form.now.ends.now (length a.form.now.at.now) a.site a.self.now.choices.items c.loop-place.self.choices.items (omega (arith, c.requires.site.0, c.requires.sized.within)) c.requires.site.1
    (λ opened. marked.closed (sym (ap (λ (xs : _). choice_at xs a.site) choices) ∙ opened))
    (λ u other. ap (λ (xs : _). choice_at xs u) choices ∙ marked.others u other)

pub returns-clause-decided : goal.returns-clause-decided
returns-clause-decided c = λ m move read tells decided.
    let a = c.args in
    let inside : a.site < a.form.now.pairs.now.sites = omega (arith, c.requires.site.0, c.requires.sized.within, c.requires.over.sites) in
    let end = start_read a.form.now.pairs.now a.form.now.ends.now (a.site + 1) _ c.requires.over.by_site (omega (arith, inside)) c.index-place-end.ensures in
    let past : neighbours_start a.form.now.ends.now (a.site + 1) ≤ c.loop-place.place = omega (arith, end, c.loop-place-test.false) in
    let most : a.self.now.summed ≤ m.sites = omega (arith, c.requires.sized.within, c.requires.over.sites, read.sites_are) in
    spread_end m move (labelling a.form.now.at.now) (a.self.now.summed) a.site a.value (grouped_at a.form.now.ends.now c.requires.over.by_site.places) c.loop-place.place a.self.now c.mark.new.self c.loop-place.self
    read.instance most c.requires.site.0 decided c.requires.site.1 tells c.mark.ensures c.loop-place.invariant.choices past
    (c.loop-place.invariant.spread m move read decided c.requires.over.by_site)

pub see-requires-clause-sized : goal.see-requires-clause-sized
see-requires-clause-sized c = c.loop-place.invariant.sized

pub see-requires-clause-waiting : goal.see-requires-clause-waiting
see-requires-clause-waiting c =
    let P : ℕ → Type 0 = λ n. AreWaiting n c.loop-place.self in subst P (sym c.loop-place.invariant.same) c.loop-place.invariant.waiting

pub returns-in_err-see-clause-sized : goal.returns-in_err-see-clause-sized
returns-in_err-see-clause-sized c =
    let p = err_from_is_err_and c.from_residual.result c.from_residual.ensures.1 in
    rw (p.1) tt

pub returns-in_err-see-clause-waiting : goal.returns-in_err-see-clause-waiting
returns-in_err-see-clause-waiting c =
    let p = err_from_is_err_and c.from_residual.result c.from_residual.ensures.1 in
    rw (p.1) tt

pub returns-in_err-see-clause-range : goal.returns-in_err-see-clause-range
returns-in_err-see-clause-range c =
    let p = err_from_is_err_and c.from_residual.result c.from_residual.ensures.1 in
    rw (p.1) tt

pub returns-in_err-see-clause-more : goal.returns-in_err-see-clause-more
returns-in_err-see-clause-more c =
    let p = err_from_is_err_and c.from_residual.result c.from_residual.ensures.1 in
    rw (p.1) tt

pub returns-in_err-see-clause-left : goal.returns-in_err-see-clause-left
returns-in_err-see-clause-left c =
    let p = err_from_is_err_and c.from_residual.result c.from_residual.ensures.1 in
    rw (p.1) tt

pub returns-in_err-see-clause-decided : goal.returns-in_err-see-clause-decided
returns-in_err-see-clause-decided c =
    let p = err_from_is_err_and c.from_residual.result c.from_residual.ensures.1 in
    rw (p.1) tt

pub returns-clause-sized : goal.returns-clause-sized
returns-clause-sized c = c.loop-place.invariant.sized

pub returns-clause-waiting : goal.returns-clause-waiting
returns-clause-waiting c = c.loop-place.invariant.waiting

pub returns-in_err-see-clause-same : goal.returns-in_err-see-clause-same
returns-in_err-see-clause-same c =
    let p = err_from_is_err_and c.from_residual.result c.from_residual.ensures.1 in
    rw (p.1) tt

pub returns-clause-total : goal.returns-clause-total
returns-clause-total c =
    let a = c.args in
    let inside : a.site < a.form.now.pairs.now.sites = omega (arith, c.requires.site.0, c.requires.sized.within, c.requires.over.sites) in
    let end = start_read a.form.now.pairs.now a.form.now.ends.now (a.site + 1) _ c.requires.over.by_site (omega (arith, inside)) c.index-place-end.ensures in
    let start = start_read a.form.now.pairs.now a.form.now.ends.now a.site _ c.requires.over.by_site (omega (arith, inside)) c.index-place.ensures in
    let ordered = starts_rise a.form.now.pairs.now a.form.now.ends.now a.site c.requires.over.by_site inside in
    let last : c.loop-place.place - neighbours_start a.form.now.ends.now a.site ≤ degree a.form.now.ends.now a.site = omega (arith, start, end, ordered, c.loop-place.auto.place-end) in
    omega (arith, last, c.loop-place.invariant.total)

pub returns-in_err-see-clause-total : goal.returns-in_err-see-clause-total
returns-in_err-see-clause-total c =
    let p = err_from_is_err_and c.from_residual.result c.from_residual.ensures.1 in
    rw (p.1) tt

pub returns-clause-closed : goal.returns-clause-closed
returns-clause-closed c =
    let a = c.args in
    both_closed a.self.now c.mark.new.self c.loop-place.self (marked_closed a.site a.value a.self.now c.mark.new.self c.mark.ensures)
    (same_closed c.mark.new.self c.loop-place.self c.loop-place.invariant.choices)

pub returns-in_err-see-clause-closed : goal.returns-in_err-see-clause-closed
returns-in_err-see-clause-closed c =
    let p = err_from_is_err_and c.from_residual.result c.from_residual.ensures.1 in
    rw (p.1) tt
