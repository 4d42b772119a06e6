use Rattle.std.proofs.Common.{◌≡◌, ◌≤◌, ◌<◌, ◌+◌, ◌-◌, ◌∙◌, length, get_or, sym, ap, subst, arith}
use Rattle.std.specs.Prelude.{slice_set}
use Rattle.std.proofs.Math.ListN.{get_or-eq_default}
use Rattle.std.proofs.lemmas.List.{get_or_default, length-set}
use Rattle.label_energies.specs.Energies.{labelling}
use Rattle.site_bounds.specs.Linked.{AreLinkedFrom, is_either_label}
use Rattle.site_bounds.specs.Swapped.{has_either}
use Rattle.site_bounds.proofs.Among.{listed_inside}
use Rattle.site_bounds.proofs.Links.{others_linked, linked_back, all_linked, none_between, none_before, climbs, listed_chosen, next_within}
use Rattle.site_bounds.proofs.label_sites.link_either.Goals as goal

pub link_site-requires-clause-site : goal.link_site-requires-clause-site
link_site-requires-clause-site c =
    let a = c.args in
    listed_inside (has_either a.one a.other (labelling a.at.now)) _ a.sites.now (c.loop-left.left - 1) c.requires.listed (omega (arith, c.loop-left-test.true, c.loop-left.invariant.within))

pub loop-left-init : goal.loop-left-init
loop-left-init c =
    let a = c.args in
    let n = length a.at.now in
    let f = labelling a.at.now in
    let at_end : get_or a.sites.now (length a.sites.now) n ≡ n = get_or-eq_default a.sites.now n {n = length a.sites.now} (omega arith) in
    record {
      within = omega arith;
      firsts_len = length-set (slice_set a.firsts.now a.one n) a.other n ∙ length-set a.firsts.now a.one n ∙ c.requires.sizes.0;
      nexts_len = c.requires.sizes.1;
      linked = subst (λ from. AreLinkedFrom (is_either_label a.one a.other) from n f (slice_set (slice_set a.firsts.now a.one n) a.other n) a.nexts.now) (sym at_end)
          (others_linked a.one a.other n f a.firsts.now a.nexts.now c.requires.sizes.0 (omega (arith, c.ranges.one.fits)) (omega (arith, c.ranges.other.fits)) c.requires.others);
    }

pub loop-left-preserved : goal.loop-left-preserved
loop-left-preserved c =
    let a = c.args in
    let i = c.loop-left.invariant in
    let n = length a.at.now in
    let f = labelling a.at.now in
    let some = is_either_label a.one a.other in
    let chosen = has_either a.one a.other f in
    let k = c.loop-left.left - 1 in
    let next : k + 1 ≡ c.loop-left.left = omega (arith, c.loop-left-test.true) in
    let l : k < length a.sites.now = omega (arith, next, i.within) in
    let site = get_or a.sites.now k 0 in
    let inside : site < n = listed_inside chosen n a.sites.now k c.requires.listed l in
    let from = get_or a.sites.now c.loop-left.left n in
    let on : site + 1 ≤ from = (let up = climbs chosen n k a.sites.now c.requires.listed l inside in omega (arith, up, ap (λ j. get_or a.sites.now j n) next)) in
    let back = linked_back some from (site + 1) n f c.loop-left.firsts c.loop-left.nexts on
    (λ p after before. none_between chosen n k p a.sites.now c.requires.listed l after (omega (arith, before, ap (λ j. get_or a.sites.now j n) next))
    (let within = next_within chosen n c.loop-left.left a.sites.now c.requires.listed in omega (arith, before, within))) i.linked in
    record {
      within = omega (arith, i.within);
      firsts_len = c.link_site.ensures.sizes.0;
      nexts_len = c.link_site.ensures.sizes.1;
      linked = subst (λ at. AreLinkedFrom some at n f c.link_site.new.firsts c.link_site.new.nexts) (get_or_default a.sites.now k 0 n l)
          (c.link_site.ensures.linked some (listed_chosen chosen n a.sites.now k c.requires.listed l) back);
    }

pub returns : goal.returns
returns c =
    let a = c.args in
    let i = c.loop-left.invariant in
    let n = length a.at.now in
    let f = labelling a.at.now in
    let some = is_either_label a.one a.other in
    let chosen = has_either a.one a.other f in
    let at_end : c.loop-left.left ≡ 0 = omega (arith, c.loop-left-test.false) in
    let linked = subst (λ left. AreLinkedFrom some (get_or a.sites.now left n) n f c.loop-left.firsts c.loop-left.nexts) at_end i.linked in
    record {
      firsts_len = i.firsts_len;
      nexts_len = i.nexts_len;
      links = all_linked some n f c.loop-left.firsts c.loop-left.nexts
          (linked_back some (get_or a.sites.now 0 n) 0 n f c.loop-left.firsts c.loop-left.nexts (omega arith) (λ p _ before. none_before chosen n p a.sites.now c.requires.listed before
          (let within = next_within chosen n 0 a.sites.now c.requires.listed in omega (arith, before, within))) linked);
    }
