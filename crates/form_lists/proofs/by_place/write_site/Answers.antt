use Rattle.std.proofs.Common.{◌∙◌, ◌≤◌, ◌<◌, ◌+◌, length, refl, inl, inr, arith}
use Rattle.std.proofs.lemmas.List.{length-set}
use Rattle.move_energy.specs.BySite.{neighbours_start}
use Rattle.move_energy.proofs.Parts.{start_read}
use Rattle.form_lists.proofs.PairPlaces.{pairs_places}
use Rattle.form_lists.proofs.ByPlace.{small_still, one_place_more, written_other}
use Rattle.form_lists.proofs.by_place.write_site.Goals as goal

pub loop-place-preserved : goal.loop-place-preserved
loop-place-preserved g c =
    let a = c.args in
    let i = c.loop-place.invariant in
    let old = c.loop-place.rises in
    let place = c.loop-place.place in
    let r = c.rises_of_pair in
    let by_site = c.requires.by_site in
    let pairs = a.problem.now.pairs in
    let start = start_read pairs a.ends.now a.site c.index-place.result.now by_site (omega (arith, c.requires.site, c.requires.asked.sites)) c.index-place.ensures in
    let end = start_read pairs a.ends.now (a.site + 1) c.index-place-end.result.now by_site (omega (arith, c.requires.site, c.requires.asked.sites)) c.index-place-end.ensures in
    let from : neighbours_start a.ends.now a.site ≤ place = omega (arith, start, c.loop-place.auto.place) in
    let to : place < neighbours_start a.ends.now (a.site + 1) = omega (arith, end, c.loop-place-test.true) in
    let within = (pairs_places pairs a.ends.now pairs.sites refl c.requires.posed.pairs by_site).within (a.site + 1) (omega (arith, c.requires.site, c.requires.asked.sites)) in
    let inside : place < length old = omega (arith, to, within, i.size, c.requires.size) in
    record {
      size = length-set old place r.result ∙ i.size;
      small = small_still old place r.result inside r.ensures.small.0 r.ensures.small.1 i.small;
      here = λ m meant. one_place_more m a.change a.ends.now a.at.now a.site (neighbours_start a.ends.now a.site) place old r.result inside (i.here m meant) (r.ensures.rises m meant);
      others = λ p far. elim far [
        | inl before ↦ written_other old place p r.result (λ same. omega (arith, same, before, from)) ∙ i.others p (inl before)
        | inr past ↦ written_other old place p r.result (λ same. omega (arith, same, past)) ∙ i.others p (inr (omega (arith, past)))
      ];
    }
