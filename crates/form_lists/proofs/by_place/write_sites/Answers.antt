use Rattle.std.proofs.Common.{◌∙◌, refl, arith}
use Rattle.form_lists.proofs.ByPlace.{one_site_more}
use Rattle.form_lists.proofs.PairPlaces.{pairs_places}
use Rattle.form_lists.proofs.by_place.write_sites.Goals as goal

pub loop-site-preserved : goal.loop-site-preserved
loop-site-preserved g c =
    let a = c.args in
    let i = c.loop-site.invariant in
    let w = c.write_site in
    let places = pairs_places a.problem.now.pairs a.ends.now a.problem.now.pairs.sites refl c.requires.posed.pairs c.requires.by_site in
    record {
      listed = record { size = w.ensures.size ∙ i.listed.size; small = w.ensures.small };
      read = λ m meant. one_site_more m a.change a.ends.now a.at.now a.problem.now.pairs.sites c.loop-site.site c.loop-site.rises w.new.rises places
          (omega (arith, c.loop-site-test.true, c.requires.asked.sites)) (i.read m meant) (w.ensures.here m meant) w.ensures.others;
    }
