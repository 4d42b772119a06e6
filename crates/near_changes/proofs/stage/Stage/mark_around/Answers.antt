use Rattle.std.proofs.Common.{◌≡◌, ◌≢◌, ◌⊎◌, true, inr, subst, below_more, arith}
use Rattle.label_field.specs.declared.pair.Pair.{Pair}
use Rattle.move_energy.specs.BySite.{pair_of}
use Rattle.label_energies.specs.Energies.{labelling}
use Rattle.near_changes.specs.Looking.{is_marked, AreBeside}
use Rattle.near_changes.specs.Working.{IsMarkedAcross}
use Rattle.near_changes.proofs.Around.{at_other, across_stays, other_beside, only_one}
use Rattle.near_changes.proofs.stage.Stage.mark_around.Goals as goal

pub loop-index-preserved : goal.loop-index-preserved
loop-index-preserved c =
    let a = c.args in
    let f = labelling a.at.now in
    let e = c.mark_site-in-loop-index.ensures in
    let marks = c.in_ok-mark_site-2.ensures.marks in
    let stays = c.in_ok-mark_site-2.ensures.stays in
    let now = is_marked c.loop-index.self.fresh.items in
    let new = is_marked c.mark_site-in-loop-index.new.self.fresh.items in
    let pair = c.pair_at-pair.result in
    let P : Pair → Type 0 = λ q. IsMarkedAcross a.alpha f a.site new q in
    record {
      marks = marks;
      stays = λ p held. stays p (c.loop-index.invariant.stays p held);
      only = only_one (λ p. f p ≢ a.alpha) (λ p. (p ≡ a.site) ⊎ AreBeside a.pairs.now a.site p) (is_marked a.self.now.fresh.items) now new c.other_end.result
          (inr (other_beside a.pairs.now a.ends.now a.site c.loop-index.index c.other_end.result pair c.requires.by_site (omega (arith, c.requires.site, c.requires.sites))
          (omega (arith, c.loop-index-test.true, c.ends_at-index-end.ensures)) c.pair_at-pair.ensures.value c.pair_at-pair.ensures.pair.unequal c.other_end.ensures))
          c.loop-index.invariant.only c.in_ok-mark_site-2.ensures.only;
      own = λ could. stays a.site (c.loop-index.invariant.own could);
      beside = below_more (λ k. P (pair_of a.ends.now a.site k)) c.loop-index.index
          (λ k l. across_stays a.alpha f a.site now new (pair_of a.ends.now a.site k) stays (c.loop-index.invariant.beside k l))
          (subst P c.pair_at-pair.ensures.value
          (at_other (λ q. f q ≢ a.alpha → new q ≡ true) pair a.site c.other_end.result c.pair_at-pair.ensures.pair.unequal c.other_end.ensures c.in_ok-mark_site-2.ensures.here));
    }
