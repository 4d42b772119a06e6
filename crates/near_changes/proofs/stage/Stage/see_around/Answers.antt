use Rattle.std.proofs.Common.{◌∙◌, subst, below_more}
use Rattle.label_field.specs.declared.pair.Pair.{Pair}
use Rattle.move_energy.specs.BySite.{pair_of}
use Rattle.near_changes.specs.Working.{IsSiteSeen, IsSeenAcross}
use Rattle.near_changes.proofs.Around.{at_other}
use Rattle.near_changes.proofs.Seen.{wider_then, across_wider}
use Rattle.near_changes.proofs.stage.Stage.see_around.Goals as goal

pub loop-index-preserved : goal.loop-index-preserved
loop-index-preserved c =
    let a = c.args in
    let e = c.in_ok-see.ensures in
    let same = c.see.ensures.same in
    let invariant = c.loop-index.invariant in
    let now = c.loop-index.self in
    let new = c.see.new.self in
    let pair = c.pair_at-pair.result in
    let P : Pair → Type 0 = λ q. IsSeenAcross a.cut.now.choices.now a.cut.now.bits.now a.site q new in
    record {
      shown = e.shown;
      wider = wider_then a.self.now now new invariant.wider e.wider;
      seen = below_more (λ k. P (pair_of a.ends.now a.site k)) c.loop-index.index
          (λ k l. across_wider a.cut.now.choices.now a.cut.now.bits.now a.site (pair_of a.ends.now a.site k) now new e.wider (invariant.seen k l))
          (subst P c.pair_at-pair.ensures.value
          (at_other (λ q. IsSiteSeen a.cut.now.choices.now a.cut.now.bits.now q new) pair a.site c.other_end.result c.pair_at-pair.ensures.pair.unequal c.other_end.ensures e.seen));
      fresh = same.0 ∙ invariant.fresh;
      fresh_sites = same.1 ∙ invariant.fresh_sites;
      opened = same.2 ∙ invariant.opened;
    }
