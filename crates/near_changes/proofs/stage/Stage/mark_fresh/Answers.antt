use Rattle.std.proofs.Common.{ℕ, ◌+◌, length, sym, subst, arith}
use Rattle.label_energies.specs.Energies.{labelling}
use Rattle.near_changes.specs.Looking.{is_marked, changed_since}
use Rattle.near_changes.specs.Working.{AreSiteMarks}
use Rattle.near_changes.proofs.Around.{all_fresh}
use Rattle.near_changes.specs.declared.stage.Stage.{Stage}
use Rattle.near_changes.proofs.Scanning.{AreScanned, scanned_changed, scanned_same}
use Rattle.near_changes.proofs.stage.Stage.mark_fresh.Goals as goal
use Rattle.near_changes.proofs.stage.Stage.mark_fresh.Goals.{then-stamps-site+in_ok-mark_around, else-stamps-site}

pub loop-site-preserved : goal.loop-site-preserved
loop-site-preserved c =
    let a = c.args in
    let now = c.loop-site.self in
    let i = c.loop-site.site in
    let P : Stage → Type 0 = λ s. AreScanned a.pairs.now a.ends.now a.alpha (labelling a.at.now) a.stamps.now a.since (length a.at.now) (i + 1) s in
    elim c.if-stamps-site.branch [
      | then-stamps-site+in_ok-mark_around w ↦
          let e = w.in_ok-mark_around.ensures in
          subst P (sym w.self-is)
          (scanned_changed a.pairs.now a.ends.now a.alpha (labelling a.at.now) a.stamps.now a.since (length a.at.now) i now w.mark_around.new.self
          w.if-stamps-site.true e.marks e.stays e.only e.around c.loop-site.invariant)
      | else-stamps-site w ↦
          subst P (sym w.self-is)
          (scanned_same a.pairs.now a.ends.now a.alpha (labelling a.at.now) a.stamps.now a.since (length a.at.now) i now w.if-stamps-site.false c.loop-site.invariant)
    ]

pub returns : goal.returns
returns c =
    let a = c.args in
    let P : ℕ → Type 0 = λ n. AreSiteMarks n c.loop-site.self.fresh.items c.loop-site.self.fresh_sites.items in
    let marks : AreSiteMarks a.pairs.now.sites c.loop-site.self.fresh.items c.loop-site.self.fresh_sites.items = subst P c.requires.sites.0 c.loop-site.invariant.marks in
    record {
      fresh = record {
        count = marks.count;
        fresh = all_fresh a.pairs.now a.ends.now a.alpha (labelling a.at.now) (changed_since a.stamps.now a.since) (is_marked c.loop-site.self.fresh.items) c.requires.by_site
            c.keeps.ensures.each (λ p l held. c.loop-site.invariant.around p (omega (arith, l, c.loop-site-test.false, c.sites-count.ensures.value)) held);
        only = c.loop-site.invariant.only;
        listed = λ p l held. (marks.listed p l).0 held;
        inside = marks.inside;
      };
    }
