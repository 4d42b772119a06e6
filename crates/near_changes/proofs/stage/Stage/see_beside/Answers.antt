use Rattle.std.proofs.Common.{◌≡◌, ◌∙◌, ◌<◌, ℕ, length, get_or, sym, subst, below_more, arith}
use Rattle.std.proofs.lemmas.Bool.{leb-true}
use Rattle.std.proofs.lemmas.List.Elements.{All-from_get_or}
use Rattle.move_energy.proofs.Joins.{read_at}
use Rattle.near_changes.specs.Working.{AreSeenAround}
use Rattle.near_changes.proofs.Seen.{wider_then, around_wider}
use Rattle.near_changes.proofs.stage.Stage.see_beside.Goals as goal

pub loop-index-preserved : goal.loop-index-preserved
loop-index-preserved c =
    let a = c.args in
    let e = c.in_ok-see_around.ensures in
    let same = c.see_around.ensures.same in
    let invariant = c.loop-index.invariant in
    let now = c.loop-index.self in
    let new = c.see_around.new.self in
    let i = c.loop-index.index in
    let within : i < length now.taking.items = omega (arith, c.if-index-len.false, c.len.ensures, now.taking.ok.0) in
    let read : c.index-site.result.now ≡ get_or new.taking.items i 0 = read_at now.taking.items i c.index-site.result.now 0 within c.index-site.ensures ∙ sym (e.wider.same i within) in
    let P : ℕ → Type 0 = λ p. AreSeenAround a.pairs.now a.ends.now a.cut.now.choices.now a.cut.now.bits.now p new in
    let Q : ℕ → Type 0 = λ p. AreSeenAround a.pairs.now a.ends.now a.cut.now.choices.now a.cut.now.bits.now p now in
    record {
      shown = e.shown;
      wider = wider_then a.self.now now new invariant.wider e.wider;
      within = omega (arith, within, e.wider.more);
      seen = below_more (λ k. P (get_or new.taking.items k 0)) i
          (λ k l. around_wider a.pairs.now a.ends.now a.cut.now.choices.now a.cut.now.bits.now (get_or new.taking.items k 0) now new e.wider
          (subst Q (sym (e.wider.same k (omega (arith, l, within)))) (invariant.seen k l)))
          (subst P read e.seen);
      fresh = same.0 ∙ invariant.fresh;
      fresh_sites = same.1 ∙ invariant.fresh_sites;
      opened = same.2 ∙ invariant.opened;
    }

pub returns-then-index-len-clause-seen : goal.returns-then-index-len-clause-seen
returns-then-index-len-clause-seen c = λ yes.
    let a = c.args in
    let now = c.loop-index.self in
    All-from_get_or (λ p. AreSeenAround a.pairs.now a.ends.now a.cut.now.choices.now a.cut.now.bits.now p now) now.taking.items 0
    (λ k l. c.loop-index.invariant.seen k (omega (arith, l, c.if-index-len.true, c.len.ensures, now.taking.ok.0)))

pub returns-clause-seen : goal.returns-clause-seen
returns-clause-seen c = λ yes.
    let a = c.args in
    let now = c.loop-index.self in
    let most = leb-true c.len-2.result (length a.cut.now.choices.now) yes in
    All-from_get_or (λ p. AreSeenAround a.pairs.now a.ends.now a.cut.now.choices.now a.cut.now.bits.now p now) now.taking.items 0
    (λ k l. c.loop-index.invariant.seen k (omega (arith, l, most, c.len-2.ensures, now.taking.ok.0, c.loop-index-test.false, c.loop-index.auto)))
