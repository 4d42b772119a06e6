use Rattle.std.proofs.Common.{◌≡◌, ◌∙◌, ◌<◌, ℕ, length, get_or, ap, subst, below_more, arith}
use Rattle.std.proofs.lemmas.List.Elements.{All-from_get_or}
use Rattle.move_energy.proofs.Joins.{read_at}
use Rattle.near_changes.specs.Working.{IsSiteSeen}
use Rattle.near_changes.proofs.Seen.{seen_wider}
use Rattle.near_changes.proofs.stage.Stage.see_fresh.Goals as goal

pub loop-index-preserved : goal.loop-index-preserved
loop-index-preserved c =
    let a = c.args in
    let e = c.in_ok-see.ensures in
    let same = c.see.ensures.same in
    let invariant = c.loop-index.invariant in
    let now = c.loop-index.self in
    let new = c.see.new.self in
    let sites = a.self.now.fresh_sites.items in
    let within : c.loop-index.index < length now.fresh_sites.items = omega (arith, c.loop-index-test.true, c.len-index-end.ensures, ap (λ (v : _). length v.items) invariant.fresh_sites) in
    let read : c.index-site.result.now ≡ get_or sites c.loop-index.index 0 =
    read_at now.fresh_sites.items c.loop-index.index c.index-site.result.now 0 within c.index-site.ensures ∙ ap (λ (v : _). get_or v.items c.loop-index.index 0) invariant.fresh_sites in
    let P : ℕ → Type 0 = λ p. IsSiteSeen a.cut.now.choices.now a.cut.now.bits.now p new in
    record {
      shown = e.shown;
      seen = below_more (λ k. P (get_or sites k 0)) c.loop-index.index
          (λ k l. seen_wider a.cut.now.choices.now a.cut.now.bits.now (get_or sites k 0) now new e.wider (invariant.seen k l))
          (subst P read e.seen);
      fresh = same.0 ∙ invariant.fresh;
      fresh_sites = same.1 ∙ invariant.fresh_sites;
      opened = same.2 ∙ invariant.opened;
    }

pub returns-clause-seen : goal.returns-clause-seen
returns-clause-seen c =
    let a = c.args in
    All-from_get_or (λ p. IsSiteSeen a.cut.now.choices.now a.cut.now.bits.now p c.loop-index.self) a.self.now.fresh_sites.items 0
    (λ k l. c.loop-index.invariant.seen k (omega (arith, l, c.loop-index-test.false, c.len-index-end.ensures)))
