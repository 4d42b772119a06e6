use Rattle.std.proofs.Common.{◌≡◌, ◌∙◌, ℕ, true, vec_len, ap, sym, arith}
use Rattle.std.proofs.lemmas.Bool.{eqb-true}
use Rattle.std.proofs.lemmas.List.Elements.{All-contains}
use Rattle.near_changes.specs.Looking.{is_marked}
use Rattle.near_changes.specs.Working.{IsSiteSeen}
use Rattle.near_changes.proofs.Seen.{seen_wider, closes}
use Rattle.near_changes.proofs.stage.Stage.close.Goals as goal

pub returns-then-end-clause-closed : goal.returns-then-end-clause-closed
returns-then-end-clause-closed c =
    let a = c.args in
    let e = c.in_ok-end.ensures in
    let seen = c.see_fresh.new.self in
    let stage = c.see_beside.new.self in
    let was : (p : ℕ) → is_marked stage.fresh.items p ≡ true → is_marked a.self.now.fresh.items p ≡ true =
    λ p held. sym (ap (λ (v : _). is_marked v.items p) (c.see_beside.ensures.same.0 ∙ c.see_fresh.ensures.same.0)) ∙ held in
    λ empty. closes a.pairs.now a.ends.now a.choices.now a.bits.now stage c.requires.by_site c.keeps.ensures.each c.requires.sites e.shown
    (λ p l held. seen_wider a.choices.now a.bits.now p seen stage e.wider
    (All-contains (λ q. IsSiteSeen a.choices.now a.bits.now q seen) a.self.now.fresh_sites.items p c.in_ok-see_fresh.ensures.seen (c.requires.fresh p l (was p held))))
    (e.seen c.if-end.true)
    (omega (arith, eqb-true (vec_len stage.front) 0 (sym c.is_empty.ensures ∙ empty), stage.front.ok.0))
