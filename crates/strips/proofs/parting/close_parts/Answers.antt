use Rattle.std.proofs.Common.{◌≡◌, ◌≤◌, ◌*◌, ◌∙◌, ℕ, List, length, sym, ap, subst, arith}
use Rattle.std.specs.Prelude.{Err, Result, OnOk}
use Rattle.std.specs.Global.{Vec}
use Rattle.std.specs.Int.{div_ceil}
use Rattle.std.specs.declared.alloc.AllocError.{AllocError}
use Rattle.std.proofs.lemmas.Grind.{div_ceil_times}
use Rattle.std.proofs.lemmas.Result.{on_ok_weaker}
use Rattle.label_energies.specs.Energies.{labelling}
use Rattle.move_energy.specs.declared.choice.Choice.{Choice}
use Rattle.move_energy.specs.Choices.{choice_at}
use Rattle.move_energy.specs.MoveValues.{move_value}
use Rattle.site_bounds.specs.Parts.{ArePassedChoices}
use Rattle.site_bounds.proofs.Places.{on_ok_two}
use Rattle.site_bounds.proofs.Trying.{written_whole}
use Rattle.persistency.specs.Agreeing.{Agree}
use Rattle.strips.specs.Parts.{DecidesTold, IsPartAnswer, OfParts, PartsEndWithStrips}
use Rattle.strips.proofs.Gathering.{parts_told, passed_agree, all_told, all_end}
use Rattle.strips.proofs.parting.close_parts.Goals as goal

pub returns-clause-agree : goal.returns-clause-agree
returns-clause-agree g c = λ m move told is passed.
    let a = c.args in
    let f = labelling a.form.now.at.now in
    let old = c.as_mut_slice.result.now in
    let now = c.deref.result.now in
    let P : List Choice → Type 0 = λ cs. ArePassedChoices m move f (choice_at cs) in
    let A : List Choice → Type 0 = λ cs. Agree m.sites (move_value m move f) (choice_at cs) in
    let first : ArePassedChoices m move f (choice_at old) = subst P (sym c.as_mut_slice.ensures.value) passed in
    let same : now ≡ old = c.deref.ensures.value ∙ sym c.as_mut_slice.ensures.value in
    let count : length old ≡ length a.form.now.at.now = ap (λ (cs : List Choice). length cs) c.as_mut_slice.ensures.value ∙ c.requires.choices in
    let parts = parts_told m move a.form.now old now c.div_ceil-sites.result c.in_ok-parts.parts.items c.as_slice.result.now told is same count
    c.as_slice.ensures.value first c.in_ok-parts.ensures.closed in
    let new = c.join_parts.new.choices in
    let start : length old ≡ length a.known.now.items = ap (λ (cs : List Choice). length cs) c.as_mut_slice.ensures.value in
    let whole = written_whole a.known.now.len new _ (omega (arith, c.join_parts.ensures.count, start, a.known.now.ok)) in
    on_ok_weaker c.join_parts.result (λ agree. subst A (sym whole) agree)
    (c.join_parts.ensures.agree m.sites (move_value m move f) (passed_agree m move f (choice_at old) is told.allowed first) parts)

pub returns-clause-told : goal.returns-clause-told
returns-clause-told g c =
    let a = c.args in
    let old = c.as_mut_slice.result.now in
    let now = c.deref.result.now in
    let listed = c.as_slice.ensures.value in
    let new = c.join_parts.new.choices in
    let start : length old ≡ length a.known.now.items = ap (λ (cs : List Choice). length cs) c.as_mut_slice.ensures.value in
    let whole = written_whole a.known.now.len new _ (omega (arith, c.join_parts.ensures.count, start, a.known.now.ok)) in
    let same : old ≡ now = c.as_mut_slice.ensures.value ∙ sym c.deref.ensures.value in
    let long : length now ≡ length a.form.now.at.now = ap (λ (cs : List Choice). length cs) c.deref.ensures.value ∙ c.requires.choices in
    let sites : c.len.result ≡ length now = omega (arith, c.len.ensures, a.known.now.ok, ap (λ (cs : List Choice). length cs) c.deref.ensures.value) in
    let size : c.div_ceil-sites.result ≡ div_ceil (length now) a.count = c.div_ceil-sites.ensures ∙ ap (λ n. div_ceil n a.count) sites in
    let S : ℕ → Type 0 = λ k. length now ≤ k * a.count in
    let cover : length now ≤ c.div_ceil-sites.result * a.count = subst S (sym size) (div_ceil_times (length now) a.count c.requires.count.0).0 in
    let A : List (Result (Vec ℕ) AllocError) → Type 0 = λ ps. OfParts (IsPartAnswer a.form.now now c.div_ceil-sites.result) ps in
    let closed = subst A (sym listed) c.in_ok-parts.ensures.closed in
    let all : length c.as_slice.result.now ≡ a.count = omega (arith, ap (λ (ps : List (Result (Vec ℕ) AllocError)). length ps) listed, c.in_ok-parts.ensures.count, c.in_ok-parts.parts.ok) in
    let E : List Choice → Type 0 = λ cs. DecidesTold a.form.now cs new in
    subst (λ cs. OnOk c.join_parts.result (DecidesTold a.form.now a.known.now.items cs)) (sym whole)
    (on_ok_two c.join_parts.result _ _ _ (λ each joined. subst E c.deref.ensures.value
    (all_told a.form.now now old new c.div_ceil-sites.result a.count c.as_slice.result.now (Err (record {})) same long all cover closed each joined))
    c.join_parts.ensures.whole c.join_parts.ensures.joined)

pub returns-clause-ends : goal.returns-clause-ends
returns-clause-ends g c = λ m move told is passed.
    let a = c.args in
    let f = labelling a.form.now.at.now in
    let old = c.as_mut_slice.result.now in
    let now = c.deref.result.now in
    let listed = c.as_slice.ensures.value in
    let new = c.join_parts.new.choices in
    let start : length old ≡ length a.known.now.items = ap (λ (cs : List Choice). length cs) c.as_mut_slice.ensures.value in
    let whole = written_whole a.known.now.len new _ (omega (arith, c.join_parts.ensures.count, start, a.known.now.ok)) in
    let same : old ≡ now = c.as_mut_slice.ensures.value ∙ sym c.deref.ensures.value in
    let long : length now ≡ length a.form.now.at.now = ap (λ (cs : List Choice). length cs) c.deref.ensures.value ∙ c.requires.choices in
    let sites : c.len.result ≡ length now = omega (arith, c.len.ensures, a.known.now.ok, ap (λ (cs : List Choice). length cs) c.deref.ensures.value) in
    let size : c.div_ceil-sites.result ≡ div_ceil (length now) a.count = c.div_ceil-sites.ensures ∙ ap (λ n. div_ceil n a.count) sites in
    let A : List (Result (Vec ℕ) AllocError) → Type 0 = λ ps. OfParts (IsPartAnswer a.form.now now c.div_ceil-sites.result) ps in
    let closed = subst A (sym listed) c.in_ok-parts.ensures.closed in
    let all : length c.as_slice.result.now ≡ a.count = omega (arith, ap (λ (ps : List (Result (Vec ℕ) AllocError)). length ps) listed, c.in_ok-parts.ensures.count, c.in_ok-parts.parts.ok) in
    let P : List Choice → Type 0 = λ cs. ArePassedChoices m move f (choice_at cs) in
    let E : List Choice → Type 0 = λ cs. PartsEndWithStrips m move f cs a.count (choice_at new) in
    subst (λ cs. OnOk c.join_parts.result (PartsEndWithStrips m move f a.known.now.items a.count (choice_at cs))) (sym whole)
    (on_ok_two c.join_parts.result _ _ _ (λ each joined. subst E c.deref.ensures.value
    (all_end m move a.form.now now old new c.div_ceil-sites.result a.count c.as_slice.result.now (Err (record {})) told is (subst P (sym c.deref.ensures.value) passed)
    same long all size closed each joined)) c.join_parts.ensures.whole c.join_parts.ensures.joined)
