use Rattle.std.proofs.Common.{◌≡◌, ◌+◌, ◌-◌, ◌∙◌, ℕ, List, length, Result, Ok, sym, ap, subst, refl, inl, inr, arith}
use Rattle.std.specs.Prelude.{slice_index_or, IfOk}
use Rattle.std.specs.Result.{is_ok}
use Rattle.std.proofs.lemmas.Bool.{cases_eq}
use Rattle.std.proofs.lemmas.List.{get_or_default}
use Rattle.strips.specs.Parts.{ArePartCodes, IsPartJoined, part_start}
use Rattle.strips.proofs.Gathering.{Takes, part_ordered, takes_joined, takes_earlier, takes_agree, filled_codes}
use Rattle.site_bounds.proofs.Trying.{if_ok_two}
use Rattle.strips.proofs.parts.join_parts.Goals as goal

pub loop-part-preserved : goal.loop-part-preserved
loop-part-preserved c =
    let a = c.args in
    let i = c.loop-part.invariant in
    let m = length a.choices.now in
    let j = c.loop-part.part in
    let codes = c.in-Ok.codes.items in
    let now = c.loop-part.choices in
    let new = c.join_part.new.choices in
    let e = c.join_part.ensures in
    let is = sym c.index-parts-part.is ∙ c.in-Ok.is in
    let fills : length codes ≡ part_start m a.size (j + 1) - part_start m a.size j =
    filled_codes a.parts.now m a.size j c.index-parts-part.result c.in-Ok.codes is c.requires.filled c.loop-part-test.true in
    let ordered = part_ordered m a.size j in
    let from : c.part_start-from.result ≡ part_start m a.size j = c.part_start-from.ensures ∙ ap (λ k. part_start k a.size j) i.count in
    let value = c.deref.ensures.value in
    let takes : Takes (part_start m a.size j) codes now new = (
    let Q : List ℕ → Type 0 = λ ks. Takes c.part_start-from.result ks now new in
    let R : ℕ → Type 0 = λ f. Takes f codes now new in
    subst R from (subst Q value (record { inside = e.inside; outside = e.outside }))) in
    record {
      count = e.count ∙ i.count;
      later = λ p l. takes.outside p (inr (omega (arith, l, fills, ordered))) ∙ i.later p (omega (arith, l, ordered));
      whole = λ k part l. elim (cases_eq k j) [
        | inr other ↦ i.whole k part (omega (arith, l, other))
        | inl same ↦
            ap is_ok (ap (λ q. slice_index_or a.parts.now q part) same ∙ get_or_default a.parts.now j part c.index-parts-part.result c.loop-part-test.true ∙ is)
      ];
      joined = λ k part l. elim (cases_eq k j) [
        | inr other ↦
            if_ok_two (slice_index_or a.parts.now k part) _ _ _ (λ v own joined. takes_earlier m a.size k j v.items codes a.choices.now now new refl (omega (arith, l, other)) own takes joined)
            (c.requires.filled k part (omega (arith, l, c.loop-part-test.true))) (i.joined k part (omega (arith, l, other)))
        | inl same ↦
            let at : slice_index_or a.parts.now k part ≡ Ok c.in-Ok.codes =
            ap (λ q. slice_index_or a.parts.now q part) same ∙ get_or_default a.parts.now j part c.index-parts-part.result c.loop-part-test.true ∙ is in
            let P : Result _ _ → Type 0 = λ r. IfOk r (λ v. IsPartJoined a.size a.choices.now new k v.items) in
            let Q : ℕ → Type 0 = λ q. IsPartJoined a.size a.choices.now new q codes in
            subst P (sym at) (subst Q (sym same) (takes_joined m a.size j codes a.choices.now now new refl takes i.later))
      ];
      agree = λ n E start parts.
          let P : Result _ _ → Type 0 = λ r. IfOk r (λ v. ArePartCodes n E (part_start m a.size j) (part_start m a.size (j + 1)) v.items) in
          takes_agree n E (part_start m a.size j) (part_start m a.size (j + 1)) codes now new ordered fills takes
          (i.agree n E start parts) (subst P is (parts j c.index-parts-part.result c.loop-part-test.true));
    }
