use Rattle.std.proofs.Common.{◌≡◌, ◌+◌, ◌<◌, ◌∙◌, length, sym, ap, inl, inr, arith}
use Rattle.std.specs.Prelude.{slice_set}
use Rattle.std.proofs.lemmas.Bool.{cases_eq}
use Rattle.std.proofs.lemmas.List.{get_or_default, length-set}
use Rattle.move_energy.specs.declared.choice.Choice.TheVariants.{Open, Zero}
use Rattle.move_energy.specs.Choices.{choice_at}
use Rattle.strips.specs.Parts.{coded_at, known_or}
use Rattle.site_bounds.proofs.Trying.{set_here, set_there}
use Rattle.strips.proofs.parts.join_part.Goals as goal

pub loop-place-preserved : goal.loop-place-preserved
loop-place-preserved c =
    let a = c.args in
    let i = c.loop-place.invariant in
    let now = c.loop-place.choices in
    let site = a.from + c.loop-place.place in
    let l : site < length now = omega (arith, i.count, c.requires, c.loop-place-test.true) in
    let was = get_or_default now site Open Zero l ∙ i.outside site (inr (omega arith)) in
    let here : c.or_told.result ≡ known_or (choice_at a.choices.now site) (coded_at a.codes.now c.loop-place.place) =
    c.or_told.ensures ∙ (λ j. known_or (was j) (c.choice_of.ensures j)) in
    record {
      count = length-set now site c.or_told.result ∙ i.count;
      inside = λ k b. elim (cases_eq k c.loop-place.place) [
        | inl same ↦
            ap (λ j. choice_at (slice_set now site c.or_told.result) (a.from + j)) same ∙ set_here now site c.or_told.result l ∙ here
            ∙ sym (ap (λ j. known_or (choice_at a.choices.now (a.from + j)) (coded_at a.codes.now j)) same)
        | inr other ↦ set_there now site (a.from + k) c.or_told.result (λ same. absurd (omega (arith, same, other))) ∙ i.inside k (omega (arith, b, other))
      ];
      outside = λ p off. elim off [
        | inl before ↦ set_there now site p c.or_told.result (λ same. absurd (omega (arith, same, before))) ∙ i.outside p (inl before)
        | inr after ↦ set_there now site p c.or_told.result (λ same. absurd (omega (arith, same, after))) ∙ i.outside p (inr (omega (arith, after)))
      ];
    }
