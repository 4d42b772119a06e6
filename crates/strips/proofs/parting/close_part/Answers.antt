use Rattle.std.proofs.Common.{◌≡◌, ◌≢◌, ◌+◌, ◌-◌, ◌∙◌, ℕ, List, length, sym, ap, subst, arith}
use Rattle.label_energies.specs.Energies.{labelling}
use Rattle.move_energy.specs.declared.choice.Choice.{Choice}
use Rattle.move_energy.specs.declared.choice.Choice.TheVariants.{Open}
use Rattle.move_energy.specs.Choices.{bit_of, choice_at}
use Rattle.move_energy.specs.MoveValues.{move_value}
use Rattle.site_bounds.specs.Parts.{ArePassedChoices}
use Rattle.site_bounds.proofs.Trying.{if_ok_two, written_whole}
use Rattle.persistency.specs.Agreeing.{Agree}
use Rattle.strip_nets.specs.Views.{KeepsChosen}
use Rattle.strips.proofs.Gathering.{passed_agree}
use Rattle.strips.proofs.Ranges.{ends_from}
use Rattle.strips.proofs.parting.close_part.Goals as goal

pub returns : goal.returns
returns c =
    let a = c.args in
    let e = c.sweep.ensures in
    let swept = c.sweep.new.known in
    let closed = c.close_range.new.known.items in
    let start : c.as_mut_slice.result.now ≡ a.choices.now = c.as_mut_slice.ensures.value ∙ c.in_ok-known.ensures.items in
    let same : length c.as_mut_slice.result.now ≡ length a.choices.now = ap (λ (xs : List Choice). length xs) start in
    let whole = written_whole c.in_ok-known.known.len swept _ (omega (arith, c.in_ok-known.ensures.len, e.count, same)) in
    let now = λ (p : ℕ). ap (λ (xs : List Choice). choice_at xs p) c.deref.ensures.value in
    let keeps : KeepsChosen swept closed = c.close_range.ensures.goes_on swept (λ p l shuts. ap (λ (xs : List Choice). choice_at xs p) whole) in
    let long : length closed ≡ length a.form.now.at.now = omega (arith, c.close_range.ensures.count, ap (λ (xs : List Choice). length xs) whole, e.count, same, c.requires.choices) in
    if_ok_two c.codes_of.result _ _ _ (λ v count each. record {
      count = count;
      kept = λ k l shuts.
          let before = λ (p : ℕ). ap (λ (xs : List Choice). choice_at xs p) start in
          let was : choice_at c.as_mut_slice.result.now (a.from + k) ≢ Open = λ opened. shuts (sym (before (a.from + k)) ∙ opened) in
          let stays = e.kept (a.from + k) was in
          each k l ∙ now (a.from + k) ∙ keeps (a.from + k) (omega (arith, l, long, c.requires.range.1)) (λ opened. was (sym stays ∙ opened)) ∙ stays ∙ before (a.from + k);
      told = λ m move told is was.
          let f = labelling a.form.now.at.now in
          let P : List Choice → Type 0 = λ xs. ArePassedChoices m move f (choice_at xs) in
          let A : List Choice → Type 0 = λ xs. Agree m.sites (move_value m move f) (choice_at xs) in
          let first = passed_agree m move f (choice_at swept) is told.allowed (e.passed m move told (subst P (sym start) was)) in
          record {
            known = closed;
            agree = c.in_ok-close_range.ensures.agree m move told is (subst A (sym whole) first);
            inside = λ k l. each k l ∙ now (a.from + k);
          };
      tried = λ m move k b told was l test opened.
          let before = λ (p : ℕ). ap (λ (xs : List Choice). choice_at xs p) start in
          let is : ArePassedChoices m move (labelling a.form.now.at.now) (choice_at c.as_mut_slice.result.now) =
          record { decisions = was.decisions; passed = was.passed; shown = λ x p l. was.shown x p l ∙ ap (λ (o : Choice). bit_of o (x p)) (sym (before p)) } in
          let told_it : choice_at swept (a.from + k) ≢ Open = e.tried m move (a.from + k) b told is (omega arith) (omega (arith, l)) test in
          told_it (sym (keeps (a.from + k) (omega (arith, l, long, c.requires.range.1)) told_it) ∙ sym (now (a.from + k)) ∙ sym (each k l) ∙ opened);
      ends = λ m move told is was.
          let f = labelling a.form.now.at.now in
          let P : List Choice → Type 0 = λ xs. ArePassedChoices m move f (choice_at xs) in
          let A : List Choice → Type 0 = λ xs. Agree m.sites (move_value m move f) (choice_at xs) in
          let first = passed_agree m move f (choice_at swept) is told.allowed (e.passed m move told (subst P (sym start) was)) in
          let before = λ (p : ℕ). ap (λ (xs : List Choice). choice_at xs p) start in
          let ends = ends_from m move f a.choices.now _ a.from a.to _ (ap (λ (xs : List Choice). length xs) whole ∙ e.count ∙ same)
          (λ p l shuts. ap (λ (xs : List Choice). choice_at xs p) whole ∙ e.kept p (λ o. shuts (sym (before p) ∙ o)) ∙ before p)
          (c.in_ok-close_range.ensures.ends m move told is (subst A (sym whole) first)) in
          record {
            before = ends.before;
            count = ends.count;
            kept = ends.kept;
            agree = ends.agree;
            strip = ends.strip;
            whole = ends.whole;
            bounded = ends.bounded;
            tells = λ p above below.
                let here : a.from + (p - a.from) ≡ p = omega (arith, above) in
                each (p - a.from) (omega (arith, above, below)) ∙ now (a.from + (p - a.from)) ∙ ap (choice_at closed) here ∙ ends.tells p above below;
          };
    }) c.codes_of.ensures.count c.codes_of.ensures.each
