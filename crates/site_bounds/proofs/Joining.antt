-- Choices of decisions that passed the test, put together.
use Rattle.std.proofs.Common.{◌≡◌, ◌≢◌, ℕ, Bool, true, false, List, ◌∷◌, ℤ, pos, ◌≤ℤ◌, ◌<ℤ◌, refl, sym, ap, ◌∙◌, inl, inr, arith}
use Rattle.std.proofs.lemmas.Int.{ints}
use Rattle.std.proofs.lemmas.Bool.{cases_eq}
use Rattle.label_energies.specs.declared.change.Move.{Move}
use Rattle.label_energies.specs.Energies.{Instance, IsInstance}
use Rattle.label_energies.specs.Moves.{IsAllowed}
use Rattle.move_energy.specs.declared.choice.Choice.{Choice}
use Rattle.move_energy.specs.declared.choice.Choice.TheVariants.{Open, Zero, One}
use Rattle.move_energy.specs.Choices.{bit_of, choice_at}
use Rattle.move_energy.specs.Assignments.{rise}
use Rattle.site_bounds.specs.Decisions.{with_decisions, Passes}
use Rattle.move_energy.specs.MoveValues.{move_value}
use Rattle.move_energy.specs.Ends.{decided_or}
use Rattle.site_bounds.specs.Parts.{ArePassedChoices}
use Rattle.move_energy.proofs.Assignments.{set_at, set_other}
use Rattle.move_energy.proofs.Rising.{rise_over, move_falls}

-- ---- choices

pub choices_same : (m : Instance) (move : Move) (f : ℕ → ℕ) (old new : ℕ → Choice) → ((p : ℕ) → new p ≡ old p) → ArePassedChoices m move f old → ArePassedChoices m move f new
choices_same m move f old new same passed = record {
  decisions = passed.decisions;
  passed = passed.passed;
  shown = λ x p l. passed.shown x p l ∙ ap (λ (c : Choice). bit_of c (x p)) (sym (same p));
}

-- one site more is decided
pub choices_more : (m : Instance) (move : Move) (f : ℕ → ℕ) (u : ℕ) (value : Bool) (old new : ℕ → Choice) → (passed : ArePassedChoices m move f old)
    → Passes (move_value m move f) passed.decisions u value → ((b : Bool) → bit_of (new u) b ≡ value) → ((p : ℕ) → p ≢ u → new p ≡ old p)
    → ArePassedChoices m move f new
choices_more m move f u value old new passed test own others =
    let ds = passed.decisions in
    record {
      decisions = record { variable = u; value = value } ∷ ds;
      passed = (passed.passed, test);
      shown = λ x p l. elim (cases_eq p u) [
        | inl same ↦ set_at (with_decisions ds x) u p value same ∙ sym (own (x p)) ∙ ap (λ q. bit_of (new q) (x p)) (sym same)
        | inr other ↦ set_other (with_decisions ds x) u p value other ∙ passed.shown x p l ∙ ap (λ (c : Choice). bit_of c (x p)) (sym (others p other))
      ];
    }

-- ---- the rises of a site by what is known

rise_known : (m : Instance) (move : Move) (f : ℕ → ℕ) (u : ℕ) (b : Bool) (known : List Choice) → IsInstance m → (passed : ArePassedChoices m move f (choice_at known))
    → rise (move_value m move f) u (decided_or known b) ≡ rise (move_value m move f) u (with_decisions passed.decisions (λ v. b))
rise_known m move f u b known are passed = rise_over m move f u (decided_or known b) (with_decisions passed.decisions (λ v. b)) are (λ p l. sym (passed.shown (λ v. b) p l))

pub passes_low : (m : Instance) (move : Move) (f : ℕ → ℕ) (u : ℕ) (known : List Choice) (least : ℤ) → IsInstance m → (passed : ArePassedChoices m move f (choice_at known))
    → least ≡ rise (move_value m move f) u (decided_or known true) → pos 0 ≤ℤ least → Passes (move_value m move f) passed.decisions u false
passes_low m move f u known least are passed is test =
    let same = is ∙ rise_known m move f u true known are passed in
    omega (arith, ints, same, test)

pub passes_high : (m : Instance) (move : Move) (f : ℕ → ℕ) (u : ℕ) (known : List Choice) (greatest : ℤ) → IsInstance m → (passed : ArePassedChoices m move f (choice_at known))
    → greatest ≡ rise (move_value m move f) u (decided_or known false) → greatest <ℤ pos 0 → Passes (move_value m move f) passed.decisions u true
passes_high m move f u known greatest are passed is test =
    let same = is ∙ rise_known m move f u false known are passed in
    omega (arith, ints, same, test)

-- what passes the test is told by the rises
not_both : (a b : ℤ) → a <ℤ pos 0 → a ≡ b → pos 0 ≤ℤ b → ⊥
not_both a b h k l = omega (arith, ints, h, k, l)

pub not_untold : (m : Instance) (move : Move) (f : ℕ → ℕ) (u : ℕ) (b : Bool) (known : List Choice) (least greatest : ℤ) → IsInstance m → (passed : ArePassedChoices m move f (choice_at known))
    → least ≡ rise (move_value m move f) u (decided_or known true) → greatest ≡ rise (move_value m move f) u (decided_or known false)
    → Passes (move_value m move f) passed.decisions u b → (least <ℤ pos 0) × (pos 0 ≤ℤ greatest) → ⊥
not_untold m move f u false known least greatest are passed low high test neither =
    not_both least _ neither.0 (low ∙ rise_known m move f u true known are passed) test
not_untold m move f u true known least greatest are passed low high test neither =
    not_both _ greatest test (sym (high ∙ rise_known m move f u false known are passed)) neither.1

-- ---- once more is known, what passed the test passes it still

kept_ones : (old new : Choice) → (old ≢ Open → new ≡ old) → bit_of new true ≡ true → bit_of old true ≡ true
kept_ones Open new kept one = refl
kept_ones Zero new kept one = absurd (let same = kept (λ h. cc (h)) in let e = ap (λ (c : Choice). bit_of c true) same in cc (e, one))
kept_ones One new kept one = refl

kept_zeros : (old new : Choice) → (old ≢ Open → new ≡ old) → bit_of old false ≡ true → bit_of new false ≡ true
kept_zeros Open new kept one = absurd (cc (one))
kept_zeros Zero new kept one = absurd (cc (one))
kept_zeros One new kept one = ap (λ (c : Choice). bit_of c false) (kept (λ h. cc (h)))

pub passes_still : (m : Instance) (move : Move) (f : ℕ → ℕ) (u : ℕ) (b : Bool) (old new : List Choice) → IsInstance m → IsAllowed m move f
    → ((p : ℕ) → choice_at old p ≢ Open → choice_at new p ≡ choice_at old p)
    → (was : ArePassedChoices m move f (choice_at old)) → (is : ArePassedChoices m move f (choice_at new))
    → Passes (move_value m move f) was.decisions u b → Passes (move_value m move f) is.decisions u b
passes_still m move f u false old new are allowed kept was is test =
    let falls = move_falls m move f are allowed (decided_or new true) (decided_or old true) u (λ p one. kept_ones (choice_at old p) (choice_at new p) (kept p) one) in
    let before = rise_known m move f u true old are was in
    let after = rise_known m move f u true new are is in
    omega (arith, ints, falls, before, after, test)
passes_still m move f u true old new are allowed kept was is test =
    let falls = move_falls m move f are allowed (decided_or old false) (decided_or new false) u (λ p one. kept_zeros (choice_at old p) (choice_at new p) (kept p) one) in
    let before = rise_known m move f u false old are was in
    let after = rise_known m move f u false new are is in
    omega (arith, ints, falls, before, after, test)
