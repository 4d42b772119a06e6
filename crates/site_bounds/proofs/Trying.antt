-- A site that is tried, and sites that are tried one after another.
use Rattle.std.proofs.Common.{◌≡◌, ◌≢◌, ℕ, ◌<◌, true, false, List, length, Result, Ok, Err, ℤ, pos, ◌≤ℤ◌, ◌<ℤ◌, refl, sym, ap, ◌∙◌, inl, inr, arith}
use Rattle.std.specs.Prelude.{slice_set, IfOk}
use Rattle.std.proofs.lemmas.Bool.{cases_eq}
use Rattle.std.proofs.lemmas.List.{get_or-set_same, get_or-set_other}
pub use Rattle.form_lists.proofs.Clearing.{written_whole}
use Rattle.label_energies.specs.declared.change.Move.{Move}
use Rattle.label_energies.specs.Energies.{Instance, IsInstance}
use Rattle.move_energy.specs.declared.choice.Choice.{Choice}
use Rattle.move_energy.specs.declared.choice.Choice.TheVariants.{Open, Zero, One}
use Rattle.move_energy.specs.Choices.{bit_of, choice_at}
use Rattle.move_energy.specs.Assignments.{rise}
use Rattle.move_energy.specs.MoveValues.{move_value}
use Rattle.move_energy.specs.Ends.{decided_or}
use Rattle.site_bounds.specs.Parts.{ArePassedChoices}
use Rattle.site_bounds.proofs.Joining.{choices_same, choices_more, passes_low, passes_high}

pub set_here : (xs : List Choice) (u : ℕ) (c : Choice) → u < length xs → choice_at (slice_set xs u c) u ≡ c
set_here xs u c l = get_or-set_same xs u c Zero l

pub set_there : (xs : List Choice) (u p : ℕ) (c : Choice) → p ≢ u → choice_at (slice_set xs u c) p ≡ choice_at xs p
set_there xs u p c off = get_or-set_other xs u p c Zero (λ same. off (omega (arith, same)))

pub tried_passed : (m : Instance) (move : Move) (f : ℕ → ℕ) (u : ℕ) (told : Choice) (least greatest : ℤ) (known : List Choice) → IsInstance m → u < length known → choice_at known u ≡ Open
    → (told ≡ Zero → pos 0 ≤ℤ least) → (told ≡ One → greatest <ℤ pos 0)
    → least ≡ rise (move_value m move f) u (decided_or known true) → greatest ≡ rise (move_value m move f) u (decided_or known false)
    → ArePassedChoices m move f (choice_at known) → ArePassedChoices m move f (choice_at (slice_set known u told))
tried_passed m move f u Open least greatest known are l opened zero one low high passed =
    choices_same m move f (choice_at known) (choice_at (slice_set known u Open)) (λ p. elim (cases_eq p u) [
      | inl same ↦ ap (choice_at (slice_set known u Open)) same ∙ set_here known u Open l ∙ sym opened ∙ sym (ap (choice_at known) same)
      | inr other ↦ set_there known u p Open other
    ]) passed
tried_passed m move f u Zero least greatest known are l opened zero one low high passed =
    choices_more m move f u false (choice_at known) (choice_at (slice_set known u Zero)) passed (passes_low m move f u known least are passed low (zero refl))
    (λ b. ap (λ (c : Choice). bit_of c b) (set_here known u Zero l)) (λ p off. set_there known u p Zero off)
tried_passed m move f u One least greatest known are l opened zero one low high passed =
    choices_more m move f u true (choice_at known) (choice_at (slice_set known u One)) passed (passes_high m move f u known greatest are passed high (one refl))
    (λ b. ap (λ (c : Choice). bit_of c b) (set_here known u One l)) (λ p off. set_there known u p One off)

pub if_ok_two : {T E : Type 0} (r : Result T E) (P Q R : T → Type 0) → ((v : T) → P v → Q v → R v) → IfOk r P → IfOk r Q → IfOk r R
if_ok_two (Ok v) P Q R f p q = f v p q
if_ok_two (Err e) P Q R f p q = tt
