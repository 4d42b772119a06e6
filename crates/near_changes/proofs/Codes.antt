-- The codes of what parts find.
use Rattle.std.proofs.Common.{◌≡◌, ◌⊎◌, ℕ, List, Result, Ok, Err, IfOk, inl, inr, subst, arith, false}
use Rattle.std.specs.Global.{Vec}
use Rattle.std.specs.declared.alloc.AllocError.{AllocError}
use Rattle.label_energies.specs.declared.change.Move.{Move}
use Rattle.label_energies.specs.Energies.{Instance, IsInstance, labelling}
use Rattle.move_energy.specs.declared.choice.Choice.{Choice}
use Rattle.move_energy.specs.declared.choice.Choice.TheVariants.{Zero}
use Rattle.move_energy.specs.Choices.{choice_at}
use Rattle.site_forms.specs.Numbers.{WhereRead}
use Rattle.site_forms.specs.declared.numbers.SiteForm.{SiteForm}
use Rattle.near_changes.specs.declared.windows.PartSizes.{PartSizes}
use Rattle.near_changes.specs.SideBySide.{AreZerosOf, AreZeroCodes, HasZeroCode, IsPartFound, seen_start}

pub if_ok_map : {A E : Type 0} (P Q : A → Type 0) (r : Result A E) → ((x : A) → P x → Q x) → IfOk r P → IfOk r Q
if_ok_map P Q (Ok x) step h = step x h
if_ok_map P Q (Err e) step h = tt

pub part_found : (form : SiteForm) (known : List Choice) (sizes : PartSizes) (from part : ℕ) (r : Result (Vec ℕ) AllocError)
    → from ≡ seen_start form.pairs.now.sites sizes part
    → WhereRead form (λ m move f. IsInstance m → AreZerosOf m move f (choice_at known) → IfOk r (λ codes. AreZeroCodes m move f from codes.items))
    → IfOk r (λ codes. IsPartFound form known sizes part codes.items)
part_found form known sizes from part (Ok codes) begins h = λ m move told is zeros.
    subst (λ (k : ℕ). AreZeroCodes m move (labelling form.at.now) k codes.items) begins (h m move told is zeros)
part_found form known sizes from part (Err e) begins h = tt

-- zeros that were known, and those whose codes are told
pub zeros_joined : (m : Instance) (move : Move) (f : ℕ → ℕ) (old new : List Choice) (from : ℕ) (codes : List ℕ)
    → AreZerosOf m move f (choice_at old) → AreZeroCodes m move f from codes
    → ((p : ℕ) → choice_at new p ≡ Zero → (choice_at old p ≡ Zero) ⊎ HasZeroCode from codes p)
    → AreZerosOf m move f (choice_at new)
zeros_joined m move f old new from codes known told each = λ s best p l zero.
    elim (each p zero) [
      | inl was ↦ known s best p l was
      | inr code ↦
          subst (λ (q : ℕ). s q ≡ false) code.at (told s best code.place code.inside code.zero (omega (arith, l, code.at)))
    ]
