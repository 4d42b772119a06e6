-- Why no picture was made.
use Rattle.std.proofs.Common.{◌≡◌, ℕ, ◌<◌, ◌⊎◌, inl, inr, List, All, Result, Ok, Err, IfOk, IfErr, length, refl, ap, subst}
use Rattle.byte_streams.specs.Streams.{Stream}
use Rattle.vision.specs.Faults.{LeavesWriter}
use Rattle.vision.specs.Jobs.{Job}
use Rattle.vision.specs.declared.error.VisionError.{VisionError}
use Rattle.gco_pictures.specs.Answers.{IsPictureMade}
use Rattle.gco_pictures.specs.Options.{IsOptionInRange}
use Rattle.gco_pictures.specs.Refusals.{IsCause, IsPictureRefused, LacksRoom, TellsRefusal, vision_refusal}
use Rattle.gco_pictures.specs.declared.making.Made.{Made}
use Rattle.gco_pictures.specs.declared.options.Ranged.{Ranged}
use Rattle.gco_pictures.specs.declared.refusal.Refusal.{Refusal}
use Rattle.gco_pictures.specs.declared.refusal.Refusal.TheVariants as why
use Rattle.gco_pictures.specs.declared.told.GcoPictureTold.{GcoPictureTold}

-- where the buffer in memory failed, memory was wanting
pub command_refused : (numbers : List Ranged) (HasError : VisionError → Type 0) (IsJob : Job → Type 0) (old new : Stream) (e : VisionError)
    → All IsOptionInRange numbers → LeavesWriter IsJob HasError old new e → IsCause numbers HasError (vision_refusal e)
command_refused numbers HasError IsJob old new e within (inl has) = inr (within, inr (e, has, refl))
command_refused numbers HasError IsJob old new e within (inr stops) = inr (within, inl (ap vision_refusal stops.2.2))

-- why a picture was not handed over: none was made, or it is too long
abbrev pub NotHanded : Result Made Refusal → ℕ → Refusal → Type 0
NotHanded made room refusal = (made ≡ Err refusal)
    ⊎ ((picture : Made) × (made ≡ Ok picture) × (room < length picture.bytes.items) × (refusal ≡ why.NoRoom (length picture.bytes.items)))

cause_told : (numbers : List Ranged) (HasError : VisionError → Type 0) (IsJob : Job → Type 0) (made : Result Made Refusal) (room : ℕ) (refusal : Refusal)
    → IfOk made (λ _. All IsOptionInRange numbers) → IfOk made (λ m. IsPictureMade IsJob m.bytes.items m.report)
    → IfErr made (IsCause numbers HasError) → NotHanded made room refusal
    → IsCause numbers HasError refusal ⊎ (All IsOptionInRange numbers × LacksRoom IsJob room refusal)
cause_told numbers HasError IsJob made room refusal within is cause (inl same) =
    let P : Result Made Refusal → Type 0 = λ r. IfErr r (IsCause numbers HasError) in inl (subst P same cause)
cause_told numbers HasError IsJob made room refusal within is cause (inr long) =
    let P : Result Made Refusal → Type 0 = λ r. IfOk r (λ _. All IsOptionInRange numbers) in
    let Q : Result Made Refusal → Type 0 = λ r. IfOk r (λ m. IsPictureMade IsJob m.bytes.items m.report) in
    inr (subst P long.1 within, (long.0.bytes.items, long.0.report, subst Q long.1 is, long.2, long.3))

pub told_refused : (numbers : List Ranged) (HasError : VisionError → Type 0) (IsJob : Job → Type 0) (made : Result Made Refusal) (room status : ℕ) (told : GcoPictureTold)
    → IfOk made (λ _. All IsOptionInRange numbers) → IfOk made (λ m. IsPictureMade IsJob m.bytes.items m.report)
    → IfErr made (IsCause numbers HasError) → ((refusal : Refusal) × TellsRefusal refusal status told × NotHanded made room refusal)
    → IsPictureRefused numbers HasError IsJob room status told
told_refused numbers HasError IsJob made room status told within is cause why_not = record {
  refusal = why_not.0;
  is_told = why_not.1;
  cause = cause_told numbers HasError IsJob made room why_not.0 within is cause why_not.2;
}
