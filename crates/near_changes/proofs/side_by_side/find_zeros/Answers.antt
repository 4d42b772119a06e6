use Rattle.std.proofs.Common.{◌∙◌, ℕ, List, Result, length, sym, subst}
use Rattle.std.specs.Global.{Vec}
use Rattle.std.specs.declared.alloc.AllocError.{AllocError}
use Rattle.label_energies.specs.Energies.{labelling}
use Rattle.move_energy.specs.declared.choice.Choice.{Choice}
use Rattle.move_energy.specs.Choices.{choice_at}
use Rattle.strips.specs.Parts.{OfParts}
use Rattle.near_changes.specs.SideBySide.{AreZerosOf, AreZeroCodes, seen_start}
use Rattle.near_changes.proofs.Codes.{if_ok_map}
use Rattle.near_changes.proofs.side_by_side.find_zeros.Goals as goal

pub returns-clause-zeros : goal.returns-clause-zeros
returns-clause-zeros g c = λ m move told is known.
    let f = labelling c.args.form.now.at.now in
    let sizes = c.args.sizes in
    let n = length c.args.known.now.items in
    let begun = subst (λ (cs : List Choice). AreZerosOf m move f (choice_at cs)) (sym c.deref.ensures.value) known in
    let Told : List (Result (Vec ℕ) AllocError) → Type 0 = OfParts (λ i. AreZeroCodes m move f (seen_start n sizes i)) in
    let found : Told c.in_ok-found.found.items = λ i part l. if_ok_map _ (λ codes. AreZeroCodes m move f (seen_start n sizes i) codes.items) _
    (λ codes each. subst (λ (k : ℕ). AreZeroCodes m move f (seen_start k sizes i) codes.items) (sym c.requires.sites) (each m move told is begun))
    (c.in_ok-found.ensures.found i part l) in
    c.join_parts.ensures.zeros m move f (told.sites_are ∙ sym c.requires.sites) known (subst Told (sym c.deref-2.ensures.value) found)
