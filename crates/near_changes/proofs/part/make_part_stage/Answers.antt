use Rattle.std.proofs.Common.{◌≡◌, ◌∙◌, List, Bool, false, length, ap, sym, subst, arith}
use Rattle.label_energies.specs.Energies.{labelling}
use Rattle.move_energy.specs.declared.choice.Choice.{Choice}
use Rattle.move_energy.specs.declared.choice.Choice.TheVariants.{Zero}
use Rattle.move_energy.specs.Choices.{choice_at, choice_of, value_of}
use Rattle.near_changes.specs.SideBySide.{AreZerosOf}
use Rattle.near_changes.proofs.part.make_part_stage.Goals as goal

pub returns-clause-zeros : goal.returns-clause-zeros
returns-clause-zeros c = λ m move told is zeros s best p l zero.
    let f = labelling c.args.form.now.at.now in
    let old = c.args.part.now.variables.choices.items in
    let kept = c.in_ok-number_listed.ensures.kept in
    let seen = c.deref.ensures.value in
    let bits = c.in_ok-bits.bits.items in
    let Z : List Choice → Type 0 = λ cs. AreZerosOf m move f (choice_at cs) in
    let none : value_of c.number_listed.new.self.choices.items bits p ≡ false = subst (λ (bs : List Bool). value_of c.number_listed.new.self.choices.items bs p ≡ false) c.deref-8.ensures.value
    ((c.in_ok-reopen.ensures.zeros p (omega (arith, l, told.sites_are, c.requires.ready.sites, ap (λ (cs : List Choice). length cs) kept))).0 zero) in
    c.in_ok-bits.ensures.zeros m move told is (subst Z (sym seen) zeros) s best p l
    (subst (λ (cs : List Choice). choice_of (value_of cs bits p) ≡ Zero) (kept ∙ sym seen) (ap choice_of none))
