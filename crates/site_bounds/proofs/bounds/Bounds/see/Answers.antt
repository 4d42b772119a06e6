use Rattle.std.proofs.Common.{◌∙◌, sym, subst, ℕ, ◌<◌, ◌≡◌, arith}
use Rattle.std.proofs.lemmas.Result.{on_ok_weaker}
use Rattle.label_field.specs.PairLists.{IsPair}
use Rattle.label_energies.specs.Energies.{labelling}
use Rattle.move_energy.specs.declared.choice.Choice.TheVariants.{Open}
use Rattle.move_energy.specs.BySite.{is_first, neighbour_at, weight_at, pair_beside}
use Rattle.move_energy.specs.Choices.{choice_at}
use Rattle.move_energy.specs.Ends.{AreEnds}
use Rattle.move_energy.proofs.Parts.{beside_has}
use Rattle.move_energy.proofs.RiseNumbers.{passed_on}
use Rattle.site_forms.proofs.Moving.{from_ends}
use Rattle.site_bounds.proofs.Seeing.{sees_open, sees_none, ends_apart}
use Rattle.site_bounds.proofs.bounds.Bounds.see.Goals as goal

pub returns-then-not-has_bounds-clause-sees : goal.returns-then-not-has_bounds-clause-sees
returns-then-not-has_bounds-clause-sees c = λ m move read.
    let a = c.args in
    let ends = a.form.now.ends.now in
    let choices = a.self.now.choices.items in
    let n = a.self.now.summed in
    let B : ℕ → Type 0 = λ u. (u < n) × (choice_at choices u ≡ Open) in
    let E : ℕ → Type 0 = λ h. AreEnds (pair_beside ends a.site a.place) a.site h in
    let both = subst E (sym c.head_at-head.ensures.head) (from_ends (is_first ends a.site a.place) a.site (neighbour_at ends a.place) (weight_at ends a.place)) in
    sees_none m move (labelling a.form.now.at.now) n (pair_beside ends a.site a.place) a.site c.head_at-head.result a.value a.self.now both
    (λ u below opened same. (let yes = c.has_bounds.ensures.1 (subst B same (below, opened)) in let no = c.if-not-has_bounds.true in absurd (cc (yes, no))))

pub shift-requires-clause-site : goal.shift-requires-clause-site
shift-requires-clause-site c =
    let below = (c.has_bounds.ensures.0 c.if-not-has_bounds.false).0 in
    let sized = c.requires.sized in
    (omega (arith, below, sized.within, sized.sized.least), omega (arith, below, sized.within, sized.sized.greatest))

pub shift-requires-clause-known : goal.shift-requires-clause-known
shift-requires-clause-known c = c.has_bounds.ensures.0 c.if-not-has_bounds.false

pub returns-clause-waiting : goal.returns-clause-waiting
returns-clause-waiting c =
    let below = (c.has_bounds.ensures.0 c.if-not-has_bounds.false).0 in
    on_ok_weaker c.shift.result (λ keeps. keeps (c.args.self.now.summed) below c.requires.waiting) c.shift.ensures.waiting

pub returns-clause-sees : goal.returns-clause-sees
returns-clause-sees c =
    let a = c.args in
    let form = a.form.now in
    let ends = form.ends.now in
    let pair = pair_beside ends a.site a.place in
    let over = c.requires.over in
    let E : ℕ → Type 0 = λ h. AreEnds (pair_beside ends a.site a.place) a.site h in
    let both = subst E (sym c.head_at-head.ensures.head) (from_ends (is_first ends a.site a.place) a.site (neighbour_at ends a.place) (weight_at ends a.place)) in
    let is = beside_has (IsPair form.pairs.now.sites) form.pairs.now ends a.site a.place over.list.each over.by_site (omega (arith, c.requires.place.inside, over.sites)) c.requires.place.from c.requires.place.to in
    on_ok_weaker c.shift.result (λ shifts m move read.
    sees_open m move (labelling form.at.now) (a.self.now.summed) pair a.site c.head_at-head.result a.value _ a.self.now c.shift.new.self
    both (ends_apart pair a.site c.head_at-head.result both is.unequal)
    (passed_on c.saving_beside-surplus.result c.saving_beside-surplus.ensures.range ∙ c.saving_beside-surplus.ensures.value m move read) shifts) c.shift.ensures.shifts
