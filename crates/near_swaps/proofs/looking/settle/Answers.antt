use Rattle.std.proofs.Common.{◌≡◌, ◌<◌, ℕ, List, All, length, arith, subst, sym}
use Rattle.label_energies.specs.Energies.{labelling}
use Rattle.move_energy.specs.declared.choice.Choice.{Choice}
use Rattle.move_energy.specs.declared.choice.Choice.TheVariants.{Open}
use Rattle.move_energy.specs.Choices.{choice_at, open_count, IsNumbering}
use Rattle.move_energy.proofs.Numbers.{rank_below}
use Rattle.move_energy.proofs.Opened.{opened_within}
use Rattle.near_swaps.proofs.Bounds.{valued, listed_in}
use Rattle.near_swaps.proofs.looking.settle.Goals as goal

number_below : (choices : List Choice) (numbers : List ℕ) (n p : ℕ) → IsNumbering choices numbers → p < length choices → choice_at choices p ≡ Open → n ≡ open_count choices
    → labelling numbers p < n
number_below choices numbers n p numbering within opened count =
    omega (arith, rank_below choices p (length choices) within opened, numbering.each p within opened, count)

pub are_same-requires-clause-inside : goal.are_same-requires-clause-inside
are_same-requires-clause-inside c =
    subst (λ (n : ℕ). All (λ p. p < n) c.args.opened.now) (sym c.requires.taken) (opened_within c.args.choices.now.items c.args.opened.now (length c.args.at.now) c.requires.opened c.requires.sites)

pub are_same-requires-clause-number : goal.are_same-requires-clause-number
are_same-requires-clause-number c = λ p l one.
    let at : p < length c.args.at.now = omega (arith, l, c.requires.taken) in
    let within : p < length c.args.choices.now.items = omega (arith, at, c.requires.sites) in
    let is = c.requires.open p at one in (
      number_below c.args.choices.now.items c.args.numbers.now _ p c.requires.numbering within is c.requires.lower,
      number_below c.args.choices.now.items c.args.numbers.now _ p c.requires.numbering within is c.requires.upper,
    )

pub are_same-requires-clause-listed : goal.are_same-requires-clause-listed
are_same-requires-clause-listed c = λ p l one.
    let at : p < length c.args.at.now = omega (arith, l, c.requires.taken) in
    listed_in c.args.choices.now.items c.args.opened.now p c.requires.opened (omega (arith, at, c.requires.sites)) (c.requires.open p at one)

pub settle_listed-requires-clause-number : goal.settle_listed-requires-clause-number
settle_listed-requires-clause-number c = λ p l one.
    rw (c.deref.ensures.value) (number_below c.args.choices.now.items c.args.numbers.now _ p c.requires.numbering (omega (arith, l, c.requires.sites)) (c.requires.open p l one) c.requires.lower)

pub settle_listed-requires-clause-inside : goal.settle_listed-requires-clause-inside
settle_listed-requires-clause-inside c = opened_within c.args.choices.now.items c.args.opened.now (length c.args.at.now) c.requires.opened c.requires.sites

pub settle_listed-requires-clause-listed : goal.settle_listed-requires-clause-listed
settle_listed-requires-clause-listed c = λ p l one.
    listed_in c.args.choices.now.items c.args.opened.now p c.requires.opened (omega (arith, l, c.requires.sites)) (c.requires.open p l one)

pub returns-clause-each : goal.returns-clause-each
returns-clause-each c = λ done p l.
    valued c.settle_listed.new.choices.items p _ (rw (c.deref.ensures.value) at (c.settle_listed.ensures.each p l))
