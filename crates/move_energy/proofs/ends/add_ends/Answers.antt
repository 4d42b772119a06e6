use Rattle.std.proofs.Common.{rules, ◌∙◌, ap, true, refl}
use Rattle.label_energies.specs.Moves.{label_after}
use Rattle.move_energy.proofs.Values.{first_adds, second_adds, none_adds, ends_fit, label_below}
use Rattle.move_energy.proofs.Steps.{longer_still}
use Rattle.move_energy.proofs.ends.add_ends.Goals as goal

pub returns-then-is_open-clause-adds : goal.returns-then-is_open-clause-adds
returns-then-is_open-clause-adds g c = λ m answers.
    let a = c.args in
    ends_fit a.weight m.smooth_cost a.change a.first a.second a.form.now c.add_first.new.form true refl
    (λ one two. (let yes = c.is_open-then-is_open.ensures.1 two in absurd (cc (yes))))
    (first_adds a.form.now c.add_first.new.form a.change a.weight c.label-other.result m.smooth_cost a.first a.second (c.is_open.ensures.0 c.if-is_open.true)
    (λ two. (let yes = c.is_open-then-is_open.ensures.1 two in absurd (cc (yes))))
    (c.label-other.ensures ∙ ap (label_after a.change a.second.label) c.bit.ensures) (c.add_first.ensures.adds m answers))

pub returns-then-not-is_open-clause-adds : goal.returns-then-not-is_open-clause-adds
returns-then-not-is_open-clause-adds g c = λ m answers.
    let a = c.args in
    ends_fit a.weight m.smooth_cost a.change a.first a.second a.form.now a.form.now true refl
    (λ one two. (let yes = c.is_open.ensures.1 one in absurd (cc (yes))))
    (none_adds a.form.now a.change a.weight m.smooth_cost a.first a.second
    (λ one. (let yes = c.is_open.ensures.1 one in absurd (cc (yes)))) (λ two. (let yes = c.is_open-2.ensures.1 two in absurd (cc (yes)))))

pub returns-clause-adds : goal.returns-clause-adds
returns-clause-adds g c = λ m answers.
    let a = c.args in
    ends_fit a.weight m.smooth_cost a.change a.first a.second a.form.now c.add_second.new.form true refl
    (λ one two. (let yes = c.is_open.ensures.1 one in absurd (cc (yes))))
    (second_adds a.form.now c.add_second.new.form a.change a.weight c.label-other-2.result m.smooth_cost a.first a.second
    (λ one. (let yes = c.is_open.ensures.1 one in absurd (cc (yes)))) (c.is_open-2.ensures.0 c.if-not-is_open.false)
    (c.label-other-2.ensures ∙ ap (label_after a.change a.first.label) c.bit-2.ensures) (c.add_second.ensures.adds m answers))

pub add_both-requires-clause-weight : goal.add_both-requires-clause-weight
add_both-requires-clause-weight g c = λ κs lives. c.requires.weight

pub add_both-requires-clause-inside : goal.add_both-requires-clause-inside
add_both-requires-clause-inside g c = λ κs lives. c.requires.inside

pub add_both-requires-clause-opened : goal.add_both-requires-clause-opened
add_both-requires-clause-opened g c = search rules

pub add_both-requires-clause-variables : goal.add_both-requires-clause-variables
add_both-requires-clause-variables g c = search rules

pub add_both-requires-clause-bounded : goal.add_both-requires-clause-bounded
add_both-requires-clause-bounded g c = λ κs lives. c.requires.bounded

pub returns-then-is_open-2-clause-longer : goal.returns-then-is_open-2-clause-longer
returns-then-is_open-2-clause-longer g c = c.add_both.ensures.longer

pub returns-then-is_open-2-clause-adds : goal.returns-then-is_open-2-clause-adds
returns-then-is_open-2-clause-adds g c = c.add_both.ensures.adds

pub add_first-requires-clause-weight : goal.add_first-requires-clause-weight
add_first-requires-clause-weight g c = λ κs lives. c.requires.weight

pub add_first-requires-clause-inside : goal.add_first-requires-clause-inside
add_first-requires-clause-inside g c = λ κs lives. (
  c.requires.inside.0,
  label_below _ c.args.change c.args.second.label c.label-other.result c.bit.result c.requires.change c.requires.inside.1 c.label-other.ensures,
)

pub add_first-requires-clause-variable : goal.add_first-requires-clause-variable
add_first-requires-clause-variable g c = λ κs lives. c.requires.first (c.is_open.ensures.0 c.if-is_open.true)

pub add_first-requires-clause-bounded : goal.add_first-requires-clause-bounded
add_first-requires-clause-bounded g c = λ κs lives. c.requires.bounded

pub returns-then-is_open-clause-longer : goal.returns-then-is_open-clause-longer
returns-then-is_open-clause-longer g c = c.add_first.ensures.longer

pub returns-then-not-is_open-clause-longer : goal.returns-then-not-is_open-clause-longer
returns-then-not-is_open-clause-longer g c = longer_still _

pub add_second-requires-clause-weight : goal.add_second-requires-clause-weight
add_second-requires-clause-weight g c = λ κs lives. c.requires.weight

pub add_second-requires-clause-inside : goal.add_second-requires-clause-inside
add_second-requires-clause-inside g c = λ κs lives. (
  c.requires.inside.1,
  label_below _ c.args.change c.args.first.label c.label-other-2.result c.bit-2.result c.requires.change c.requires.inside.0 c.label-other-2.ensures,
)

pub add_second-requires-clause-variable : goal.add_second-requires-clause-variable
add_second-requires-clause-variable g c = λ κs lives. c.requires.second (c.is_open-2.ensures.0 c.if-not-is_open.false)

pub add_second-requires-clause-bounded : goal.add_second-requires-clause-bounded
add_second-requires-clause-bounded g c = λ κs lives. c.requires.bounded

pub returns-clause-longer : goal.returns-clause-longer
returns-clause-longer g c = c.add_second.ensures.longer
