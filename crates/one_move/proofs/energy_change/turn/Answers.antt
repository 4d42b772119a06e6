use Rattle.std.proofs.Common.{◌∙◌, sym}
use Rattle.move_energy.specs.BySite.{degree}
use Rattle.move_energy.proofs.SiteSums.{sum_passed}
use Rattle.one_move.proofs.Rising.{negated}
use Rattle.one_move.proofs.Turning.{turns_not, turns_up, turns_down, few_beside}
use Rattle.one_move.proofs.energy_change.turn.Goals as goal

pub returns-then-not-turns-clause-rise : goal.returns-then-not-turns-clause-rise
returns-then-not-turns-clause-rise c = λ E told over.
    turns_not c.args.form.now c.args.choices.now E c.args.site over (sym c.turns.ensures ∙ c.if-not-turns.true)

pub returns-then-value_of-clause-rise : goal.returns-then-value_of-clause-rise
returns-then-value_of-clause-rise c = λ E told over.
    let form = c.args.form.now in
    sum_passed c.rise_of-rise.result (degree form.ends.now c.args.site) c.rise_of-rise.ensures.range (few_beside form.ends.now c.args.site _ form.form.places c.requires.site)
    ∙ turns_up form c.args.choices.now E c.args.site c.rise_of-rise.result over (sym c.turns.ensures ∙ c.if-not-turns.false)
    (sym c.value_of.ensures ∙ c.if-value_of.true) (c.rise_of-rise.ensures.rise E told)

pub returns-clause-rise : goal.returns-clause-rise
returns-clause-rise c = λ E told over.
    let form = c.args.form.now in
    turns_down form c.args.choices.now E c.args.site c.rise_of-rise.result _ over (sym c.turns.ensures ∙ c.if-not-turns.false)
    (sym c.value_of.ensures ∙ c.if-value_of.false) (c.rise_of-rise.ensures.rise E told)
    (negated c.rise_of-rise.result (degree form.ends.now c.args.site) c.rise_of-rise.ensures.range (few_beside form.ends.now c.args.site _ form.form.places c.requires.site))
