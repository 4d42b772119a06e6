use Rattle.std.proofs.Common.{◌≡◌, ◌∙◌, length, arith}
use Rattle.std.proofs.lemmas.List.{get_or_default}
use Rattle.move_energy.specs.declared.choice.Choice.TheVariants.{Open, Zero}
use Rattle.move_energy.specs.Choices.{choice_at}
use Rattle.move_energy.proofs.Numbers.{rank_below}
use Rattle.near_changes.proofs.closing.value_at.Goals as goal

pub bounds-cut-cut : goal.bounds-cut-cut
bounds-cut-cut c =
    let choices = c.args.cut.now.choices.now in
    let opened : choice_at choices c.args.site ≡ Open = get_or_default choices c.args.site Zero _ c.requires.site ∙ c.in-Open.is in
    omega (arith, rank_below choices c.args.site (length choices) c.requires.site opened, c.requires.cut.numbering.each c.args.site c.requires.site opened, c.requires.cut.bits)
