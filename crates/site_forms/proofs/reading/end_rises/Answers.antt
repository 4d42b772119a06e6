use Rattle.site_forms.proofs.Entries.{either_end}
use Rattle.site_forms.proofs.reading.end_rises.Goals as goal

pub returns-then-form : goal.returns-then-form
returns-then-form g c =
    let a = c.args in
    either_end a.form.now a.weight a.first a.own a.other c.ordered_rises.result (a.form.now.form.numbers.mirrored c.if-form.true) c.ordered_rises.ensures
