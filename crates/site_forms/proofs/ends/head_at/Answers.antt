use Rattle.std.proofs.Common.{sym, subst, ℕ, ◌<◌, length}
use Rattle.site_forms.proofs.Places.{head_read}
use Rattle.site_forms.proofs.ends.head_at.Goals as goal

pub returns-clause-head : goal.returns-clause-head
returns-clause-head c = sym (head_read c.args.form.now c.args.site c.args.place c.index.result.now c.requires.place c.index.ensures)

pub returns-clause-inside : goal.returns-clause-inside
returns-clause-inside c =
    let form = c.args.form.now in
    let P : ℕ → Type 0 = λ u. u < length form.at.now in
    subst P (head_read form c.args.site c.args.place c.index.result.now c.requires.place c.index.ensures)
    (form.form.places.inside c.args.site c.args.place c.requires.place.inside c.requires.place.from c.requires.place.to)
