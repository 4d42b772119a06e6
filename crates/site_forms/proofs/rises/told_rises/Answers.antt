use Rattle.std.proofs.Common.{◌∙◌, true, false}
use Rattle.site_forms.specs.Fields.{told_in}
use Rattle.site_forms.proofs.Sums.{own_passed}
use Rattle.site_forms.proofs.ByKnown.{told_there, told_rise_is}
use Rattle.site_forms.proofs.rises.told_rises.Goals as goal

pub returns-clause-least : goal.returns-clause-least
returns-clause-least c =
    let a = c.args in
    let form = a.form.now in
    let uniform = form.form.by_known c.requires.uniform in
    let told = told_there form form.ends.now.weight a.known.now a.site a.place a.head c.place_told.result c.requires.known uniform.table c.requires.place c.requires.head c.place_told.ensures in
    let own = (told_in form.told.now c.place_told.result).least in
    told_rise_is form a.known.now true a.site a.place _ uniform ((own_passed own c.from.result told.small.0 c.from.ensures).0 ∙ told.least)

pub returns-clause-greatest : goal.returns-clause-greatest
returns-clause-greatest c =
    let a = c.args in
    let form = a.form.now in
    let uniform = form.form.by_known c.requires.uniform in
    let told = told_there form form.ends.now.weight a.known.now a.site a.place a.head c.place_told.result c.requires.known uniform.table c.requires.place c.requires.head c.place_told.ensures in
    let own = (told_in form.told.now c.place_told.result).greatest in
    told_rise_is form a.known.now false a.site a.place _ uniform ((own_passed own c.from-2.result told.small.1 c.from-2.ensures).0 ∙ told.greatest)
