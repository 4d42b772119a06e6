use Rattle.std.proofs.Common.{◌∙◌, ◌≤◌, unsigned_abs, ap, arith}
use Rattle.sums.proofs.IntegerSumLemmas.{abs-sub}
use Rattle.move_energy.proofs.RiseNumbers.{passed_on}
use Rattle.site_forms.proofs.Telling.{told_saving}
use Rattle.site_forms.proofs.savings.saving_by.Goals as goal

pub returns-then-this-ne0-clause-value : goal.returns-then-this-ne0-clause-value
returns-then-this-ne0-clause-value g c = λ m move is.
    let a = c.args in
    let e = c.told_ends.ensures in
    let rises = c.told_ends.result in
    let small : unsigned_abs c.saving_of.result ≤ 20000000 = omega (arith, ap unsigned_abs c.saving_of.ensures, abs-sub rises.low rises.high, e.low_small, e.high_small) in
    passed_on c.saving_of.result small ∙ c.saving_of.ensures ∙ told_saving m move a.form.now a.site a.place rises is c.requires.place e

pub returns-then-this-ne0-2-clause-value : goal.returns-then-this-ne0-2-clause-value
returns-then-this-ne0-2-clause-value g c = λ m move is.
    let a = c.args in
    let e = c.expanded_ends.ensures in
    let rises = c.expanded_ends.result in
    let small : unsigned_abs c.saving_of-then-this-ne0-2.result ≤ 20000000 = omega (arith, ap unsigned_abs c.saving_of-then-this-ne0-2.ensures, abs-sub rises.low rises.high, e.low_small, e.high_small) in
    passed_on c.saving_of-then-this-ne0-2.result small ∙ c.saving_of-then-this-ne0-2.ensures ∙ told_saving m move a.form.now a.site a.place rises is c.requires.place e

pub returns-clause-value : goal.returns-clause-value
returns-clause-value g c = λ m move is.
    let a = c.args in
    let e = c.rises_of_place.ensures in
    let rises = c.rises_of_place.result in
    let small : unsigned_abs c.saving_of-2.result ≤ 20000000 = omega (arith, ap unsigned_abs c.saving_of-2.ensures, abs-sub rises.low rises.high, e.low_small, e.high_small) in
    passed_on c.saving_of-2.result small ∙ c.saving_of-2.ensures ∙ told_saving m move a.form.now a.site a.place rises is c.requires.place e
