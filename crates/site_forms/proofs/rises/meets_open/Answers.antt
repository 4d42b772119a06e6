use Rattle.std.proofs.Common.{◌∙◌}
use Rattle.move_energy.specs.BySite.{neighbour_at, is_first, weight_at}
use Rattle.site_forms.proofs.Places.{pair_avoids}
use Rattle.site_forms.proofs.rises.meets_open.Goals as goal

pub returns : goal.returns
returns c = λ none u below opened.
    let a = c.args in
    let ends = a.form.now.ends.now in
    pair_avoids (is_first ends a.site a.place) a.site (neighbour_at ends a.place) (weight_at ends a.place) u (λ same. c.is_open_before.ensures none u below opened (c.requires.head ∙ same)) below
