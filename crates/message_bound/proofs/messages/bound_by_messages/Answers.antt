use Rattle.std.proofs.Common.{ℕ, List, subst, sym, ◌∙◌}
use Rattle.message_bound.specs.Bounds.{AreUnder}
use Rattle.message_bound.proofs.Under.{bound_is}
use Rattle.message_bound.proofs.messages.bound_by_messages.Goals as goal

pub returns : goal.returns
returns g c = λ m meant.
    let p = c.args.problem.now in
    let w = p.data_cost.labels in
    let P : List ℕ → Type 0 = λ rows. AreUnder m 0 rows in
    let under = c.pass_all.ensures m meant (subst P (sym c.as_mut_slice-entries.ensures.value) (c.in_ok-rows.ensures.under m meant)) in
    bound_is m c.sites-sites.result w c.least_above_ground.result c.units_of.result p.pairs.list c.pass_all.new.rows
    (meant.sites_are ∙ sym c.sites-sites.ensures.value) meant.labels_are meant.pairs_are under c.least_above_ground.ensures c.units_of.ensures.least c.units_of.ensures.small
