use Rattle.std.proofs.Common.{◌*◌, ap, arith}
use Rattle.message_bound.proofs.Under.{first_under}
use Rattle.message_bound.proofs.messages.first_rows.Goals as goal

pub returns-clause-under : goal.returns-clause-under
returns-clause-under g c = λ m meant.
    let p = c.args.problem.now in
    first_under m p.pairs.sites p.data_cost.labels c.loop-place.rows.items meant.sites_are meant.labels_are
    (λ j l. c.loop-place.invariant.each m meant j (omega (arith, l, ap (λ k. k * p.data_cost.labels) c.sites.ensures.value, c.loop-place-test.false)))
