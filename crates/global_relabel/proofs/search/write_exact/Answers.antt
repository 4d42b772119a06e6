use Rattle.sink_distances.specs.Search.{found_of}
use Rattle.global_relabel.proofs.ResidualNet.{expanded_begins, expanded_more, expanded_all}
use Rattle.global_relabel.proofs.search.write_exact.Goals as goal

pub search-init : goal.search-init
search-init c =
    expanded_begins c.args.state.now (found_of c.mark_rooms-count.new.labels c.mark_rooms-count.new.order c.mark_rooms-count.result) c.net.ensures.sound
    c.mark_rooms-count.ensures.starts

pub search-preserved : goal.search-preserved
search-preserved c =
    expanded_more c.args.state.now c.net.result.now c.parts.result.now c.search.next (found_of c.search.labels c.search.order c.search.count)
    (found_of c.mark_into-count.new.labels c.mark_into-count.new.order c.mark_into-count.result) c.net.ensures.sound c.net.ensures.value c.parts.ensures
    c.search.invariant c.search-test.true c.mark_into-count.ensures.grows c.mark_into-count.ensures.marked

pub within-init : goal.within-init
within-init c =
    expanded_begins c.args.state.now (found_of c.mark_rooms-count.new.labels c.mark_rooms-count.new.order c.mark_rooms-count.result) c.net.ensures.sound
    c.mark_rooms-count.ensures.starts

pub within-preserved : goal.within-preserved
within-preserved c =
    expanded_more c.args.state.now c.net.result.now c.parts.result.now c.within.next (found_of c.within.labels c.within.order c.within.count)
    (found_of c.mark_within-count.new.labels c.mark_within-count.new.order c.mark_within-count.result) c.net.ensures.sound c.net.ensures.value c.parts.ensures
    c.within.invariant c.within-test.true c.mark_within-count.ensures.grows c.mark_within-count.ensures.marked

pub returns-clause-exact : goal.returns-clause-exact
returns-clause-exact c =
    expanded_all c.args.state.now c.search.next (found_of c.search.labels c.search.order c.search.count) c.net.ensures.sound c.search.invariant c.search-test.false

pub returns-clause-order : goal.returns-clause-order
returns-clause-order c = (c.search.count, c.search.invariant.order)

pub returns-then-len-eq1-clause-exact : goal.returns-then-len-eq1-clause-exact
returns-then-len-eq1-clause-exact c =
    expanded_all c.args.state.now c.within.next (found_of c.within.labels c.within.order c.within.count) c.net.ensures.sound c.within.invariant c.within-test.false

pub returns-then-len-eq1-clause-order : goal.returns-then-len-eq1-clause-order
returns-then-len-eq1-clause-order c = (c.within.count, c.within.invariant.order)
