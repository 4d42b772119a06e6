use Rattle.sink_distances.specs.Search.{found_of}
use Rattle.sink_distances.proofs.Listing.{AreBegun}
use Rattle.sink_distances.proofs.search.tally_starts.Given as goal

abbrev pub invariant-starts : goal.invariant-starts
invariant-starts l =
    AreBegun l.net l.rooms l.initial.labels l.initial.order l.many l.place (found_of l.labels l.order l.tally.count)
