use Rattle.std.proofs.Common.{◌≡◌, ◌++◌, map}
use Rattle.std.specs.Vec.Iter.{into_iter_items}
use Rattle.block_workers.specs.Ends.{ports}
use Rattle.block_rings.proofs.join.ends_of.Given as goal

abbrev pub invariant-loop-list : goal.invariant-loop-list
invariant-loop-list l =
    map (λ e. ports e) l.all.items ++ map (λ list. list.items) (into_iter_items l.list-iterator)
    ≡ map (λ list. list.items) (into_iter_items l.initial.list-iterator)
