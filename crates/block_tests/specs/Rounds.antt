-- A round over two nodes in two blocks that leaves a parcel on the way.
use Rattle.std.specs.Prelude.{List, [], ◌∷◌}
use Rattle.parcel.specs.Types.{Event, Relabel, Send}
use Rattle.parcel.specs.Directions.{forward}
use Rattle.parcel.specs.States.{State}
use Rattle.parcel.specs.Events.{effect}
use Rattle.parcel.specs.Soundness.{opening_state}
use Rattle.block_tests.specs.Runs.{two_source_net}

abbrev pub opened_blocks : State
opened_blocks = opening_state two_source_net 2

-- the one block relabels its node and sends; the other relabels its own
abbrev pub parcel_on_the_way : State
parcel_on_the_way = effect
    (effect (effect opened_blocks (Relabel 0)) (Send (forward 0))) (Relabel 1)

abbrev pub histories_of_blocks : List (List Event)
histories_of_blocks = (Relabel 0 ∷ Send (forward 0) ∷ []) ∷ (Relabel 1 ∷ []) ∷ []
