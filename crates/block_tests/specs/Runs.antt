-- Two nodes in two blocks, and two runs over them, event by event.
use Rattle.std.specs.Prelude.{ℕ, List, [], ◌∷◌}
use Rattle.flow_network.specs.Cut.{Network}
use Rattle.parcel.specs.Types.{Event, PushSink, Relabel, Send, Accept, Refuse, Settle}
use Rattle.parcel.specs.Directions.{forward, backward}
use Rattle.parcel.specs.States.{State}
use Rattle.parcel.specs.Events.{effect, IsEnabled}
use Rattle.parcel.specs.Soundness.{potential}

abbrev pub counts : State → List Event → List ℕ
counts s [] = potential s ∷ []
counts s (e ∷ es) = potential s ∷ counts (effect s e) es

abbrev pub after_events : State → List Event → State
after_events s [] = s
after_events s (e ∷ es) = after_events (effect s e) es

abbrev pub AllEnabled : State → List Event → Type 0
AllEnabled s [] = Unit {0}
AllEnabled s (e ∷ es) = IsEnabled s e × AllEnabled (effect s e) es

abbrev pub one_source_net : Network
one_source_net =
    record {
      sources = 4 ∷ 0 ∷ [];
      sinks = 0 ∷ 3 ∷ [];
      arcs =
          record { from = 0; to = 1; capacity = 4 } ∷ [];
    }

abbrev pub two_source_net : Network
two_source_net =
    record {
      sources = 4 ∷ 1 ∷ [];
      sinks = 0 ∷ 3 ∷ [];
      arcs =
          record { from = 0; to = 1; capacity = 4 } ∷ [];
    }

abbrev pub two_blocks_run : List Event
two_blocks_run =
    Relabel 0 ∷ Send (forward 0) ∷ Accept 0 1 ∷ Settle 1 0 ∷ Relabel 1 ∷ PushSink 1 ∷ Relabel 1
    ∷ Send (backward 0) ∷ Accept 1 0 ∷ Settle 0 1
    ∷ Relabel 0 ∷ Send (forward 0) ∷ Accept 0 1 ∷ Settle 1 0 ∷ Relabel 1 ∷ []

abbrev pub refused_parcel_run : List Event
refused_parcel_run = Relabel 0 ∷ Send (forward 0) ∷ Relabel 1 ∷ Refuse 0 1 ∷ Settle 1 0 ∷ []

abbrev pub sent_again_run : List Event
sent_again_run = Relabel 0 ∷ Send (forward 0) ∷ Accept 0 1 ∷ []
