-- What a call that does an event promises.
use Rattle.std.specs.Prelude.{◌≡◌, Bool, MatchBool}
use Rattle.block_events.specs.declared.event.Event.{Event}
use Rattle.block_events.specs.States.{State}
use Rattle.block_events.specs.Events.{IsEnabled, Happens}

-- yes: the event happens; no: it is not enabled, and nothing changes
abbrev pub HappensIfEnabled : State → Event → State → Bool → Type 0
HappensIfEnabled old e new done =
    MatchBool done (Happens old e new) ((¬ IsEnabled old e) × (new ≡ old))
