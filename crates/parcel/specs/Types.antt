-- The types of events and messages, with their cases.
pub use Rattle.block_events.specs.declared.direction.Direction.{Direction}
pub use Rattle.block_events.specs.declared.event.Event.{Event}
pub use Rattle.block_events.specs.declared.event.Event.TheVariants.{PushInner, PushSink, Relabel}
pub use Rattle.block_events.specs.declared.event.Event.TheVariants.{Send, Accept, Refuse, Settle}
pub use Rattle.block_events.specs.declared.event.Event.TheVariants.{RaiseAll}
pub use Rattle.block_events.specs.declared.flight.Flight.{Flight}
pub use Rattle.block_events.specs.declared.lane.Lane.{Lane}
pub use Rattle.block_events.specs.declared.message.Message.{Message}
pub use Rattle.block_events.specs.declared.message.Message.TheVariants.{Parcel, Accepted, Refused}
pub use Rattle.block_discharge.specs.declared.letter.Letter.{Letter}
