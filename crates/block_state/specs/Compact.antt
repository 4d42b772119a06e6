-- A message from what a way keeps of it.
use Rattle.std.specs.Prelude.{ℕ}
use Rattle.block_events.specs.declared.direction.Direction.{Direction}
use Rattle.block_events.specs.declared.message.Message.{Message}
use Rattle.block_events.specs.declared.message.Message.TheVariants.{Parcel, Accepted, Refused}
use Rattle.block_state.specs.declared.compact.Kind.{Kind}
use Rattle.block_state.specs.declared.compact.Kind.TheVariants.{Offer, Taken, Returned}

abbrev pub message_of : Kind → Direction → ℕ → ℕ → ℕ → Message
message_of Offer x a d told = Parcel x a d
message_of Taken x a d told = Accepted x a
message_of Returned x a d told = Refused x a d told
