-- Messages that are taken.
use Rattle.std.specs.Prelude.{◌≡◌, ℕ, ◌<◌, Bool, List, [], All}
use Rattle.block_events.specs.declared.event.Event.{Event}
use Rattle.block_events.specs.declared.event.Event.TheVariants.{PushInner, PushSink, Relabel, Send}
use Rattle.block_events.specs.declared.event.Event.TheVariants.{Accept, Refuse, Settle, RaiseAll}
use Rattle.block_events.specs.States.{State, way_at}
use Rattle.block_events.specs.Events.{IsRunOfEvents}
use Rattle.block_events.specs.Soundness.{IsSound}
use Rattle.cut_in_blocks.specs.Lowers.{Lowers}

-- the event takes a message
abbrev pub IsTaking : Event → Type 0
IsTaking (PushInner x) = ⊥
IsTaking (PushSink v) = ⊥
IsTaking (Relabel v) = ⊥
IsTaking (Send x) = ⊥
IsTaking (Accept b c) = Unit {0}
IsTaking (Refuse b c) = Unit {0}
IsTaking (Settle b c) = Unit {0}
IsTaking RaiseAll = ⊥

-- events that take messages lead from the one state to the other
pub record TookIn (old new : State) : Type 0 where
  pub events : List Event
  pub run : IsRunOfEvents old events new
  pub takes : All IsTaking events

-- a state with the same blocks and labels that such events lead to; told is whether there were any
pub record IsTakenIn (old new : State) (some : Bool) : Type 0 where
  pub took : TookIn old new
  pub blocks : new.blocks ≡ old.blocks
  pub labels : new.labels ≡ old.labels
  pub sound : IsSound old → IsSound new
  pub lowers : Lowers old new some

-- nothing is on the ways from block b to the first so many
abbrev pub IsRowEmpty : State → ℕ → ℕ → Type 0
IsRowEmpty s b count = (c : ℕ) → c < count → way_at s.ways b c ≡ []
