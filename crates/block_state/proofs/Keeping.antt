-- What an event leaves is held again.
use Rattle.std.proofs.Common.{◌≡◌, ◌≤◌, ℕ, List, length, [], ◌∷◌, refl, sym, subst, arith}
use Rattle.block_events.specs.declared.message.Message.{Message}
use Rattle.block_events.specs.declared.message.Message.TheVariants.{Parcel, Accepted, Refused}
use Rattle.block_events.specs.declared.event.Event.{Event}
use Rattle.block_events.specs.declared.event.Event.TheVariants.{PushInner, PushSink, Relabel, Send, Accept, Refuse, Settle, RaiseAll}
use Rattle.block_events.specs.States.{State, way_at}
use Rattle.block_events.specs.Events.{IsEnabled, effect, after_accept, after_refuse, after_settle}
use Rattle.block_events.proofs.Kept.{effect_kept}
use Rattle.block_net.specs.Limits.{arc_limit}
use Rattle.block_state.specs.AllWays.{HasRooms, IsHeld}

-- same net and as many blocks
pub record IsOfNet (s t : State) : Type 0 where
  pub net : t.net ≡ s.net
  pub blocks : t.blocks ≡ s.blocks

accepted_net : (s : State) (b c : ℕ) (way : List Message) → IsOfNet s (after_accept s b c way)
accepted_net s b c [] = record { net = refl; blocks = refl }
accepted_net s b c (Parcel x a d ∷ rest) = record { net = refl; blocks = refl }
accepted_net s b c (Accepted x a ∷ rest) = record { net = refl; blocks = refl }
accepted_net s b c (Refused x a d told ∷ rest) = record { net = refl; blocks = refl }

refused_net : (s : State) (b c : ℕ) (way : List Message) → IsOfNet s (after_refuse s b c way)
refused_net s b c [] = record { net = refl; blocks = refl }
refused_net s b c (Parcel x a d ∷ rest) = record { net = refl; blocks = refl }
refused_net s b c (Accepted x a ∷ rest) = record { net = refl; blocks = refl }
refused_net s b c (Refused x a d told ∷ rest) = record { net = refl; blocks = refl }

ended_net : (s : State) (b c : ℕ) (way : List Message) → IsOfNet s (after_settle s b c way)
ended_net s b c [] = record { net = refl; blocks = refl }
ended_net s b c (Parcel x a d ∷ rest) = record { net = refl; blocks = refl }
ended_net s b c (Accepted x a ∷ rest) = record { net = refl; blocks = refl }
ended_net s b c (Refused x a d told ∷ rest) = record { net = refl; blocks = refl }

pub effect_net : (s : State) (e : Event) → IsOfNet s (effect s e)
effect_net s (PushInner x) = record { net = refl; blocks = refl }
effect_net s (PushSink v) = record { net = refl; blocks = refl }
effect_net s (Relabel v) = record { net = refl; blocks = refl }
effect_net s (Send x) = record { net = refl; blocks = refl }
effect_net s (Accept b c) = accepted_net s b c (way_at s.ways b c)
effect_net s (Refuse b c) = refused_net s b c (way_at s.ways b c)
effect_net s (Settle b c) = ended_net s b c (way_at s.ways b c)
effect_net s RaiseAll = record { net = refl; blocks = refl }

pub held_after : {rooms : List (List ℕ)} {s : State} (e : Event) → IsHeld rooms s → IsEnabled s e → IsHeld rooms (effect s e)
held_after {rooms} {s} e held on =
    let same = effect_net s e in
    record {
      sound = effect_kept s e held.sound on;
      few = omega (arith, same.blocks, held.few);
      arcs = subst (λ n. length n.arcs ≤ arc_limit) (sym same.net) held.arcs;
      room = subst (λ n. HasRooms n (effect s e).blocks rooms) (sym same.net) (subst (λ n. HasRooms s.net n rooms) (sym same.blocks) held.room);
    }

-- the code's state is held where it is what an enabled event leaves
pub held_next : {rooms : List (List ℕ)} {s : State} (e : Event) (t : State) → IsHeld rooms s → IsEnabled s e → t ≡ effect s e → IsHeld rooms t
held_next {rooms} {s} e t held on is = subst (IsHeld rooms) (sym is) (held_after e held on)
