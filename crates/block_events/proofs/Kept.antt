-- Each event keeps a state sound.
use Rattle.std.proofs.Common.{◌≡◌, ℕ, ◌<◌, List, [], ◌∷◌, refl, sym, ◌∙◌, ap, subst, arith}
use Rattle.flow_network.specs.Cut.{nodes}
use Rattle.block_events.specs.declared.message.Message.{Message}
use Rattle.block_events.specs.declared.message.Message.TheVariants.{Parcel, Accepted, Refused}
use Rattle.block_events.specs.States.{State, way_at, label_of, IsWay}
use Rattle.block_events.specs.Soundness.{IsSound}
use Rattle.block_events.specs.declared.event.Event.{Event}
use Rattle.block_events.specs.declared.event.Event.TheVariants.{PushInner, PushSink, Relabel, Send, Accept, Refuse, Settle, RaiseAll}
use Rattle.block_events.specs.Events.{after_accept, after_refuse, after_settle, after_raise_all, highest_label, MayAccept, MayRefuse, MaySettle, IsEnabled, effect, Happens, IsRunOfEvents}
use Rattle.block_events.proofs.Replies.{accepted_kept, refused_kept}
use Rattle.block_events.proofs.Flights.{taken_kept, returned_kept, sent_kept}
use Rattle.block_events.proofs.Inside.{pushed_kept, given_kept, relabelled_kept}
use Rattle.block_events.proofs.Allowed.{IsAllowed}
use Rattle.block_events.proofs.Fit.{sound_fit, fit_allowed}
use Rattle.block_events.proofs.Raising.{raised_kept, one_exact}

-- ---- the new label

pub highest_allowed : (s : State) (v : ℕ) → IsSound s → v < nodes s.net → label_of s v < highest_label s v → IsAllowed s v (highest_label s v)
highest_allowed s v sound lv rises = fit_allowed s v (sound_fit s sound) lv rises

-- ---- each event

accept_kept : (s : State) (b c : ℕ) (way : List Message) → IsSound s → IsWay s b c → way_at s.ways b c ≡ way → MayAccept s way → IsSound (after_accept s b c way)
accept_kept s b c (Parcel x a d ∷ rest) sound in_range e may = accepted_kept s b c x a d rest sound in_range e may
accept_kept s b c (Accepted x a ∷ rest) sound in_range e may = absurd may
accept_kept s b c (Refused x a d told ∷ rest) sound in_range e may = absurd may
accept_kept s b c [] sound in_range e may = absurd may

refuse_kept : (s : State) (b c : ℕ) (way : List Message) → IsSound s → IsWay s b c → way_at s.ways b c ≡ way → MayRefuse s way → IsSound (after_refuse s b c way)
refuse_kept s b c (Parcel x a d ∷ rest) sound in_range e may = refused_kept s b c x a d rest sound in_range e may
refuse_kept s b c (Accepted x a ∷ rest) sound in_range e may = absurd may
refuse_kept s b c (Refused x a d told ∷ rest) sound in_range e may = absurd may
refuse_kept s b c [] sound in_range e may = absurd may

settle_kept : (s : State) (b c : ℕ) (way : List Message) → IsSound s → IsWay s b c → way_at s.ways b c ≡ way → MaySettle way → IsSound (after_settle s b c way)
settle_kept s b c (Parcel x a d ∷ rest) sound in_range e may = absurd may
settle_kept s b c (Accepted x a ∷ rest) sound in_range e may = taken_kept s b c x a rest sound in_range e
settle_kept s b c (Refused x a d told ∷ rest) sound in_range e may = returned_kept s b c x a d told rest sound in_range e
settle_kept s b c [] sound in_range e may = absurd may

-- every event but `RaiseAll`
pub effect_kept : (s : State) (e : Event) → IsSound s → IsEnabled s e → IsSound (effect s e)
effect_kept s (PushInner x) sound on = pushed_kept s x _ sound on.0 on.1 (omega arith) (omega arith) (omega (arith, on.4))
effect_kept s (PushSink v) sound on = given_kept s v _ sound on.0.node (omega arith) (omega arith)
effect_kept s (Relabel v) sound on = relabelled_kept s v _ sound (highest_allowed s v sound on.0.node on.1)
effect_kept s (Send x) sound on = sent_kept s x _ sound on.0 on.1 (omega (arith, on.2.excess, on.3)) (omega arith) (omega arith) on.4 on.5
effect_kept s (Accept b c) sound on = accept_kept s b c (way_at s.ways b c) sound on.0 refl on.1
effect_kept s (Refuse b c) sound on = refuse_kept s b c (way_at s.ways b c) sound on.0 refl on.1
effect_kept s (Settle b c) sound on = settle_kept s b c (way_at s.ways b c) sound on.0 refl on.1
effect_kept s RaiseAll sound on = sound

by_effect : (s t : State) (e : Event) → IsSound s → IsEnabled s e → t ≡ effect s e → IsSound t
by_effect s t e sound on is = let P : State → Type 0 = λ x. IsSound x in subst P (sym is) (effect_kept s e sound on)

-- each event keeps what is sound
pub kept : (s t : State) (e : Event) → IsSound s → Happens s e t → IsSound t
kept s t (PushInner x) sound h = by_effect s t (PushInner x) sound h.enabled h.effect
kept s t (PushSink v) sound h = by_effect s t (PushSink v) sound h.enabled h.effect
kept s t (Relabel v) sound h = by_effect s t (Relabel v) sound h.enabled h.effect
kept s t (Send x) sound h = by_effect s t (Send x) sound h.enabled h.effect
kept s t (Accept b c) sound h = by_effect s t (Accept b c) sound h.enabled h.effect
kept s t (Refuse b c) sound h = by_effect s t (Refuse b c) sound h.enabled h.effect
kept s t (Settle b c) sound h = by_effect s t (Settle b c) sound h.enabled h.effect
kept s t RaiseAll sound h =
    let P : State → Type 0 = λ x. IsSound x in
    let effect = h.effect in
    subst P (sym effect.2) (raised_kept s effect.0 sound h.enabled effect.1)

-- an event leads to one state
pub one_effect : (s t u : State) (e : Event) → Happens s e t → Happens s e u → t ≡ u
one_effect s t u (PushInner x) h k = h.effect ∙ sym k.effect
one_effect s t u (PushSink v) h k = h.effect ∙ sym k.effect
one_effect s t u (Relabel v) h k = h.effect ∙ sym k.effect
one_effect s t u (Send x) h k = h.effect ∙ sym k.effect
one_effect s t u (Accept b c) h k = h.effect ∙ sym k.effect
one_effect s t u (Refuse b c) h k = h.effect ∙ sym k.effect
one_effect s t u (Settle b c) h k = h.effect ∙ sym k.effect
one_effect s t u RaiseAll h k =
    let a = h.effect in
    let b = k.effect in
    a.2 ∙ (ap (after_raise_all s) (one_exact s a.0 b.0 a.1 b.1) ∙ sym b.2)

-- every list of events keeps what is sound
pub run_kept : (es : List Event) (s t : State) → IsSound s → IsRunOfEvents s es t → IsSound t
run_kept [] s t sound run = let P : State → Type 0 = λ x. IsSound x in subst P (sym run) sound
run_kept (e ∷ es) s t sound run = run_kept es run.0 t (kept s run.0 e sound run.1) run.2
