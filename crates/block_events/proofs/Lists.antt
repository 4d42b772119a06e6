-- Every list of events.
use Rattle.std.proofs.Common.{◌≡◌, ℕ, ◌+◌, ◌<◌, ◌≤◌, List, [], ◌∷◌, refl, sym, subst, arith}
use Rattle.block_events.specs.declared.message.Message.{Message}
use Rattle.block_events.specs.declared.message.Message.TheVariants.{Parcel, Accepted, Refused}
use Rattle.block_events.specs.States.{State, way_at, IsWay}
use Rattle.block_events.specs.Soundness.{IsSound}
use Rattle.block_events.specs.declared.event.Event.{Event}
use Rattle.block_events.specs.declared.event.Event.TheVariants.{PushInner, PushSink, Relabel, Send, Accept, Refuse, Settle, RaiseAll}
use Rattle.block_events.specs.Events.{MayAccept, MayRefuse, MaySettle, IsEnabled, effect, Happens, IsRunOfEvents, after_accept, after_refuse, after_settle, steps}
use Rattle.block_events.specs.Soundness.{potential}
use Rattle.block_events.proofs.Kept.{kept, highest_allowed}
use Rattle.block_events.proofs.Count.{pushed_lowers, given_lowers, relabelled_lowers, sent_lowers, accepted_lowers, refused_lowers, taken_lowers, returned_lowers}
use Rattle.block_events.proofs.Opening.{raised_lowers}

accept_lowers : (s : State) (b c : ℕ) (way : List Message) → IsSound s → IsWay s b c → way_at s.ways b c ≡ way → MayAccept s way → potential (after_accept s b c way) < potential s
accept_lowers s b c (Parcel x a d ∷ rest) sound in_range e may = accepted_lowers s b c x a d rest sound in_range e may
accept_lowers s b c (Accepted x a ∷ rest) sound in_range e may = absurd may
accept_lowers s b c (Refused x a d told ∷ rest) sound in_range e may = absurd may
accept_lowers s b c [] sound in_range e may = absurd may

refuse_lowers : (s : State) (b c : ℕ) (way : List Message) → IsSound s → IsWay s b c → way_at s.ways b c ≡ way → MayRefuse s way → potential (after_refuse s b c way) < potential s
refuse_lowers s b c (Parcel x a d ∷ rest) sound in_range e may = refused_lowers s b c x a d rest sound in_range e
refuse_lowers s b c (Accepted x a ∷ rest) sound in_range e may = absurd may
refuse_lowers s b c (Refused x a d told ∷ rest) sound in_range e may = absurd may
refuse_lowers s b c [] sound in_range e may = absurd may

settle_lowers : (s : State) (b c : ℕ) (way : List Message) → IsSound s → IsWay s b c → way_at s.ways b c ≡ way → MaySettle way → potential (after_settle s b c way) < potential s
settle_lowers s b c (Parcel x a d ∷ rest) sound in_range e may = absurd may
settle_lowers s b c (Accepted x a ∷ rest) sound in_range e may = taken_lowers s b c x a rest sound in_range e
settle_lowers s b c (Refused x a d told ∷ rest) sound in_range e may = returned_lowers s b c x a d told rest sound in_range e
settle_lowers s b c [] sound in_range e may = absurd may

effect_lowers : (s : State) (e : Event) → IsSound s → IsEnabled s e → (e ≡ RaiseAll → ⊥) → potential (effect s e) < potential s
effect_lowers s (PushInner x) sound on other = pushed_lowers s x _ sound on.0 (omega (arith, on.2.excess, on.3)) (omega arith) on.4
effect_lowers s (PushSink v) sound on other = given_lowers s v _ sound on.0.node (omega (arith, on.0.excess, on.1)) (omega arith) on.2
effect_lowers s (Relabel v) sound on other = relabelled_lowers s v _ sound (highest_allowed s v sound on.0.node on.1)
effect_lowers s (Send x) sound on other = sent_lowers s x _ sound on.0 (omega (arith, on.2.excess, on.3)) (omega arith) on.4
effect_lowers s (Accept b c) sound on other = accept_lowers s b c (way_at s.ways b c) sound on.0 refl on.1
effect_lowers s (Refuse b c) sound on other = refuse_lowers s b c (way_at s.ways b c) sound on.0 refl on.1
effect_lowers s (Settle b c) sound on other = settle_lowers s b c (way_at s.ways b c) sound on.0 refl on.1
effect_lowers s RaiseAll sound on other = absurd (other refl)

by_effect : (s t : State) (e : Event) → IsSound s → IsEnabled s e → (e ≡ RaiseAll → ⊥) → t ≡ effect s e → potential t < potential s
by_effect s t e sound on other is = let P : State → Type 0 = λ x. potential x < potential s in subst P (sym is) (effect_lowers s e sound on other)

-- each event but `RaiseAll` lowers the count
pub lowers : (s t : State) (e : Event) → IsSound s → Happens s e t → (e ≡ RaiseAll → ⊥) → potential t < potential s
lowers s t (PushInner x) sound h other = by_effect s t (PushInner x) sound h.enabled other h.effect
lowers s t (PushSink v) sound h other = by_effect s t (PushSink v) sound h.enabled other h.effect
lowers s t (Relabel v) sound h other = by_effect s t (Relabel v) sound h.enabled other h.effect
lowers s t (Send x) sound h other = by_effect s t (Send x) sound h.enabled other h.effect
lowers s t (Accept b c) sound h other = by_effect s t (Accept b c) sound h.enabled other h.effect
lowers s t (Refuse b c) sound h other = by_effect s t (Refuse b c) sound h.enabled other h.effect
lowers s t (Settle b c) sound h other = by_effect s t (Settle b c) sound h.enabled other h.effect
lowers s t RaiseAll sound h other = absurd (other refl)

-- and `RaiseAll` does not raise it
pub never_raises : (s t : State) → IsSound s → Happens s RaiseAll t → potential t ≤ potential s
never_raises s t sound h =
    let effect = h.effect in
    let P : State → Type 0 = λ x. potential x ≤ potential s in
    subst P (sym effect.2) (raised_lowers s effect.0 sound effect.1)

one_step : (s mid t : State) (e : Event) (rest : ℕ) → IsSound s → Happens s e mid → rest + potential t ≤ potential mid → steps (e ∷ []) + rest + potential t ≤ potential s
one_step s mid t (PushInner x) rest sound h le = omega (arith, lowers s mid (PushInner x) sound h (λ e. absurd (cc)), le)
one_step s mid t (PushSink v) rest sound h le = omega (arith, lowers s mid (PushSink v) sound h (λ e. absurd (cc)), le)
one_step s mid t (Relabel v) rest sound h le = omega (arith, lowers s mid (Relabel v) sound h (λ e. absurd (cc)), le)
one_step s mid t (Send x) rest sound h le = omega (arith, lowers s mid (Send x) sound h (λ e. absurd (cc)), le)
one_step s mid t (Accept b c) rest sound h le = omega (arith, lowers s mid (Accept b c) sound h (λ e. absurd (cc)), le)
one_step s mid t (Refuse b c) rest sound h le = omega (arith, lowers s mid (Refuse b c) sound h (λ e. absurd (cc)), le)
one_step s mid t (Settle b c) rest sound h le = omega (arith, lowers s mid (Settle b c) sound h (λ e. absurd (cc)), le)
one_step s mid t RaiseAll rest sound h le = omega (arith, never_raises s mid sound h, le)

steps_front : (e : Event) (es : List Event) → steps (e ∷ es) ≡ steps (e ∷ []) + steps es
steps_front (PushInner x) es = omega arith
steps_front (PushSink v) es = omega arith
steps_front (Relabel v) es = omega arith
steps_front (Send x) es = omega arith
steps_front (Accept b c) es = omega arith
steps_front (Refuse b c) es = omega arith
steps_front (Settle b c) es = omega arith
steps_front RaiseAll es = omega arith

-- over a list, the events other than `RaiseAll` are at most as many as the count falls
pub run_lowers : (es : List Event) (s t : State) → IsSound s → IsRunOfEvents s es t → steps es + potential t ≤ potential s
run_lowers [] s t sound run = let P : State → Type 0 = λ x. steps [] + potential x ≤ potential s in subst P (sym run) (omega arith)
run_lowers (e ∷ es) s t sound run =
    let rest = run_lowers es run.0 t (kept s run.0 e sound run.1) run.2 in
    omega (arith, one_step s run.0 t e (steps es) sound run.1 rest, steps_front e es)
