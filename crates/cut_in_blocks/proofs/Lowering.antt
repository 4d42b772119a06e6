-- Fewer and fewer events lead on, until the state is finished.
use Rattle.std.proofs.Common.{◌≡◌, ℕ, ◌<◌, ◌≤◌, Bool, true, false, ◌||◌, List, [], refl, sym, ◌∙◌, ap, subst, inl, inr, arith}
use Rattle.std.proofs.lemmas.Bool.{false≢true, true≢false}
use Rattle.block_events.specs.declared.message.Message.{Message}
use Rattle.block_events.specs.declared.event.Event.{Event}
use Rattle.block_events.specs.declared.event.Event.TheVariants.{PushInner, PushSink, Relabel, Send, Accept, Refuse, Settle, RaiseAll}
use Rattle.block_events.specs.States.{State, way_at, block_of, near_block}
use Rattle.block_events.specs.Events.{IsQuiet, IsEnabled, Happens, MayAccept, MayRefuse, MaySettle}
use Rattle.block_events.specs.Soundness.{IsSound, IsFinished, potential}
use Rattle.block_events.proofs.Lists.{lowers, never_raises}
use Rattle.block_events.proofs.Ends.{block_in, near_block_in}
use Rattle.block_events.proofs.Progress.{progress}
use Rattle.block_events.specs.Workers.{MayStart}
use Rattle.block_state.specs.Calls.{HappensIfEnabled}
use Rattle.block_state.proofs.Keeping.{effect_net}
use Rattle.cut_in_blocks.specs.Lowers.{IsAfter, Lowers}

-- ---- one event

happens_net : (s t : State) (e : Event) → Happens s e t → t.net ≡ s.net
happens_net s t (PushInner x) h = ap (λ (q : State). q.net) h.effect ∙ (effect_net s (PushInner x)).net
happens_net s t (PushSink v) h = ap (λ (q : State). q.net) h.effect ∙ (effect_net s (PushSink v)).net
happens_net s t (Relabel v) h = ap (λ (q : State). q.net) h.effect ∙ (effect_net s (Relabel v)).net
happens_net s t (Send x) h = ap (λ (q : State). q.net) h.effect ∙ (effect_net s (Send x)).net
happens_net s t (Accept b c) h = ap (λ (q : State). q.net) h.effect ∙ (effect_net s (Accept b c)).net
happens_net s t (Refuse b c) h = ap (λ (q : State). q.net) h.effect ∙ (effect_net s (Refuse b c)).net
happens_net s t (Settle b c) h = ap (λ (q : State). q.net) h.effect ∙ (effect_net s (Settle b c)).net
happens_net s t RaiseAll h = ap (λ (q : State). q.net) h.effect.2

pub lowers_one : (s t : State) (e : Event) → IsSound s → (e ≡ RaiseAll → ⊥) → Happens s e t → Lowers s t true
lowers_one s t e sound other h = record {
  net = happens_net s t e h;
  less = λ e'. lowers s t e sound h other;
  still = λ off. absurd (true≢false off);
}

pub lowers_same : (s t : State) → t ≡ s → Lowers s t false
lowers_same s t e = record { net = ap (λ (q : State). q.net) e; less = λ off. absurd (false≢true off); still = λ h. e }

-- the exact labels
pub raised_after : (s t : State) → IsSound s → Happens s RaiseAll t → IsAfter s t
raised_after s t sound h = record { net = happens_net s t RaiseAll h; count = never_raises s t sound h }

-- ---- one after another

pub lowers_le : (s t : State) (some : Bool) → Lowers s t some → potential t ≤ potential s
lowers_le s t true h = let less = h.less refl in omega arith
lowers_le s t false h = let same = ap potential (h.still refl) in omega arith

-- something was done, before or now
pub lowers_then : (s t u : State) (p : Bool) → Lowers s t p → Lowers t u true → Lowers s u true
lowers_then s t u p h k = record {
  net = k.net ∙ h.net;
  less = λ e. let less = k.less refl in let le = lowers_le s t p h in omega arith;
  still = λ off. absurd (true≢false off);
}

-- nothing was done now
pub lowers_still : (s t u : State) (p : Bool) → Lowers s t p → Lowers t u false → Lowers s u p
lowers_still s t u p h k = let P : State → Type 0 = λ q. Lowers s q p in subst P (sym (k.still refl)) h

pub lowers_or : (s t u : State) (p q : Bool) → Lowers s t p → Lowers t u q → Lowers s u (p || q)
lowers_or s t u true true h k = lowers_then s t u true h k
lowers_or s t u true false h k = lowers_still s t u true h k
lowers_or s t u false true h k = lowers_then s t u false h k
lowers_or s t u false false h k = lowers_still s t u false h k

-- ---- nothing left to do

no_take : (s : State) (way : List Message) → way ≡ [] → (MayAccept s way → ⊥) × (MayRefuse s way → ⊥) × (MaySettle way → ⊥)
no_take s way e =
    let P : List Message → Type 0 = λ w. (MayAccept s w → ⊥) × (MayRefuse s w → ⊥) × (MaySettle w → ⊥) in
    subst P (sym e) ((λ h. h), (λ h. h), (λ h. h))

-- an enabled event takes a message that is there, or the block of its node may start it
not_enabled : (s : State) (e : Event) → IsSound s → IsQuiet s → ((b : ℕ) → b < s.blocks → (e : Event) → ¬ MayStart b s e) → (e ≡ RaiseAll → ⊥) → IsEnabled s e → ⊥
not_enabled s (PushInner x) sound quiet none other on = none (near_block s.net s.blocks x) (near_block_in s x sound.sized on.0) (PushInner x) (refl, on)
not_enabled s (PushSink v) sound quiet none other on = none (block_of s.net s.blocks v) (block_in s.net s.blocks v on.0.node sound.sized.blocks) (PushSink v) (refl, on)
not_enabled s (Relabel v) sound quiet none other on = none (block_of s.net s.blocks v) (block_in s.net s.blocks v on.0.node sound.sized.blocks) (Relabel v) (refl, on)
not_enabled s (Send x) sound quiet none other on = none (near_block s.net s.blocks x) (near_block_in s x sound.sized on.0) (Send x) (refl, on)
not_enabled s (Accept b c) sound quiet none other on = (no_take s (way_at s.ways b c) (quiet b c on.0.0 on.0.1)).0 on.1
not_enabled s (Refuse b c) sound quiet none other on = (no_take s (way_at s.ways b c) (quiet b c on.0.0 on.0.1)).1 on.1
not_enabled s (Settle b c) sound quiet none other on = (no_take s (way_at s.ways b c) (quiet b c on.0.0 on.0.1)).2 on.1
not_enabled s RaiseAll sound quiet none other on = other refl

-- a quiet state in which no block may start an event is finished
pub none_starts : (s : State) → IsSound s → IsQuiet s → ((b : ℕ) → b < s.blocks → (e : Event) → ¬ MayStart b s e) → IsFinished s
none_starts s sound quiet none = elim (progress s sound) [
  | inl event ↦ absurd (not_enabled s event.0 sound quiet none event.1 event.2)
  | inr finished ↦ finished
]

-- ---- what the code tells

pub lowers_by : (s t : State) (e : Event) (r : Bool) → IsSound s → (e ≡ RaiseAll → ⊥) → HappensIfEnabled s e t r → Lowers s t r
lowers_by s t e true sound other h = lowers_one s t e sound other h
lowers_by s t e false sound other h = lowers_same s t h.1

-- ---- what was done before

pub after_same : (s : State) → IsAfter s s
after_same s = record { net = refl; count = omega arith }

pub after_more : (s t u : State) → IsAfter s t → IsAfter t u → IsAfter s u
after_more s t u h k = record { net = k.net ∙ h.net; count = omega (arith, h.count, k.count) }

pub lowers_after : (s t : State) (r : Bool) → Lowers s t r → IsAfter s t
lowers_after s t r h = record { net = h.net; count = lowers_le s t r h }

-- no message is on the way after the exact labels
pub raised_quiet : (s t : State) → IsQuiet s → Happens s RaiseAll t → IsQuiet t
raised_quiet s t quiet raised = subst IsQuiet (sym raised.effect.2) quiet
