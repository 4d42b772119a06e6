-- In a sound state an enabled event is enabled in its block's own terms, and takes what stands in
-- front.
use Rattle.std.proofs.Common.{◌≡◌, ◌≢◌, ℕ, ◌<◌, ◌≤◌, List, [], ◌∷◌, ◌++◌, refl, sym, ◌∙◌, ap, subst, inl, inr, arith}
use Rattle.std.proofs.lemmas.Bool.{cases_eq}
use Rattle.block_events.specs.declared.direction.Direction.{Direction}
use Rattle.block_events.specs.declared.message.Message.{Message}
use Rattle.block_events.specs.declared.message.Message.TheVariants.{Parcel, Accepted, Refused}
use Rattle.block_events.specs.declared.event.Event.{Event}
use Rattle.block_events.specs.declared.event.Event.TheVariants.{PushInner, PushSink, Relabel, Send, Accept, Refuse, Settle, RaiseAll}
use Rattle.block_events.specs.Directions.{far}
use Rattle.block_events.specs.States.{State, way_at, put_message, label_of, near_block, far_block, IsWay}
use Rattle.block_events.specs.Events.{IsEnabled, MayAccept, MayRefuse, MaySettle, effect, after_accept, after_refuse, after_settle}
use Rattle.block_events.specs.Soundness.{IsSound, IsOut}
use Rattle.block_events.proofs.Ends.{far_in, near_block_in}
use Rattle.block_events.proofs.Ways.{square_put}
use Rattle.block_events.proofs.Opening.{opened_square}
use Rattle.block_events.proofs.Replies.{front_out}
use Rattle.block_events.proofs.Owning as owning
use Rattle.block_events.specs.Workers.{MayTake, FitsArc, FitsFlight, taken_with, IsEventOf, DoesOwn}
use Rattle.block_events.specs.RoundLaws.{without_messages, no_messages, TookFronts}
use Rattle.block_events.proofs.Running.{active_same, no_way}
use Rattle.block_events.proofs.Words.{put_here, put_other}

label_some : (s : State) (x : Direction) (a d b c : ℕ) → IsSound s → IsOut s.net s.blocks s.lanes x a d b c → 1 ≤ d
label_some s x a d b c sound o = let at = sound.flights x o.direction (record { amount = a; label = d }) o.flight in omega (arith, at.1, at.2)

-- ---- what is taken stands in front

-- nothing was taken
took_none : (b n : ℕ) (s t : State) (c : ℕ) → way_at t.ways c b ≡ way_at (no_messages n) c b
    → (left : List Message) × (way_at s.ways c b ≡ way_at t.ways c b ++ left)
took_none b n s t c same = (way_at s.ways c b, sym (ap (λ (r : List Message). r ++ way_at s.ways c b) (same ∙ no_way n c b)))

-- the message in front of the way from c was noted
took_front : (b c n : ℕ) (s t : State) (m : Message) (rest : List Message) → b < n → c < n → way_at s.ways c b ≡ m ∷ rest
    → ((q : ℕ) → b ≢ q → way_at t.ways q b ≡ way_at (put_message (no_messages n) c b m) q b) → TookFronts b s t
took_front b c n s t m rest lb lc front same q off = elim (cases_eq q c) [
  | inl e ↦
      let here = put_here n (no_messages n) c b m (opened_square s.net n) lc lb ∙ ap (λ (r : List Message). r ++ m ∷ []) (no_way n c b) in
      let noted = same c (subst (λ k. b ≢ k) e off) ∙ here in
      (rest, rw e (front ∙ sym (ap (λ (r : List Message). r ++ rest) noted)))
  | inr no' ↦ took_none b n s t q (same q off ∙ put_other n (no_messages n) c b m q b (opened_square s.net n) lc (λ e f. no' e))
]

-- and an answer was put
took_and_put : (b c n : ℕ) (s t : State) (m reply : Message) (rest : List Message) → b < n → c < n → way_at s.ways c b ≡ m ∷ rest
    → t.ways ≡ put_message (put_message (no_messages n) c b m) b c reply → TookFronts b s t
took_and_put b c n s t m reply rest lb lc front is =
    let log = put_message (no_messages n) c b m in
    let square = square_put n (no_messages n) c b (way_at (no_messages n) c b ++ m ∷ []) (opened_square s.net n) in
    took_front b c n s t m rest lb lc front (λ q off. ap (λ (w : List (List (List Message))). way_at w q b) is ∙ put_other n log b c reply q b square lb (λ e f. off (sym e)))

-- ---- each event

accept_terms : (b c : ℕ) (s : State) (way : List Message) → IsSound s → IsWay s c b → way_at s.ways c b ≡ way → MayAccept s way
    → (m : Message) × MayTake (without_messages s) b c m × MayAccept (without_messages s) (m ∷ []) × FitsArc (without_messages s) m
    × TookFronts b s (after_accept (without_messages s) c b (taken_with (without_messages s) b c m))
accept_terms b c s [] sound l e may = absurd may
accept_terms b c s (Parcel x a d ∷ rest) sound l e may =
    let o = front_out s c b (Parcel x a d) rest sound e in (
      Parcel x a d,
      record { addressed = record { direction = o.direction; border = o.border; near = o.near; far = o.far }; fair = (o.some, label_some s x a d c b sound o) },
      may,
      owning.accept_fits s c b x a d rest sound e may,
      took_and_put b c s.blocks s (after_accept (without_messages s) c b (taken_with (without_messages s) b c (Parcel x a d))) (Parcel x a d) (Accepted x a) rest l.1 l.0 e refl,
    )
accept_terms b c s (Accepted x a ∷ rest) sound l e may = absurd may
accept_terms b c s (Refused x a d told ∷ rest) sound l e may = absurd may

refuse_terms : (b c : ℕ) (s : State) (way : List Message) → IsSound s → IsWay s c b → way_at s.ways c b ≡ way → MayRefuse s way
    → (m : Message) × MayTake (without_messages s) b c m × MayRefuse (without_messages s) (m ∷ [])
    × TookFronts b s (after_refuse (without_messages s) c b (taken_with (without_messages s) b c m))
refuse_terms b c s [] sound l e may = absurd may
refuse_terms b c s (Parcel x a d ∷ rest) sound l e may =
    let o = front_out s c b (Parcel x a d) rest sound e in (
      Parcel x a d,
      record { addressed = record { direction = o.direction; border = o.border; near = o.near; far = o.far }; fair = (o.some, label_some s x a d c b sound o) },
      may,
      took_and_put b c s.blocks s (after_refuse (without_messages s) c b (taken_with (without_messages s) b c (Parcel x a d))) (Parcel x a d) (Refused x a d (label_of s (far s.net x))) rest l.1 l.0 e refl,
    )
refuse_terms b c s (Accepted x a ∷ rest) sound l e may = absurd may
refuse_terms b c s (Refused x a d told ∷ rest) sound l e may = absurd may

settle_terms : (b c : ℕ) (s : State) (way : List Message) → IsSound s → IsWay s c b → way_at s.ways c b ≡ way → MaySettle way
    → (m : Message) × MayTake (without_messages s) b c m × FitsFlight (without_messages s) m × TookFronts b s (after_settle (without_messages s) c b (taken_with (without_messages s) b c m))
settle_terms b c s [] sound l e may = absurd may
settle_terms b c s (Parcel x a d ∷ rest) sound l e may = absurd may
settle_terms b c s (Accepted x a ∷ rest) sound l e may =
    let h = front_out s c b (Accepted x a) rest sound e in
    let o = h.1 in (
      Accepted x a,
      record { addressed = record { direction = o.direction; border = o.border; near = o.near; far = o.far }; fair = o.some },
      (h.0, o.flight),
      took_front b c s.blocks s (after_settle (without_messages s) c b (taken_with (without_messages s) b c (Accepted x a))) (Accepted x a) rest l.1 l.0 e (λ q off. refl),
    )
settle_terms b c s (Refused x a d told ∷ rest) sound l e may =
    let h = front_out s c b (Refused x a d told) rest sound e in
    let o = h.0 in
    let high = sound.labels.top (far s.net x) (far_in s.net x sound.sized.net o.direction) in (
      Refused x a d told,
      record { addressed = record { direction = o.direction; border = o.border; near = o.near; far = o.far }; fair = (o.some, label_some s x a d b c sound o, h.1) },
      (o.flight, omega (arith, h.2, high)),
      took_front b c s.blocks s (after_settle (without_messages s) c b (taken_with (without_messages s) b c (Refused x a d told))) (Refused x a d told) rest l.1 l.0 e (λ q off. refl),
    )

-- what the event does in its own terms
abbrev Own : ℕ → State → Event → Type 0
Own b s e = (t : State) × DoesOwn b (without_messages s) e t × TookFronts b s t

send_own : (s : State) (x : Direction) → IsSound s → IsEnabled s (Send x) → Own (near_block s.net s.blocks x) s (Send x)
send_own s x sound on =
    let b = near_block s.net s.blocks x in
    let n = s.blocks in
    let t = effect (without_messages s) (Send x) in
    let within = near_block_in s x sound.sized on.0 in (
      t,
      (refl, (on.0, on.1, active_same s _ _ on.2, on.3, on.4, on.5), refl),
      λ c off. took_none b n s t c (put_other n (no_messages n) b (far_block s.net n x) _ c b (opened_square s.net n) within (λ e f. off (sym e))),
    )

pub own_terms : (b : ℕ) (s : State) (e : Event) → IsSound s → IsEventOf b s e → IsEnabled s e → Own b s e
own_terms b s (PushInner x) sound of on =
    let t = effect (without_messages s) (PushInner x) in
    (t, (of, (on.0, on.1, active_same s _ _ on.2, on.3, on.4), refl), λ c off. took_none b s.blocks s t c refl)
own_terms b s (PushSink v) sound of on =
    let t = effect (without_messages s) (PushSink v) in
    (t, (of, (active_same s _ _ on.0, on.1, on.2), refl), λ c off. took_none b s.blocks s t c refl)
own_terms b s (Relabel v) sound of on =
    let t = effect (without_messages s) (Relabel v) in
    (t, (of, (active_same s _ _ on.0, on.1), refl), λ c off. took_none b s.blocks s t c refl)
own_terms b s (Send x) sound of on = subst (λ (q : ℕ). Own q s (Send x)) of (send_own s x sound on)
own_terms b s (Accept c to) sound of on =
    let terms = accept_terms to c s (way_at s.ways c to) sound on.0 refl on.1 in
    let all : Own to s (Accept c to) = (after_accept (without_messages s) c to (taken_with (without_messages s) to c terms.0), (refl, terms.0, terms.1, terms.2, terms.3, refl), terms.4) in
    subst (λ (q : ℕ). Own q s (Accept c to)) of all
own_terms b s (Refuse c to) sound of on =
    let terms = refuse_terms to c s (way_at s.ways c to) sound on.0 refl on.1 in
    let all : Own to s (Refuse c to) = (after_refuse (without_messages s) c to (taken_with (without_messages s) to c terms.0), (refl, terms.0, terms.1, terms.2, refl), terms.3) in
    subst (λ (q : ℕ). Own q s (Refuse c to)) of all
own_terms b s (Settle c to) sound of on =
    let terms = settle_terms to c s (way_at s.ways c to) sound on.0 refl on.1 in
    let all : Own to s (Settle c to) = (after_settle (without_messages s) c to (taken_with (without_messages s) to c terms.0), (refl, terms.0, terms.1, terms.2, refl), terms.3) in
    subst (λ (q : ℕ). Own q s (Settle c to)) of all
own_terms b s RaiseAll sound of on = absurd of
