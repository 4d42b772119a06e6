-- Messages that are taken, one after another.
use Rattle.std.proofs.Common.{◌≡◌, ℕ, ◌+◌, ◌<◌, Bool, true, false, IsFalse, List, [], ◌∷◌, ◌++◌, refl, sym, ◌∙◌, ap, subst, inl, inr, ◌⊎◌, arith}
use Rattle.std.proofs.lemmas.Bool.{cases_lt, true≢false}
use Rattle.std.proofs.lemmas.List.Elements.{All-append, All-cons, All-nil}
use Rattle.block_events.specs.declared.message.Message.{Message}
use Rattle.block_events.specs.declared.message.Message.TheVariants.{Parcel, Accepted, Refused}
use Rattle.block_events.specs.declared.event.Event.{Event}
use Rattle.block_events.specs.declared.event.Event.TheVariants.{Accept, Refuse, Settle, RaiseAll}
use Rattle.block_events.specs.Directions.{far}
use Rattle.block_events.specs.States.{State, way_at, label_of, IsWay}
use Rattle.block_events.specs.Events.{IsEnabled, Happens, IsRunOfEvents, MayAccept, MayRefuse, after_accept, after_refuse, after_settle, effect}
use Rattle.block_events.specs.Soundness.{IsSound}
use Rattle.block_events.proofs.Kept.{kept}
use Rattle.block_events.proofs.Replies.{front_out}
use Rattle.block_state.proofs.Keeping.{effect_net}
use Rattle.cut_in_blocks.specs.Takes.{IsTaking, TookIn, IsTakenIn, IsRowEmpty}
use Rattle.block_state.specs.Calls.{HappensIfEnabled}
use Rattle.cut_in_blocks.proofs.Lowering.{lowers_one, lowers_same, lowers_then}

-- ---- one message

accepted_labels : (s : State) (b c : ℕ) (way : List Message) → (after_accept s b c way).labels ≡ s.labels
accepted_labels s b c [] = refl
accepted_labels s b c (Parcel x a d ∷ rest) = refl
accepted_labels s b c (Accepted x a ∷ rest) = refl
accepted_labels s b c (Refused x a d told ∷ rest) = refl

refused_labels : (s : State) (b c : ℕ) (way : List Message) → (after_refuse s b c way).labels ≡ s.labels
refused_labels s b c [] = refl
refused_labels s b c (Parcel x a d ∷ rest) = refl
refused_labels s b c (Accepted x a ∷ rest) = refl
refused_labels s b c (Refused x a d told ∷ rest) = refl

ended_labels : (s : State) (b c : ℕ) (way : List Message) → (after_settle s b c way).labels ≡ s.labels
ended_labels s b c [] = refl
ended_labels s b c (Parcel x a d ∷ rest) = refl
ended_labels s b c (Accepted x a ∷ rest) = refl
ended_labels s b c (Refused x a d told ∷ rest) = refl

taken_by : (s t : State) (e : Event) → IsSound s → (e ≡ RaiseAll → ⊥) → IsTaking e → Happens s e t → t ≡ effect s e → (effect s e).labels ≡ s.labels → IsTakenIn s t true
taken_by s t e sound other takes h is labels = record {
  took = record { events = e ∷ []; run = (t, h, refl); takes = All-cons IsTaking e [] takes (All-nil IsTaking) };
  blocks = ap (λ (q : State). q.blocks) is ∙ (effect_net s e).blocks;
  labels = ap (λ (q : State). q.labels) is ∙ labels;
  sound = λ old. kept s t e old h;
  lowers = lowers_one s t e sound other h;
}

pub accept_taken : (s t : State) (b c : ℕ) → IsSound s → Happens s (Accept b c) t → IsTakenIn s t true
accept_taken s t b c sound h = taken_by s t (Accept b c) sound (λ e. absurd (cc)) tt h h.effect (accepted_labels s b c (way_at s.ways b c))

pub refuse_taken : (s t : State) (b c : ℕ) → IsSound s → Happens s (Refuse b c) t → IsTakenIn s t true
refuse_taken s t b c sound h = taken_by s t (Refuse b c) sound (λ e. absurd (cc)) tt h h.effect (refused_labels s b c (way_at s.ways b c))

pub settle_taken : (s t : State) (b c : ℕ) → IsSound s → Happens s (Settle b c) t → IsTakenIn s t true
settle_taken s t b c sound h = taken_by s t (Settle b c) sound (λ e. absurd (cc)) tt h h.effect (ended_labels s b c (way_at s.ways b c))

pub taken_same : (s t : State) → t ≡ s → IsTakenIn s t false
taken_same s t e = record {
  took = record { events = []; run = e; takes = All-nil IsTaking };
  blocks = ap (λ (q : State). q.blocks) e;
  labels = ap (λ (q : State). q.labels) e;
  sound = subst IsSound (sym e);
  lowers = lowers_same s t e;
}

-- a message in front can be taken
front_taken : (s : State) (b c : ℕ) (m : Message) (rest : List Message) → IsSound s → IsWay s b c → way_at s.ways b c ≡ m ∷ rest
    → (IsEnabled s (Accept b c) → ⊥) → (IsEnabled s (Refuse b c) → ⊥) → (IsEnabled s (Settle b c) → ⊥) → ⊥
front_taken s b c (Parcel x a d) rest sound way e accept refuse settle =
    let o = front_out s b c (Parcel x a d) rest sound e in
    let at_x = sound.flights x o.direction (record { amount = a; label = d }) o.flight in
    let known = sound.labels.known x o.direction o.border in
    elim (cases_lt (label_of s (far s.net x)) d) [
      | inl low ↦
          let may : MayAccept s (Parcel x a d ∷ rest) = omega (arith, at_x.1, at_x.2, known, low) in
          accept (way, rw e may)
      | inr high ↦
          let may : MayRefuse s (Parcel x a d ∷ rest) = high in
          refuse (way, rw e may)
    ]
front_taken s b c (Accepted x a) rest sound way e accept refuse settle = settle (way, rw e tt)
front_taken s b c (Refused x a d told) rest sound way e accept refuse settle = settle (way, rw e tt)

none_in_front : (s : State) (b c : ℕ) (way : List Message) → IsSound s → IsWay s b c → way_at s.ways b c ≡ way
    → (IsEnabled s (Accept b c) → ⊥) → (IsEnabled s (Refuse b c) → ⊥) → (IsEnabled s (Settle b c) → ⊥) → way ≡ []
none_in_front s b c [] sound at e accept refuse settle = refl
none_in_front s b c (m ∷ rest) sound at e accept refuse settle = absurd (front_taken s b c m rest sound at e accept refuse settle)

pub way_empty : (s : State) (b c : ℕ) → IsSound s → (IsEnabled s (Accept b c) → ⊥) → (IsEnabled s (Refuse b c) → ⊥) → (IsEnabled s (Settle b c) → ⊥) → IsWay s b c → way_at s.ways b c ≡ []
way_empty s b c sound accept refuse settle way = none_in_front s b c (way_at s.ways b c) sound way refl accept refuse settle

-- ---- one after another

run_more : (es fs : List Event) (s t u : State) → IsRunOfEvents s es t → IsRunOfEvents t fs u → IsRunOfEvents s (es ++ fs) u
run_more [] fs s t u first second = let P : State → Type 0 = λ q. IsRunOfEvents q fs u in subst P first second
run_more (e ∷ es) fs s t u first second = (first.0, first.1, run_more es fs first.0 t u first.2 second)

took_more : (s t u : State) → TookIn s t → TookIn t u → TookIn s u
took_more s t u h k = record {
  events = h.events ++ k.events;
  run = run_more h.events k.events s t u h.run k.run;
  takes = All-append IsTaking h.events k.events h.takes k.takes;
}

pub taken_then : (s t u : State) (p : Bool) → IsTakenIn s t p → IsTakenIn t u true → IsTakenIn s u true
taken_then s t u p h k = record {
  took = took_more s t u h.took k.took;
  blocks = k.blocks ∙ h.blocks;
  labels = k.labels ∙ h.labels;
  sound = λ old. k.sound (h.sound old);
  lowers = lowers_then s t u p h.lowers k.lowers;
}

pub taken_still : (s t u : State) (p : Bool) → IsTakenIn s t p → IsTakenIn t u false → IsTakenIn s u p
taken_still s t u p h k = let P : State → Type 0 = λ q. IsTakenIn s q p in subst P (sym (k.lowers.still refl)) h

-- ---- what the code tells

pub from_same : (s s1 t : State) (r : Bool) → s1 ≡ s → IsTakenIn s1 t r → IsTakenIn s t r
from_same s s1 t r e h = let P : State → Type 0 = λ q. IsTakenIn q t r in subst P e h

pub settle_by : (s t : State) (b c : ℕ) (r : Bool) → IsSound s → HappensIfEnabled s (Settle b c) t r → IsTakenIn s t r
settle_by s t b c true sound h = settle_taken s t b c sound h
settle_by s t b c false sound h = taken_same s t h.1

not_ended : (s t : State) (b c : ℕ) (r : Bool) → HappensIfEnabled s (Settle b c) t r → IsFalse r → IsEnabled s (Settle b c) → ⊥
not_ended s t b c true h off = absurd (true≢false off)
not_ended s t b c false h off = h.0

pub none_taken : (s s1 s2 t : State) (b c : ℕ) (r : Bool) → IsSound s → (¬ IsEnabled s (Accept b c)) × (s1 ≡ s) → (¬ IsEnabled s1 (Refuse b c)) × (s2 ≡ s1)
    → HappensIfEnabled s2 (Settle b c) t r → IsFalse r → IsWay s b c → way_at s.ways b c ≡ []
none_taken s s1 s2 t b c r sound accept refuse settle off =
    let P : State → Type 0 = λ q. ¬ IsEnabled q (Refuse b c) in
    let Q : State → Type 0 = λ q. ¬ IsEnabled q (Settle b c) in
    way_empty s b c sound accept.0 (subst P accept.1 refuse.0) (subst Q (refuse.1 ∙ accept.1) (not_ended s2 t b c r settle off))

-- ---- loops

-- a step did something, which is remembered, or nothing
abbrev pub Remembers : Bool → Bool → Bool → Type 0
Remembers r p p' = ((r ≡ true) × (p' ≡ true)) ⊎ ((r ≡ false) × (p' ≡ p))

abbrev pub EmptyBelow : State → ℕ → ℕ → Bool → Type 0
EmptyBelow s from count some = some ≡ false → IsRowEmpty s from count

abbrev pub QuietBelow : State → ℕ → Bool → Type 0
QuietBelow s count some = some ≡ false → (b : ℕ) → b < count → IsRowEmpty s b s.blocks

as_told : (s t : State) (p q : Bool) → p ≡ q → IsTakenIn s t p → IsTakenIn s t q
as_told s t p q e h = subst (λ (x : Bool). IsTakenIn s t x) e h

pub taken_on : (s t u : State) (p r p' : Bool) → IsTakenIn s t p → IsTakenIn t u r → Remembers r p p' → IsTakenIn s u p'
taken_on s t u p r p' h k told = elim told [
  | inl some ↦ as_told s u true p' (sym some.1) (taken_then s t u p h (as_told t u r true some.0 k))
  | inr none ↦ as_told s u p p' (sym none.1) (taken_still s t u p h (as_told t u r false none.0 k))
]

unmoved : (t u : State) (r : Bool) → IsTakenIn t u r → r ≡ false → u ≡ t
unmoved t u r k e = k.lowers.still e

pub ways_step : (s t u : State) (from to : ℕ) (p r p' : Bool) → IsTakenIn s t p → EmptyBelow t from to p → IsTakenIn t u r → (IsWay u from to → way_at u.ways from to ≡ [])
    → from < s.blocks → to < s.blocks → Remembers r p p' → IsTakenIn s u p' × EmptyBelow u from (to + 1) p'
ways_step s t u from to p r p' h empty k none lf lt told =
    let all = taken_on s t u p r p' h k told in
    let here : way_at u.ways from to ≡ [] = none (omega (arith, lf, all.blocks), omega (arith, lt, all.blocks)) in (
      all,
      (λ off c lc. elim told [
        | inl some ↦ absurd (true≢false (sym some.1 ∙ off))
        | inr still ↦ elim (cases_lt c to) [
          | inl below ↦ subst (λ (q : State). way_at q.ways from c ≡ []) (sym (unmoved t u r k still.0)) (empty (sym still.1 ∙ off) c below)
          | inr last ↦ let e : to ≡ c = omega arith in subst (λ (j : ℕ). way_at u.ways from j ≡ []) e here
        ]
      ]),
    )

pub rows_step : (s t u : State) (from : ℕ) (p r p' : Bool) → IsTakenIn s t p → QuietBelow t from p → IsTakenIn t u r → (IsFalse r → IsRowEmpty u from u.blocks)
    → Remembers r p p' → IsTakenIn s u p' × QuietBelow u (from + 1) p'
rows_step s t u from p r p' h quiet k none told = (
  taken_on s t u p r p' h k told,
  (λ off b lb. elim told [
    | inl some ↦ absurd (true≢false (sym some.1 ∙ off))
    | inr still ↦ elim (cases_lt b from) [
      | inl below ↦ subst (λ (q : State). IsRowEmpty q b q.blocks) (sym (unmoved t u r k still.0)) (quiet (sym still.1 ∙ off) b below)
      | inr last ↦ let e : from ≡ b = omega arith in subst (λ (j : ℕ). IsRowEmpty u j u.blocks) e (none still.0)
    ]
  ]),
)
