-- What a call of a block answers, and what it keeps.
use Rattle.std.proofs.Common.{◌≡◌, ℕ, ◌<◌, Bool, true, false, nat_lt, List, Contains, Option, Some, inl, inr, refl, sym, ◌∙◌, ap, subst, arith}
use Rattle.std.specs.Bool.{MatchBool}
use Rattle.std.proofs.lemmas.Bool.{cases_lt}
use Rattle.std.proofs.lemmas.Bool.Decides.{nat_tests}
use Rattle.block_events.specs.declared.message.Message.{Message}
use Rattle.block_events.specs.declared.message.Message.TheVariants.{Parcel, Accepted, Refused}
use Rattle.block_net.specs.Views.{CellsView}
use Rattle.block_discharge.specs.declared.letter.Letter.{Letter}
use Rattle.block_discharge.specs.Seen.{WaysView, IsLook}
use Rattle.block_discharge.specs.Steps.{Step, TurnView, Accept, Refuse, Settle, MayAcceptAt, MayRefuseAt, MaySettleAt, IsSure, turn_after}
use Rattle.block_discharge.specs.Calls.{Performs, IsUnchanged, IsFront, TakesParcel, HasReceived, HasSettled}
use Rattle.block_discharge.specs.Turns.{IsKnown}
use Rattle.block_discharge.specs.Works.{IsAlike, IsIdleFrom}
use Rattle.block_discharge.proofs.Runs.{held_look, look_more, idle_from_look}

-- events lead to the same other blocks
pub known_alike : (b b' : CellsView) (others : List ℕ) → IsAlike b b' → IsKnown b others → IsKnown b' others
known_alike b b' others alike known = λ j l. subst (λ (u : ℕ). Contains others u) (sym (alike.tos j)) (known j (omega (arith, l, alike.borders)))

-- yes where there is some, and no where there is none
pub some_or_none : (n : ℕ) (P Q : Type 0) → (0 < n → P) → (n ≡ 0 → Q) → MatchBool (nat_lt 0 n) P Q
some_or_none n P Q one off = elim (cases_lt 0 n) [
  | inl some ↦
      let on : nat_lt 0 n ≡ true = grind (arith, nat_tests) in
      subst (λ (b : Bool). MatchBool b P Q) (sym on) (one some)
  | inr none ↦
      let not_on : nat_lt 0 n ≡ false = grind (arith, nat_tests) in
      subst (λ (b : Bool). MatchBool b P Q) (sym not_on) (off (omega (arith, none)))
]

-- what is done after a look is done before it
done_look : (b b' : CellsView) (s t u : WaysView) (e : Step) → IsLook s t → Performs b t e b' u → Performs b s e b' u
done_look b b' s t u e look done = record { enabled = done.enabled; effect = done.effect ∙ ap (λ (h : TurnView). turn_after h e) (held_look b s t look) }

some_same : (o : Option Letter) (k l : Letter) → o ≡ Some k → o ≡ Some l → k ≡ l
some_same o k l e f = cc

front_look : (s t : WaysView) (c : ℕ) (l : Letter) → IsLook s t → t.front c ≡ Some l → IsFront s c l
front_look s t c l look front = λ k e. some_same (t.front c) k l (look.front c k e) front

-- ---- a parcel

pub received : (b b' : CellsView) (s t u : WaysView) (c : ℕ) (l : Letter) → IsLook s t → t.front c ≡ Some l → TakesParcel b t c l b' u → HasReceived b s c b' u
received b b' s t u c l look front took = (
  l,
  front_look s t c l look front,
  elim took [
    | inl done ↦ inl (done_look b b' s t u (Accept c l) look done)
    | inr done ↦ inr (done_look b b' s t u (Refuse c l) look done)
  ],
)

abbrev pub NoneReceived : CellsView → WaysView → ℕ → CellsView → WaysView → Type 0
NoneReceived b s c b' u =
    ((l : Letter) → (¬ IsSure b s (Accept c l)) × (¬ IsSure b s (Refuse c l))) × IsUnchanged b s b' u

pub none_received : (b b' : CellsView) (s t u : WaysView) (c : ℕ) → IsLook s t → IsIdleFrom b t c → b' ≡ b → IsLook t u → NoneReceived b s c b' u
none_received b b' s t u c look idle block then =
    let before = idle_from_look b s t c look idle in
    (λ l. (before.accepts l, before.refuses l), record { block = block; look = look_more s t u look then })

-- an answer is no parcel
abbrev pub IsAnswer : Message → Type 0
IsAnswer (Parcel x a d) = ⊥
IsAnswer (Accepted x a) = Unit {0}
IsAnswer (Refused x a d told) = Unit {0}

accepts_none : (b : CellsView) (c j : ℕ) (m : Message) → IsAnswer m → MayAcceptAt b c j m → ⊥
accepts_none b c j (Parcel x a d) is may = is
accepts_none b c j (Accepted x a) is may = may
accepts_none b c j (Refused x a d told) is may = may

refuses_none : (b : CellsView) (c j : ℕ) (m : Message) → IsAnswer m → MayRefuseAt b c j m → ⊥
refuses_none b c j (Parcel x a d) is may = is
refuses_none b c j (Accepted x a) is may = may
refuses_none b c j (Refused x a d told) is may = may

pub answer_received : (b : CellsView) (s t : WaysView) (c : ℕ) (l : Letter) → IsLook s t → t.front c ≡ Some l → IsAnswer l.message → NoneReceived b s c b t
answer_received b s t c l look front is =
    let here : (k : Letter) → s.front c ≡ Some k → IsAnswer k.message = λ k e.
    subst (λ (x : Letter). IsAnswer x.message) (sym (front_look s t c l look front k e)) is in (
      λ k. (λ on. accepts_none b c k.place k.message (here k on.1) on.0, λ on. refuses_none b c k.place k.message (here k on.1) on.0),
      record { block = refl; look = look },
    )

-- ---- an answer

pub has_settled : (b b' : CellsView) (s t u : WaysView) (c : ℕ) (l : Letter) → IsLook s t → t.front c ≡ Some l → Performs b t (Settle c l) b' u → HasSettled b s c b' u
has_settled b b' s t u c l look front done = (l, front_look s t c l look front, done_look b b' s t u (Settle c l) look done)

abbrev pub NothingSettles : CellsView → WaysView → ℕ → CellsView → WaysView → Type 0
NothingSettles b s c b' u = ((l : Letter) → ¬ IsSure b s (Settle c l)) × IsUnchanged b s b' u

pub nothing_settles : (b b' : CellsView) (s t u : WaysView) (c : ℕ) → IsLook s t → IsIdleFrom b t c → b' ≡ b → IsLook t u → NothingSettles b s c b' u
nothing_settles b b' s t u c look idle block then =
    let before = idle_from_look b s t c look idle in
    (before.settles, record { block = block; look = look_more s t u look then })

abbrev pub IsParcel : Message → Type 0
IsParcel (Parcel x a d) = Unit {0}
IsParcel (Accepted x a) = ⊥
IsParcel (Refused x a d told) = ⊥

settles_nothing : (b : CellsView) (c j : ℕ) (m : Message) → IsParcel m → MaySettleAt b c j m → ⊥
settles_nothing b c j (Parcel x a d) is may = may
settles_nothing b c j (Accepted x a) is may = is
settles_nothing b c j (Refused x a d told) is may = is

pub parcel_settles_nothing : (b : CellsView) (s t : WaysView) (c : ℕ) (l : Letter) → IsLook s t → t.front c ≡ Some l → IsParcel l.message → NothingSettles b s c b t
parcel_settles_nothing b s t c l look front is =
    let here : (k : Letter) → s.front c ≡ Some k → IsParcel k.message = λ k e.
    subst (λ (x : Letter). IsParcel x.message) (sym (front_look s t c l look front k e)) is in
    (λ k on. settles_nothing b c k.place k.message (here k on.1) on.0, record { block = refl; look = look })
