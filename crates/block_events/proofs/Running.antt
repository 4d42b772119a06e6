-- A history of one block on one thread is a run of the core.
use Rattle.std.proofs.Common.{◌≡◌, ◌≢◌, ℕ, ◌<◌, List, [], ◌∷◌, ◌++◌, length, get_or, replicate, set, refl, sym, ◌∙◌, ap, subst, inl, inr, arith, get_or-set_same, get_or-set_other}
use Rattle.std.proofs.lemmas.Bool.{cases_eq, cases_lt}
use Rattle.std.proofs.lemmas.List.{length-replicate, get_or-replicate, get_or_past, set_past, append-nil, append_assoc, append_cancel_left}
use Rattle.block_events.specs.declared.message.Message.{Message}
use Rattle.block_events.specs.declared.message.Message.TheVariants.{Parcel, Accepted, Refused}
use Rattle.block_events.specs.declared.event.Event.{Event}
use Rattle.block_events.specs.declared.event.Event.TheVariants.{PushInner, PushSink, Relabel, Send, Accept, Refuse, Settle, RaiseAll}
use Rattle.block_events.specs.Directions.{far}
use Rattle.block_events.specs.States.{State, way_at, put_way, put_message, label_of, near_block, far_block}
use Rattle.block_events.specs.Events.{effect, IsActive, after_accept, after_refuse, after_settle, MayAccept, MayRefuse, Happens, IsRunOfEvents}
use Rattle.block_events.specs.Soundness.{IsSound, IsSquare}
use Rattle.block_events.proofs.Ways.{square_put, way_same, way_other}
use Rattle.block_events.proofs.Kept.{kept}
use Rattle.block_events.proofs.Opening.{opened_square}
use Rattle.block_events.specs.Workers.{IsBetween, MayTake, FitsFlight, taken_with, DoesOwn, IsHistory}
use Rattle.block_events.specs.RoundLaws.{with_ways, no_messages, IsPassed}
use Rattle.block_events.proofs.Words.{apart, in_range, put_here, put_other}

-- ---- the ways beside the logs

beside_put : (b n : ℕ) (first logs ways : List (List (List Message))) (c : ℕ) (m : Message) → IsSquare n logs → IsSquare n ways → b < n → c < n → b ≢ c
    → IsPassed b first logs ways → IsPassed b first (put_message logs b c m) (put_message ways b c m)
beside_put b n first logs ways c m sl sw lb lc off by = record {
  puts = λ q ne. elim (cases_eq q c) [
    | inl e ↦
        rw e (put_here n ways b c m sw lb lc
        ∙ (ap (λ (r : List Message). r ++ m ∷ []) (by.puts c off)
        ∙ (append_assoc (way_at first b c) (way_at logs b c) (m ∷ []) ∙ ap (λ (r : List Message). way_at first b c ++ r) (sym (put_here n logs b c m sl lb lc)))))
    | inr no' ↦
        put_other n ways b c m b q sw lb (λ e f. no' f)
        ∙ (by.puts q ne ∙ ap (λ (r : List Message). way_at first b q ++ r) (sym (put_other n logs b c m b q sl lb (λ e f. no' f))))
  ];
  takes = λ q ne.
      by.takes q ne
      ∙ (ap (λ (r : List Message). r ++ way_at ways q b) (sym (put_other n logs b c m q b sl lb (λ e f. ne (sym e))))
      ∙ ap (λ (r : List Message). way_at (put_message logs b c m) q b ++ r) (sym (put_other n ways b c m q b sw lb (λ e f. ne (sym e)))));
  others = λ p q offp offq. put_other n ways b c m p q sw lb (λ e f. offp (sym e)) ∙ by.others p q offp offq;
  own = put_other n ways b c m b b sw lb (λ e f. off f) ∙ by.own;
  square = λ k sk. square_put k ways b c (way_at ways b c ++ m ∷ []) (by.square k sk);
}

beside_take : (b n : ℕ) (first logs ways : List (List (List Message))) (c : ℕ) (m : Message) (rest : List Message) → IsSquare n logs → IsSquare n ways → b < n → c < n → b ≢ c
    → way_at ways c b ≡ m ∷ rest → IsPassed b first logs ways → IsPassed b first (put_message logs c b m) (put_way ways c b rest)
beside_take b n first logs ways c m rest sl sw lb lc off front by = record {
  puts = λ q ne.
      way_other n ways c b rest b q sw lc (λ e f. off e)
      ∙ (by.puts q ne ∙ ap (λ (r : List Message). way_at first b q ++ r) (sym (put_other n logs c b m b q sl lc (λ e f. off e))));
  takes = λ q ne. elim (cases_eq q c) [
    | inl e ↦
        rw e (by.takes c off
        ∙ (ap (λ (r : List Message). way_at logs c b ++ r) front
        ∙ (sym (append_assoc (way_at logs c b) (m ∷ []) rest)
        ∙ (ap (λ (r : List Message). r ++ rest) (sym (put_here n logs c b m sl lc lb)) ∙ ap (λ (r : List Message). way_at (put_message logs c b m) c b ++ r) (sym (way_same n ways c b rest sw lc lb))))))
    | inr no' ↦
        by.takes q ne
        ∙ (ap (λ (r : List Message). r ++ way_at ways q b) (sym (put_other n logs c b m q b sl lc (λ e f. no' e)))
        ∙ ap (λ (r : List Message). way_at (put_message logs c b m) q b ++ r) (sym (way_other n ways c b rest q b sw lc (λ e f. no' e))))
  ];
  others = λ p q offp offq. way_other n ways c b rest p q sw lc (λ e f. offq (sym f)) ∙ by.others p q offp offq;
  own = way_other n ways c b rest b b sw lc (λ e f. off e) ∙ by.own;
  square = λ k sk. square_put k ways c b rest (by.square k sk);
}

-- what is to be taken stands in front
front_is : (b : ℕ) (first logs ways : List (List (List Message))) (c : ℕ) (m : Message) (rest : List Message) → b ≢ c → IsPassed b first logs ways
    → way_at first c b ≡ (way_at logs c b ++ m ∷ []) ++ rest → way_at ways c b ≡ m ∷ rest
front_is b first logs ways c m rest off by is =
    append_cancel_left (way_at logs c b) (way_at ways c b) (m ∷ rest) (sym (by.takes c off) ∙ (is ∙ append_assoc (way_at logs c b) (m ∷ []) rest))

-- ---- one event

-- what was taken so far is a beginning of what there was
abbrev Begins : ℕ → List (List (List Message)) → List (List (List Message)) → Type 0
Begins b first logs = (c : ℕ) → b ≢ c → (rest : List Message) × (way_at first c b ≡ way_at logs c b ++ rest)

-- the event happens in the core, too
record Goes (b : ℕ) (first : List (List (List Message))) (l : State) (ways : List (List (List Message))) (e : Event) (l' : State) : Type 0 where
  pub ways' : List (List (List Message))
  pub happens : Happens (with_ways l ways) e (with_ways l' ways')
  pub log : IsSquare l'.blocks l'.ways
  pub beside : IsPassed b first l'.ways ways'

accept_goes : (b c : ℕ) (first : List (List (List Message))) (l : State) (ways : List (List (List Message))) (m : Message) → IsSound (with_ways l ways) → IsSquare l.blocks l.ways
    → IsPassed b first l.ways ways → MayTake l b c m → MayAccept l (m ∷ []) → Begins b first (after_accept l c b (taken_with l b c m)).ways
    → Goes b first l ways (Accept c b) (after_accept l c b (taken_with l b c m))
accept_goes b c first l ways (Parcel x a d) sound sl by me may begins =
    let n = l.blocks in
    let m : Message = Parcel x a d in
    let o : IsBetween l.net n x c b = me.addressed in
    let off : b ≢ c = λ e. apart l.net n x c b o (sym e) in
    let range = in_range (with_ways l ways) x c b sound.sized o in
    let lb = range.1 in
    let lc = range.0 in
    let sw = sound.sized.ways in
    let logs1 = put_message l.ways c b m in
    let sl1 = square_put n l.ways c b (way_at l.ways c b ++ m ∷ []) sl in
    let begin = begins c off in
    let taken = put_other n logs1 b c (Accepted x a) c b sl1 lb (λ e f. off (sym e)) ∙ put_here n l.ways c b m sl lc lb in
    let front = front_is b first l.ways ways c m begin.0 off by (begin.1 ∙ ap (λ (r : List Message). r ++ begin.0) taken) in
    let ways1 = put_way ways c b begin.0 in
    let sw1 = square_put n ways c b begin.0 sw in
    record {
      ways' = put_message ways1 b c (Accepted x a);
      happens = record { enabled = ((lc, lb), rw front may); effect = sym (ap (after_accept (with_ways l ways) c b) front) };
      log = square_put n logs1 b c (way_at logs1 b c ++ Accepted x a ∷ []) sl1;
      beside = beside_put b n first logs1 ways1 c (Accepted x a) sl1 sw1 lb lc off (beside_take b n first l.ways ways c m begin.0 sl sw lb lc off front by);
    }
accept_goes b c first l ways (Accepted x a) sound sl by me may begins = absurd may
accept_goes b c first l ways (Refused x a d told) sound sl by me may begins = absurd may

refuse_goes : (b c : ℕ) (first : List (List (List Message))) (l : State) (ways : List (List (List Message))) (m : Message) → IsSound (with_ways l ways) → IsSquare l.blocks l.ways
    → IsPassed b first l.ways ways → MayTake l b c m → MayRefuse l (m ∷ []) → Begins b first (after_refuse l c b (taken_with l b c m)).ways
    → Goes b first l ways (Refuse c b) (after_refuse l c b (taken_with l b c m))
refuse_goes b c first l ways (Parcel x a d) sound sl by me may begins =
    let n = l.blocks in
    let m : Message = Parcel x a d in
    let reply : Message = Refused x a d (label_of l (far l.net x)) in
    let o : IsBetween l.net n x c b = me.addressed in
    let off : b ≢ c = λ e. apart l.net n x c b o (sym e) in
    let range = in_range (with_ways l ways) x c b sound.sized o in
    let lb = range.1 in
    let lc = range.0 in
    let sw = sound.sized.ways in
    let logs1 = put_message l.ways c b m in
    let sl1 = square_put n l.ways c b (way_at l.ways c b ++ m ∷ []) sl in
    let begin = begins c off in
    let taken = put_other n logs1 b c reply c b sl1 lb (λ e f. off (sym e)) ∙ put_here n l.ways c b m sl lc lb in
    let front = front_is b first l.ways ways c m begin.0 off by (begin.1 ∙ ap (λ (r : List Message). r ++ begin.0) taken) in
    let ways1 = put_way ways c b begin.0 in
    let sw1 = square_put n ways c b begin.0 sw in
    record {
      ways' = put_message ways1 b c reply;
      happens = record { enabled = ((lc, lb), rw front may); effect = sym (ap (after_refuse (with_ways l ways) c b) front) };
      log = square_put n logs1 b c (way_at logs1 b c ++ reply ∷ []) sl1;
      beside = beside_put b n first logs1 ways1 c reply sl1 sw1 lb lc off (beside_take b n first l.ways ways c m begin.0 sl sw lb lc off front by);
    }
refuse_goes b c first l ways (Accepted x a) sound sl by me may begins = absurd may
refuse_goes b c first l ways (Refused x a d told) sound sl by me may begins = absurd may

settle_goes : (b c : ℕ) (first : List (List (List Message))) (l : State) (ways : List (List (List Message))) (m : Message) → IsSound (with_ways l ways) → IsSquare l.blocks l.ways
    → IsPassed b first l.ways ways → MayTake l b c m → FitsFlight l m → Begins b first (after_settle l c b (taken_with l b c m)).ways
    → Goes b first l ways (Settle c b) (after_settle l c b (taken_with l b c m))
settle_goes b c first l ways (Parcel x a d) sound sl by me fits begins = absurd fits
settle_goes b c first l ways (Accepted x a) sound sl by me fits begins =
    let n = l.blocks in
    let m : Message = Accepted x a in
    let o : IsBetween l.net n x b c = me.addressed in
    let off : b ≢ c = apart l.net n x b c o in
    let range = in_range (with_ways l ways) x b c sound.sized o in
    let begin = begins c off in
    let front = front_is b first l.ways ways c m begin.0 off by (begin.1 ∙ ap (λ (r : List Message). r ++ begin.0) (put_here n l.ways c b m sl range.1 range.0)) in
    record {
      ways' = put_way ways c b begin.0;
      happens = record { enabled = ((range.1, range.0), rw front tt); effect = sym (ap (after_settle (with_ways l ways) c b) front) };
      log = square_put n l.ways c b (way_at l.ways c b ++ m ∷ []) sl;
      beside = beside_take b n first l.ways ways c m begin.0 sl sound.sized.ways range.0 range.1 off front by;
    }
settle_goes b c first l ways (Refused x a d told) sound sl by me fits begins =
    let n = l.blocks in
    let m : Message = Refused x a d told in
    let o : IsBetween l.net n x b c = me.addressed in
    let off : b ≢ c = apart l.net n x b c o in
    let range = in_range (with_ways l ways) x b c sound.sized o in
    let begin = begins c off in
    let front = front_is b first l.ways ways c m begin.0 off by (begin.1 ∙ ap (λ (r : List Message). r ++ begin.0) (put_here n l.ways c b m sl range.1 range.0)) in
    record {
      ways' = put_way ways c b begin.0;
      happens = record { enabled = ((range.1, range.0), rw front tt); effect = sym (ap (after_settle (with_ways l ways) c b) front) };
      log = square_put n l.ways c b (way_at l.ways c b ++ m ∷ []) sl;
      beside = beside_take b n first l.ways ways c m begin.0 sl sound.sized.ways range.0 range.1 off front by;
    }

-- the block named in the event is b
named_goes : (b to : ℕ) (E : ℕ → Event) (first : List (List (List Message))) (l : State) (ways : List (List (List Message))) (u l' : State) → to ≡ b → l' ≡ u
    → Begins b first l'.ways → (Begins b first u.ways → Goes b first l ways (E b) u) → Goes b first l ways (E to) l'
named_goes b to E first l ways u l' e is begins goes =
    let at_u = subst (λ (q : State). Begins b first q.ways → Goes b first l ways (E b) q) (sym is) goes begins in
    subst (λ q. Goes b first l ways (E q) l') (sym e) at_u

pub active_same : (l : State) (ways : List (List (List Message))) (v : ℕ) → IsActive l v → IsActive (with_ways l ways) v
active_same l ways v on = record { node = on.node; excess = on.excess; below = on.below }

does_goes : (b : ℕ) (first : List (List (List Message))) (l : State) (ways : List (List (List Message))) (e : Event) (l' : State) → IsSound (with_ways l ways) → IsSquare l.blocks l.ways
    → IsPassed b first l.ways ways → DoesOwn b l e l' → Begins b first l'.ways → Goes b first l ways e l'
does_goes b first l ways (PushInner x) l' sound sl by does begins =
    named_goes b b (λ q. PushInner x) first l ways (effect l (PushInner x)) l' refl does.2 begins
    (λ h. record { ways' = ways; happens = record { enabled = (does.1.0, does.1.1, active_same l ways _ does.1.2, does.1.3, does.1.4); effect = refl }; log = sl; beside = by })
does_goes b first l ways (PushSink v) l' sound sl by does begins =
    named_goes b b (λ q. PushSink v) first l ways (effect l (PushSink v)) l' refl does.2 begins
    (λ h. record { ways' = ways; happens = record { enabled = (active_same l ways _ does.1.0, does.1.1, does.1.2); effect = refl }; log = sl; beside = by })
does_goes b first l ways (Relabel v) l' sound sl by does begins =
    named_goes b b (λ q. Relabel v) first l ways (effect l (Relabel v)) l' refl does.2 begins
    (λ h. record { ways' = ways; happens = record { enabled = (active_same l ways _ does.1.0, does.1.1); effect = refl }; log = sl; beside = by })
does_goes b first l ways (Send x) l' sound sl by does begins =
    let on = does.1 in
    let n = l.blocks in
    let c = far_block l.net n x in
    let o : IsBetween l.net n x (near_block l.net n x) c = record { direction = on.0; border = on.1; near = refl; far = refl } in
    let range = in_range (with_ways l ways) x (near_block l.net n x) c sound.sized o in
    let off : near_block l.net n x ≢ c = apart l.net n x (near_block l.net n x) c o in
    let by' : IsPassed (near_block l.net n x) first l.ways ways = rw does.0 by in
    named_goes b b (λ q. Send x) first l ways (effect l (Send x)) l' refl does.2 begins
    (λ h. record {
      ways' = (effect (with_ways l ways) (Send x)).ways;
      happens = record { enabled = (on.0, on.1, active_same l ways _ on.2, on.3, on.4, on.5); effect = refl };
      log = square_put n l.ways (near_block l.net n x) c _ sl;
      beside = rw (sym does.0) (beside_put (near_block l.net n x) n first l.ways ways c _ sl sound.sized.ways range.0 range.1 off by');
    })
does_goes b first l ways (Accept c to) l' sound sl by does begins =
    named_goes b to (λ q. Accept c q) first l ways (after_accept l c b (taken_with l b c does.1)) l' does.0 does.5 begins (λ h. accept_goes b c first l ways does.1 sound sl by does.2 does.3 h)
does_goes b first l ways (Refuse c to) l' sound sl by does begins =
    named_goes b to (λ q. Refuse c q) first l ways (after_refuse l c b (taken_with l b c does.1)) l' does.0 does.4 begins (λ h. refuse_goes b c first l ways does.1 sound sl by does.2 does.3 h)
does_goes b first l ways (Settle c to) l' sound sl by does begins =
    named_goes b to (λ q. Settle c q) first l ways (after_settle l c b (taken_with l b c does.1)) l' does.0 does.4 begins (λ h. settle_goes b c first l ways does.1 sound sl by does.2 does.3 h)
does_goes b first l ways RaiseAll l' sound sl by does begins = absurd does.0

-- ---- a history

-- what was taken only grows
grows_any : (ways : List (List (List Message))) (i j : ℕ) (m : Message) (p q : ℕ) → (more : List Message) × (way_at (put_message ways i j m) p q ≡ way_at ways p q ++ more)
grows_any ways i j m p q =
    let row = get_or ways i [] in
    let way = get_or row j [] in
    let row' = set row j (way ++ m ∷ []) in
    elim (cases_eq p i) [
      | inr ne ↦ ([], ap (λ (r : List (List Message)). get_or r q []) (get_or-set_other ways i p row' [] ne) ∙ sym (append-nil (way_at ways p q)))
      | inl e ↦ elim (cases_lt i (length ways)) [
        | inr past ↦ ([], ap (λ w. way_at w p q) (set_past ways i row' past) ∙ sym (append-nil (way_at ways p q)))
        | inl li ↦
            let here : way_at (put_message ways i j m) p q ≡ get_or row' q [] = rw e (ap (λ (r : List (List Message)). get_or r q []) (get_or-set_same ways i row' [] li)) in
            elim (cases_eq q j) [
              | inr no' ↦ ([], here ∙ (get_or-set_other row j q (way ++ m ∷ []) [] no' ∙ (ap (λ k. way_at ways k q) (sym e) ∙ sym (append-nil (way_at ways p q)))))
              | inl f ↦ elim (cases_lt j (length row)) [
                | inl lj ↦ (m ∷ [], here ∙ rw (e, f) (get_or-set_same row j (way ++ m ∷ []) [] lj))
                | inr past ↦ ([], here ∙ (ap (λ (r : List (List Message)). get_or r q []) (set_past row j (way ++ m ∷ []) past) ∙ (ap (λ k. way_at ways k q) (sym e) ∙ sym (append-nil (way_at ways p q)))))
              ]
            ]
      ]
    ]

-- one way is a beginning of the other
abbrev Grown : List (List (List Message)) → List (List (List Message)) → Type 0
Grown ways ways' = (p q : ℕ) → (more : List Message) × (way_at ways' p q ≡ way_at ways p q ++ more)

grown_same : (ways : List (List (List Message))) → Grown ways ways
grown_same ways p q = ([], sym (append-nil (way_at ways p q)))

grown_then : (a b c : List (List (List Message))) → Grown a b → Grown b c → Grown a c
grown_then a b c g h p q =
    let x = g p q in
    let y = h p q in
    (x.0 ++ y.0, y.1 ∙ (ap (λ (r : List Message). r ++ y.0) x.1 ∙ append_assoc (way_at a p q) x.0 y.0))

grown_two : (ways : List (List (List Message))) (i j : ℕ) (m : Message) (i' j' : ℕ) (m' : Message) → Grown ways (put_message (put_message ways i j m) i' j' m')
grown_two ways i j m i' j' m' = grown_then ways (put_message ways i j m) (put_message (put_message ways i j m) i' j' m') (grows_any ways i j m) (grows_any (put_message ways i j m) i' j' m')

accept_grows : (b c : ℕ) (l : State) (m : Message) → MayAccept l (m ∷ []) → Grown l.ways (after_accept l c b (taken_with l b c m)).ways
accept_grows b c l (Parcel x a d) may = grown_two l.ways c b (Parcel x a d) b c (Accepted x a)
accept_grows b c l (Accepted x a) may = absurd may
accept_grows b c l (Refused x a d told) may = absurd may

refuse_grows : (b c : ℕ) (l : State) (m : Message) → MayRefuse l (m ∷ []) → Grown l.ways (after_refuse l c b (taken_with l b c m)).ways
refuse_grows b c l (Parcel x a d) may = grown_two l.ways c b (Parcel x a d) b c (Refused x a d (label_of l (far l.net x)))
refuse_grows b c l (Accepted x a) may = absurd may
refuse_grows b c l (Refused x a d told) may = absurd may

settle_grows : (b c : ℕ) (l : State) (m : Message) → FitsFlight l m → Grown l.ways (after_settle l c b (taken_with l b c m)).ways
settle_grows b c l (Parcel x a d) fits = absurd fits
settle_grows b c l (Accepted x a) fits = grows_any l.ways c b (Accepted x a)
settle_grows b c l (Refused x a d told) fits = grows_any l.ways c b (Refused x a d told)

does_grows : (b : ℕ) (l : State) (e : Event) (l' : State) → DoesOwn b l e l' → Grown l.ways l'.ways
does_grows b l (PushInner x) l' does = subst (λ (q : State). Grown l.ways q.ways) (sym does.2) (grown_same l.ways)
does_grows b l (PushSink v) l' does = subst (λ (q : State). Grown l.ways q.ways) (sym does.2) (grown_same l.ways)
does_grows b l (Relabel v) l' does = subst (λ (q : State). Grown l.ways q.ways) (sym does.2) (grown_same l.ways)
does_grows b l (Send x) l' does = subst (λ (q : State). Grown l.ways q.ways) (sym does.2) (grows_any l.ways (near_block l.net l.blocks x) (far_block l.net l.blocks x) _)
does_grows b l (Accept c to) l' does = subst (λ (q : State). Grown l.ways q.ways) (sym does.5) (accept_grows b c l does.1 does.3)
does_grows b l (Refuse c to) l' does = subst (λ (q : State). Grown l.ways q.ways) (sym does.4) (refuse_grows b c l does.1 does.3)
does_grows b l (Settle c to) l' does = subst (λ (q : State). Grown l.ways q.ways) (sym does.4) (settle_grows b c l does.1 does.3)
does_grows b l RaiseAll l' does = absurd does.0

history_grows : (b : ℕ) (h : List Event) (l t : State) → IsHistory b l h t → Grown l.ways t.ways
history_grows b [] l t led = subst (λ (q : State). Grown l.ways q.ways) (sym led) (grown_same l.ways)
history_grows b (e ∷ h) l t led = grown_then l.ways led.0.ways t.ways (does_grows b l e led.0 led.1) (history_grows b h led.0 t led.2)

history_goes : (b : ℕ) (first : List (List (List Message))) (h : List Event) (l : State) (ways : List (List (List Message))) (t : State) → IsSound (with_ways l ways) → IsSquare l.blocks l.ways
    → IsPassed b first l.ways ways → IsHistory b l h t → Begins b first t.ways
    → (after : List (List (List Message))) × IsRunOfEvents (with_ways l ways) h (with_ways t after) × IsPassed b first t.ways after
history_goes b first [] l ways t sound sl by led begins =
    (ways, ap (λ (q : State). with_ways q ways) led, subst (λ (q : State). IsPassed b first q.ways ways) (sym led) by)
history_goes b first (e ∷ h) l ways t sound sl by led begins =
    let mid = led.0 in
    let grown = history_grows b h mid t led.2 in
    let begins' : Begins b first mid.ways = λ c off.
    let rest = begins c off in
    let more = grown c b in
    (more.0 ++ rest.0, rest.1 ∙ (ap (λ (r : List Message). r ++ rest.0) more.1 ∙ append_assoc (way_at mid.ways c b) more.0 rest.0)) in
    let goes = does_goes b first l ways e mid sound sl by led.1 begins' in
    let sound' = kept (with_ways l ways) (with_ways mid goes.ways') e sound goes.happens in
    let rest = history_goes b first h mid goes.ways' t sound' goes.log goes.beside led.2 begins in
    (rest.0, (with_ways mid goes.ways', goes.happens, rest.1), rest.2)

pub no_way : (n i j : ℕ) → way_at (no_messages n) i j ≡ []
no_way n i j = elim (cases_lt i n) [
  | inr past ↦ ap (λ (r : List (List Message)). get_or r j []) (get_or_past (no_messages n) i [] (omega (arith, past, length-replicate n (replicate {A = List Message} n []))))
  | inl li ↦
      ap (λ (r : List (List Message)). get_or r j []) (get_or-replicate n i (replicate n []) [] li)
      ∙ elim (cases_lt j n) [
        | inl lj ↦ get_or-replicate n j [] [] lj
        | inr past ↦ get_or_past (replicate {A = List Message} n []) j [] (omega (arith, past, length-replicate {A = List Message} n []))
      ]
]

-- on one thread: a history of one block, which took the fronts of the ways, is a run of the core
pub history_runs : (b : ℕ) (s t : State) (h : List Event) (left : ℕ → List Message) → IsSound s → IsHistory b (with_ways s (no_messages s.blocks)) h t
    → ((c : ℕ) → b ≢ c → way_at s.ways c b ≡ way_at t.ways c b ++ left c)
    → (ways : List (List (List Message))) × IsRunOfEvents s h (with_ways t ways) × IsPassed b s.ways t.ways ways
history_runs b s t h left sound led fronts =
    let n = s.blocks in
    let start : IsPassed b s.ways (no_messages n) s.ways = record {
      puts = λ c off. sym (append-nil (way_at s.ways b c)) ∙ ap (λ (r : List Message). way_at s.ways b c ++ r) (sym (no_way n b c));
      takes = λ c off. ap (λ (r : List Message). r ++ way_at s.ways c b) (sym (no_way n c b));
      others = λ a c offa offc. refl;
      own = refl;
      square = λ k sk. sk;
    } in
    history_goes b s.ways h (with_ways s (no_messages n)) s.ways t sound (opened_square s.net n) start led (λ c off. (left c, fronts c off))
