-- A turn over the ways of a sound state is a run of the core.
use Rattle.std.proofs.Common.{◌≡◌, ◌≢◌, ℕ, ◌+◌, ◌<◌, ◌≤◌, Bool, cond, set, List, [], ◌∷◌, ◌++◌, length, get_or, replicate, refl, sym, ◌∙◌, ap, subst, inl, inr, arith}
use Rattle.std.proofs.lemmas.Bool.{cases_eq, cases_lt, ne_eqb}
use Rattle.std.proofs.lemmas.List.{length-set, length-replicate, get_or-replicate, get_or_past, append_cancel_left, ext_get_or}
use Rattle.block_events.specs.declared.message.Message.{Message}
use Rattle.block_events.specs.declared.event.Event.{Event}
use Rattle.block_events.specs.declared.event.Event.TheVariants.{PushInner, PushSink, Relabel, Send, Accept, Refuse, Settle, RaiseAll}
use Rattle.block_events.specs.States.{State, way_at}
use Rattle.block_events.specs.Events.{steps}
use Rattle.block_events.specs.Soundness.{IsSound, IsSquare}
use Rattle.block_events.proofs.Kept.{run_kept}
use Rattle.block_events.proofs.Lists.{run_lowers}
use Rattle.block_events.specs.Workers.{DoesOwn, IsHistory}
use Rattle.block_events.specs.RoundLaws.{no_messages}
use Rattle.block_events.proofs.Running.{history_runs}
use Rattle.block_net.specs.Whole.{Whole, table}
use Rattle.block_net.proofs.Tables.{length_table, table_at, table_is}
use Rattle.block_discharge.specs.Steps.{TurnView, DoesMany}
use Rattle.cut_in_blocks.specs.Seats.{IsSeated, log_at, logs_of, state_with}
use Rattle.cut_in_blocks.specs.TurnEvents.{IsTurned, IsTurnRun}
use Rattle.cut_in_blocks.proofs.Logs.{own_row, own_column, other_row}
use Rattle.cut_in_blocks.proofs.BlockHistories.{turn_is_history}

-- ---- the logs

pub put_log : (n b c : ℕ) (sent taken : ℕ → List Message) → b < n → c < n → way_at (logs_of n b sent taken) b c ≡ sent c
put_log n b c sent taken lb lc =
    ap (λ (r : List (List Message)). get_or r c []) (table_at n (λ i. table n (log_at b sent taken i)) b [] lb)
    ∙ (table_at n (log_at b sent taken b) c [] lc ∙ own_row b sent taken c)

pub took_log : (n b c : ℕ) (sent taken : ℕ → List Message) → b < n → c < n → (c ≡ b → ⊥) → way_at (logs_of n b sent taken) c b ≡ taken c
took_log n b c sent taken lb lc off =
    ap (λ (r : List (List Message)). get_or r b []) (table_at n (λ i. table n (log_at b sent taken i)) c [] lc)
    ∙ (table_at n (log_at b sent taken c) b [] lb ∙ own_column b sent taken c off)

past_log : (n b c : ℕ) (sent taken : ℕ → List Message) → n ≤ c → way_at (logs_of n b sent taken) c b ≡ []
past_log n b c sent taken past =
    ap (λ (r : List (List Message)). get_or r b []) (get_or_past (logs_of n b sent taken) c [] (omega (arith, past, length_table n (λ i. table n (log_at b sent taken i)))))

none_at : (b : ℕ) (sent taken : ℕ → List Message) (i j : ℕ) → ((c : ℕ) → (sent c ≡ []) × (taken c ≡ [])) → log_at b sent taken i j ≡ []
none_at b sent taken i j none = elim (cases_eq i b) [
  | inl e ↦ rw e (own_row b sent taken j ∙ (none j).0)
  | inr off ↦ elim (cases_eq j b) [
    | inl f ↦ rw f (own_column b sent taken i off ∙ (none i).1)
    | inr beside ↦ other_row b sent taken i j off ∙ ap (λ (t : Bool). cond t (taken i) []) (ne_eqb j b beside)
  ]
]

-- a block that put and took nothing
no_logs : (n b : ℕ) (sent taken : ℕ → List Message) → ((c : ℕ) → (sent c ≡ []) × (taken c ≡ [])) → logs_of n b sent taken ≡ no_messages n
no_logs n b sent taken none =
    table_is n (λ i. table n (log_at b sent taken i)) (no_messages n) (length-replicate n (replicate {A = List Message} n [])) (λ i d li.
    get_or-replicate n i (replicate {A = List Message} n []) d li
    ∙ sym (table_is n (log_at b sent taken i) (replicate n []) (length-replicate {A = List Message} n []) (λ j e lj.
    get_or-replicate {A = List Message} n j [] e lj ∙ sym (none_at b sent taken i j none))))

-- ---- the count

-- no event of a history raises all labels
one_step : (b : ℕ) (s t : State) (e : Event) (es : List Event) → DoesOwn b s e t → steps (e ∷ es) ≡ 1 + steps es
one_step b s t (PushInner x) es does = refl
one_step b s t (PushSink v) es does = refl
one_step b s t (Relabel v) es does = refl
one_step b s t (Send x) es does = refl
one_step b s t (Accept c to) es does = refl
one_step b s t (Refuse c to) es does = refl
one_step b s t (Settle c to) es does = refl
one_step b s t RaiseAll es does = absurd does.0

each_step : (b : ℕ) (es : List Event) (s t : State) → IsHistory b s es t → steps es ≡ length es
each_step b [] s t led = refl
each_step b (e ∷ es) s t led = omega (arith, one_step b s led.0 e es led.1, each_step b es led.0 t led.2)

-- ---- the law

-- what is left on a way of which so much was taken
abbrev Left : ℕ → List (List (List Message)) → List (List (List Message)) → ℕ → Type 0
Left b first logs c = (rest : List Message) × (b ≢ c → way_at first c b ≡ way_at logs c b ++ rest)

pub turn_is_run : (w : Whole) (b got n : ℕ) (old new : TurnView) (left : ℕ → List Message) (ways : List (List (List Message)))
    → IsSeated w b old.block → IsSound (state_with w b old.block ways got)
    → ((c : ℕ) → (old.sent c ≡ []) × (old.taken c ≡ [])) → DoesMany old n new
    → ((c : ℕ) → c < length w.blocks → b ≢ c → way_at ways c b ≡ new.taken c ++ left c)
    → IsTurnRun w b got n old new left ways
turn_is_run w b got n old new left ways seat sound none many fronts =
    let size = length w.blocks in
    let s = state_with w b old.block ways got in
    let led = turn_is_history w b got n old new seat many in
    let logs = logs_of size b new.sent new.taken in
    let t = state_with w b new.block logs led.got' in
    let same : length (set w.blocks b old.block) ≡ size = length-set w.blocks b old.block in
    let start : logs_of size b old.sent old.taken ≡ no_messages s.blocks = no_logs size b old.sent old.taken none ∙ ap no_messages (sym same) in
    let history : IsHistory b (state_with w b old.block (no_messages s.blocks) got) led.events t =
    subst (λ (q : List (List (List Message))). IsHistory b (state_with w b old.block q got) led.events t) start led.history in
    let lb : b < size = seat.block in
    let rest : (c : ℕ) → Left b ways logs c = λ c. elim (cases_lt c size) [
      | inl lc ↦ (left c, λ off. fronts c lc off ∙ ap (λ (r : List Message). r ++ left c) (sym (took_log size b c new.sent new.taken lb lc (λ e. off (sym e)))))
      | inr past ↦ (way_at ways c b, λ off. ap (λ (r : List Message). r ++ way_at ways c b) (sym (past_log size b c new.sent new.taken past)))
    ] in
    let runs = history_runs b s t led.events (λ c. (rest c).0) sound history (λ c off. (rest c).1 off) in
    let passed = runs.2 in
    let sound' = run_kept led.events s (state_with w b new.block runs.0 led.got') sound runs.1 in
    let falls = run_lowers led.events s (state_with w b new.block runs.0 led.got') sound runs.1 in
    record {
      events = led.events;
      number = led.number;
      got' = led.got';
      ways' = runs.0;
      run = runs.1;
      turned = record {
        puts = λ c lc off. passed.puts c off ∙ ap (λ (r : List Message). way_at ways b c ++ r) (put_log size b c new.sent new.taken lb lc);
        takes = λ c lc off.
            append_cancel_left (new.taken c) (way_at runs.0 c b) (left c)
            (ap (λ (r : List Message). r ++ way_at runs.0 c b) (sym (took_log size b c new.sent new.taken lb lc (λ e. off (sym e))))
            ∙ (sym (passed.takes c off) ∙ fronts c lc off));
        others = passed.others;
        own = passed.own;
        square = passed.square size (subst (λ k. IsSquare k ways) same sound.sized.ways);
      };
      seated = led.seated;
      sound = sound';
      lower = omega (arith, falls, each_step b led.events (state_with w b old.block (no_messages s.blocks) got) t history, led.number);
    }

-- ---- ways that are known

-- two tables of ways, each of whose ways is the same
pub same_ways : (n : ℕ) (a b : List (List (List Message))) → IsSquare n a → IsSquare n b
    → ((i j : ℕ) → i < n → j < n → way_at a i j ≡ way_at b i j) → a ≡ b
same_ways n a b sa sb each =
    ext_get_or [] a b (sa.rows ∙ sym sb.rows) (λ i li.
    let l : i < n = omega (arith, li, sa.rows) in
    ext_get_or [] (get_or a i []) (get_or b i []) (sa.columns i l ∙ sym (sb.columns i l)) (λ j lj. each i j l (omega (arith, lj, sa.columns i l))))

-- what a turn makes of the ways is known
pub turned_ways : (n b : ℕ) (sent left : ℕ → List Message) (first one two : List (List (List Message)))
    → IsTurned n b sent left first one → IsTurned n b sent left first two → one ≡ two
turned_ways n b sent left first one two p q =
    same_ways n one two p.square q.square (λ i j li lj. elim (cases_eq b i) [
      | inl e ↦ elim (cases_eq b j) [
        | inl f ↦ rw (sym e, sym f) (p.own ∙ sym q.own)
        | inr off ↦ rw (sym e) (p.puts j lj off ∙ sym (q.puts j lj off))
      ]
      | inr away ↦ elim (cases_eq b j) [
        | inl f ↦ rw (sym f) (p.takes i li away ∙ sym (q.takes i li away))
        | inr off ↦ p.others i j away off ∙ sym (q.others i j away off)
      ]
    ])
