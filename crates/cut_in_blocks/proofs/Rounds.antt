-- Blocks that came back are a round.
use Rattle.std.proofs.Common.{◌≡◌, ℕ, ◌+◌, ◌-◌, ◌<◌, ◌≤◌, ◌⊎◌, Bool, cond, eqb, List, [], ◌++◌, length, get_or, refl, sym, ◌∙◌, ap, subst, inl, inr, arith}
use Rattle.std.proofs.lemmas.Bool.{cases_eq, cases_lt, eq-eqb, ne_eqb}
use Rattle.std.proofs.lemmas.List.{append-nil}
use Rattle.sums.specs.Sums.{sum_below}
use Rattle.block_events.specs.declared.event.Event.{Event}
use Rattle.block_events.specs.declared.message.Message.{Message}
use Rattle.block_events.specs.States.{State, way_at}
use Rattle.block_events.specs.Soundness.{IsSound}
use Rattle.block_events.specs.Workers.{IsHistory}
use Rattle.block_events.specs.Rounds.{RoundOf}
use Rattle.block_events.proofs.Gathering.{gathered}
use Rattle.block_events.proofs.Keeping.{round_kept}
use Rattle.block_net.specs.Views.{CellsView}
use Rattle.block_net.specs.Whole.{Whole, table, block_at, with_blocks}
use Rattle.block_net.proofs.Tables.{table_at}
use Rattle.block_events.specs.Effects.{state_of}
use Rattle.net_in_blocks.specs.Views.{IsLaid, blocks_in}
use Rattle.block_discharge.specs.Steps.{TurnView}
use Rattle.cut_in_blocks.specs.Seats.{log_at, logs_of, shown_by}
use Rattle.cut_in_blocks.specs.TurnEvents.{IsLed}
use Rattle.cut_in_blocks.proofs.BlockHistories.{turn_is_history}
use Rattle.cut_in_blocks.proofs.Laid.{seated}
use Rattle.cut_in_blocks.specs.Rounds.{AreBack, IsRoundOfTurns, fresh, quiet_state, rooms_lack, state_after}
use Rattle.cut_in_blocks.proofs.Starting.{shows_all, is_quiet}
use Rattle.cut_in_blocks.proofs.Together.{laid_all}
use Rattle.cut_in_blocks.proofs.Joined.{blocks_join}

-- ---- the ways, told by the logs of both ends

log_read : (n b : ℕ) (sent taken : ℕ → List Message) (i j : ℕ) → i < n → j < n → way_at (logs_of n b sent taken) i j ≡ log_at b sent taken i j
log_read n b sent taken i j li lj =
    ap (λ (r : List (List Message)). get_or r j []) (table_at n (λ k. table n (log_at b sent taken k)) i [] li)
    ∙ table_at n (log_at b sent taken i) j [] lj

sent_read : (n b c : ℕ) (sent taken : ℕ → List Message) → b < n → c < n → way_at (logs_of n b sent taken) b c ≡ sent c
sent_read n b c sent taken lb lc =
    log_read n b sent taken b c lb lc ∙ ap (λ (t : Bool). cond t (sent c) (cond (eqb c b) (taken b) [])) (eq-eqb b b refl)

taken_read : (n b c : ℕ) (sent taken : ℕ → List Message) → b < n → c < n → (b ≡ c → ⊥) → way_at (logs_of n c sent taken) b c ≡ taken b
taken_read n b c sent taken lb lc apart =
    log_read n c sent taken b c lb lc
    ∙ (ap (λ (t : Bool). cond t (sent c) (cond (eqb c c) (taken b) [])) (ne_eqb b c apart)
    ∙ ap (λ (t : Bool). cond t (taken b) []) (eq-eqb c c refl))

-- ---- what each block came to

-- a number for each
picked : (n : ℕ) (P : ℕ → ℕ → Type 0) → ((b : ℕ) → b < n → (a : ℕ) × P b a) → (b : ℕ) → (b < n) ⊎ (n ≤ b) → ℕ
picked n P each b (inl l) = (each b l).0
picked n P each b (inr past) = 0

picked_is : (n : ℕ) (P : ℕ → ℕ → Type 0) (each : (b : ℕ) → b < n → (a : ℕ) × P b a) (b : ℕ) (t : (b < n) ⊎ (n ≤ b)) → b < n → P b (picked n P each b t)
unfolding picked
picked_is n P each b (inl l) lb = (each b l).1
picked_is n P each b (inr past) lb = absurd (omega (arith, past, lb))

module _ (w : Whole) (got : ℕ) (blocks : List CellsView) (left : List (List (List Message))) (laid : IsLaid w) (sound : IsSound (quiet_state w got)) (back : AreBack w got blocks left) where
  -- the block, with what it put and took
  abbrev came_to : ℕ → TurnView
  came_to b = record { block = block_at (with_blocks w blocks) b; sent = back.sent b; taken = back.taken b }

  led : (b : ℕ) → b < length w.blocks → IsLed w b got (back.steps b) (fresh (block_at w b)) (came_to b)
  led b lb = turn_is_history w b got (back.steps b) (fresh (block_at w b)) (came_to b) (seated w b laid lb) (back.does b lb)

  -- so many events led there, and the sink got so much by then
  record HasCome (b got' : ℕ) : Type 0 where
    pub events : List Event
    pub number : length events ≡ back.steps b
    pub history : IsHistory b (quiet_state w got) events (shown_by w b (came_to b) got')

  each : (b : ℕ) → b < length w.blocks → (got' : ℕ) × HasCome b got'
  each b lb =
      let is = led b lb in (
        is.got',
        record {
          events = is.events;
          number = is.number;
          history = subst (λ (q : State). IsHistory b q is.events (shown_by w b (came_to b) is.got')) (shows_all w b got) is.history;
        },
      )

  gots : ℕ → ℕ
  gots b = picked (length w.blocks) HasCome each b (cases_lt b (length w.blocks))

  come : (b : ℕ) → b < length w.blocks → HasCome b (gots b)
  unfolding gots
  come b lb = picked_is (length w.blocks) HasCome each b (cases_lt b (length w.blocks)) lb

  abbrev Came : ℕ → List Event → Type 0
  Came b h = (length h ≡ back.steps b) × IsHistory b (quiet_state w got) h (shown_by w b (came_to b) (gots b))

  histories : (list : List (List Event)) × (length list ≡ length w.blocks) × ((b : ℕ) → b < length w.blocks → Came b (get_or list b []))
  histories = gathered (length w.blocks) Came (λ b lb. let h = come b lb in (h.events, (h.number, h.history)))

  -- what one block put for another is what the other took, followed by what is left
  joins : (b c : ℕ) → b < length w.blocks → c < length w.blocks
      → way_at (logs_of (length w.blocks) b (back.sent b) (back.taken b)) b c ≡ way_at (logs_of (length w.blocks) c (back.sent c) (back.taken c)) b c ++ way_at left b c
  joins b c lb lc =
      let n = length w.blocks in
      let way = λ (p : ℕ) (q : ℕ). way_at (logs_of n q (back.sent q) (back.taken q)) p c in
      elim (cases_eq b c) [
        | inl same ↦
            let none : way_at left b c ≡ [] = ap (way_at left b) (sym same) ∙ back.rest.none b lb in
            ap (way b) same ∙ (sym (append-nil (way b c)) ∙ ap (λ (r : List Message). way b c ++ r) (sym none))
        | inr apart ↦
            sent_read n b c (back.sent b) (back.taken b) lb lc
            ∙ (back.rest.ways b c lb lc apart
            ∙ ap (λ (r : List Message). r ++ way_at left b c) (sym (taken_read n b c (back.sent c) (back.taken c) lb lc apart)))
      ]

  -- what the sink got is counted by the blocks
  abbrev counted : State
  counted = state_of (blocks_in (with_blocks w blocks)) left (got + sum_below (length w.blocks) (λ b. gots b - got))

  round : RoundOf (quiet_state w got) counted
  round = record {
    histories = histories.0;
    ends = λ b. shown_by w b (came_to b) (gots b);
    count = histories.1;
    led = λ b lb. (histories.2 b lb).1;
    joined = blocks_join w blocks back.many laid got (λ b. logs_of (length w.blocks) b (back.sent b) (back.taken b)) gots left;
    square = back.rest.square;
    ways = joins;
    busy = λ b e lb may none. omega (arith, ap length none, (histories.2 b lb).0, back.busy b e lb may);
  }

  -- it is what the rooms lack
  got_is : counted.got ≡ rooms_lack (with_blocks w blocks)
  got_is = omega (arith, (round_kept (quiet_state w got) counted sound (is_quiet w got) round).flow.got)

  -- the round to a state where the sink got so much, and how long its histories are
  abbrev Numbered : ℕ → Type 0
  Numbered g =
      (r : RoundOf (quiet_state w got) (state_of (blocks_in (with_blocks w blocks)) left g))
      × ((b : ℕ) → b < length w.blocks → length (get_or r.histories b []) ≡ back.steps b)

  numbered : Numbered counted.got
  unfolding round
  numbered = (round, λ b lb. (histories.2 b lb).0)

  pub seats_are_round : IsRoundOfTurns w got blocks left back.steps
  seats_are_round =
      let is : Numbered (rooms_lack (with_blocks w blocks)) = subst Numbered got_is numbered in
      record {
        round = is.0;
        numbers = is.1;
        sound = round_kept (quiet_state w got) (state_after w blocks left) sound (is_quiet w got) is.0;
        laid = laid_all w blocks back.many laid (λ b lb. (led b lb).seated.laid);
      }

pub seats_make_round : (w : Whole) (got : ℕ) (blocks : List CellsView) (left : List (List (List Message))) → IsLaid w → IsSound (quiet_state w got) → (back : AreBack w got blocks left)
    → IsRoundOfTurns w got blocks left back.steps
seats_make_round w got blocks left laid sound back = seats_are_round w got blocks left laid sound back
