-- The laws of rounds and of histories, over the definitions alone.
use Rattle.std.specs.Prelude.{◌≡◌, ◌≢◌, ℕ, ◌<◌, List, [], ◌++◌, length, slice_index_or, replicate}
use Rattle.block_events.specs.declared.event.Event.{Event}
use Rattle.block_events.specs.declared.message.Message.{Message}
use Rattle.block_events.specs.States.{State, way_at}
use Rattle.block_events.specs.Events.{IsQuiet, IsEnabled, IsRunOfEvents}
use Rattle.block_events.specs.Soundness.{IsSound, IsSquare}
use Rattle.block_events.specs.Workers.{IsEventOf, DoesOwn, IsHistory, MayStart}
use Rattle.block_events.specs.Rounds.{RoundOf}

-- whatever the schedule, a round from a sound and quiet state gives back a sound state
abbrev pub RoundKeeps : Type 0
RoundKeeps = (old new : State) → IsSound old → IsQuiet old → RoundOf old new → IsSound new

-- a history goes on with another
abbrev pub HistoryGoesOn : Type 0
HistoryGoesOn =
    (b : ℕ) (s t u : State) (h k : List Event)
    → IsHistory b s h t → IsHistory b t k u → IsHistory b s (h ++ k) u

-- ---- on one thread

-- the state with other ways
abbrev pub with_ways : State → List (List (List Message)) → State
with_ways s ways = record s { ways = ways }

-- no message at all between n blocks
abbrev pub no_messages : ℕ → List (List (List Message))
no_messages n = replicate n (replicate n [])

-- the state as a block sees it that has put and taken nothing yet
abbrev pub without_messages : State → State
without_messages s = with_ways s (no_messages s.blocks)

-- what a history of block b makes of the ways: what it put stands at their ends, what it took is
-- gone from their fronts, and the ways between two other blocks stay
pub record IsPassed (b : ℕ) (before logs after : List (List (List Message))) : Type 0 where
  pub puts : (c : ℕ) → b ≢ c → way_at after b c ≡ way_at before b c ++ way_at logs b c
  pub takes : (c : ℕ) → b ≢ c → way_at before c b ≡ way_at logs c b ++ way_at after c b
  pub others : (a c : ℕ) → b ≢ a → b ≢ c → way_at after a c ≡ way_at before a c
  pub own : way_at after b b ≡ way_at before b b
  pub square : (n : ℕ) → IsSquare n before → IsSquare n after

-- a history of one block, which took the fronts of the ways of a sound state, is a run of the core
abbrev pub HistoryRuns : Type 0
HistoryRuns =
    (b : ℕ) (s t : State) (h : List Event) (left : ℕ → List Message)
    → IsSound s → IsHistory b (without_messages s) h t
    → ((c : ℕ) → b ≢ c → way_at s.ways c b ≡ way_at t.ways c b ++ left c)
    → (ways : List (List (List Message))) × IsRunOfEvents s h (with_ways t ways)
    × IsPassed b s.ways t.ways ways

-- what block b took from each other block stood in front of the way from there, and the rest is
-- left
abbrev pub TookFronts : ℕ → State → State → Type 0
TookFronts b s t =
    (c : ℕ) → b ≢ c → (left : List Message) × (way_at s.ways c b ≡ way_at t.ways c b ++ left)

-- in a sound state each enabled event of a block is enabled in the block's own terms, too, and what
-- it takes there is the message in front
abbrev pub OwnTermsHold : Type 0
OwnTermsHold =
    (b : ℕ) (s : State) (e : Event)
    → IsSound s → IsEventOf b s e → IsEnabled s e
    → (t : State) × DoesOwn b (without_messages s) e t × TookFronts b s t

-- where no message is on the way, the ways are empty lists
abbrev pub QuietIsEmpty : Type 0
QuietIsEmpty = (s : State) → IsSound s → IsQuiet s → s.ways ≡ no_messages s.blocks

-- ---- all blocks together

-- what block b did: a history, and not the empty one where it could start
abbrev pub Did : State → (ℕ → State) → ℕ → List Event → Type 0
Did s ends b h = IsHistory b s h (ends b) × ((e : Event) → MayStart b s e → h ≢ [])

-- a history for each block makes a list of histories
abbrev pub HistoriesGather : Type 0
HistoriesGather =
    (n : ℕ) (s : State) (ends : ℕ → State)
    → ((b : ℕ) → b < n → (h : List Event) × Did s ends b h)
    → (histories : List (List Event)) × (length histories ≡ n)
    × ((b : ℕ) → b < n → Did s ends b (slice_index_or histories b []))
