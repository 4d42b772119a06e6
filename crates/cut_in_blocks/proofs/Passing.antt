-- What the turns of a pass keep, one block after another.
use Rattle.std.proofs.Common.{◌≡◌, ℕ, ◌+◌, ◌<◌, ◌≤◌, Bool, true, false, ◌||◌, nat_lt, IsFalse, List, length, slice_set, slice_index_or, refl, sym, ◌∙◌, ap, subst, inl, inr, arith}
use Rattle.std.proofs.lemmas.Bool.{true≢false, lt-ltb, cases_lt}
use Rattle.std.proofs.lemmas.List.{get_or_read_under}
use Rattle.sums.specs.Sums.{count_if}
use Rattle.sums.proofs.SumLemmas.{counted-le}
use Rattle.block_events.specs.States.{State}
use Rattle.block_events.specs.Soundness.{IsFinished, potential}
use Rattle.block_net.specs.Views.{CellsView}
use Rattle.block_net.specs.Whole.{no_block, block_at, with_blocks}
use Rattle.block_split.specs.Split.{whole_of}
use Rattle.block_state.specs.AllWays.{AllWaysView}
use Rattle.block_state.specs.declared.pieces.Pieces.{Pieces}
use Rattle.block_state.specs.Pieces.{state_in}
use Rattle.block_discharge.specs.Steps.{Step, IsSure}
use Rattle.cut_in_blocks.specs.WayEnds.{way_ends_view, seen_by}
use Rattle.cut_in_blocks.specs.Turns.{ReachesFrom}
use Rattle.cut_in_blocks.specs.Passes.{IsGoing, IsQuietAndHeld, IsStill}
use Rattle.cut_in_blocks.proofs.Going.{goes_on, goes_less, reaches_at}
use Rattle.cut_in_blocks.proofs.Still.{still_on}

counted_or : (some : Bool) (n : ℕ) → count_if (some || nat_lt 0 n) 1 ≤ count_if some 1 + n
counted_or true n = omega arith
counted_or false n = elim (cases_lt 0 n) [
  | inl l ↦ omega (arith, counted-le (nat_lt 0 n) 1, l)
  | inr h ↦
      let zero' : n ≡ 0 = omega (arith, h) in
      subst (λ k. count_if (nat_lt 0 k) 1 ≤ 0 + k) (sym zero') (omega arith)
]

neither : (some : Bool) (n : ℕ) → IsFalse (some || nat_lt 0 n) → IsFalse some × (n ≡ 0)
neither true n is = absurd (true≢false is)
neither false n is = elim (cases_lt 0 n) [
  | inl l ↦ absurd (true≢false (sym (lt-ltb 0 n l) ∙ is))
  | inr h ↦ (refl, omega (arith, h))
]

module _ (p : Pieces) (blocks0 blocks : List CellsView) (ways0 before after : AllWaysView) (k b events : ℕ) (old new : CellsView) (some : Bool) (size : k ≡ length blocks) (lb : b < k) (is : old ≡ slice_index_or blocks b old) (reaches : ReachesFrom k b events old new before.messages after.messages) where
  reached : ReachesFrom (length blocks) b events (block_at (with_blocks (whole_of p.net p.parts) blocks) b) new before.messages after.messages
  reached = reaches_at p blocks before after k b events old new size lb is reaches

  -- no step of the block, as the whole has it, is sure where the turn did no event
  none_sure : (slots : List ℕ) (arcs : ℕ) → ((e : Step) → IsSure old (seen_by (way_ends_view b k before before slots arcs)) e → 0 < events) → events ≡ 0
      → (e : Step) → ¬ IsSure (block_at (with_blocks (whole_of p.net p.parts) blocks) b) (seen_by (way_ends_view b (length blocks) before before slots arcs)) e
  none_sure slots arcs sure none e = λ on.
      let at : old ≡ block_at (with_blocks (whole_of p.net p.parts) blocks) b = get_or_read_under blocks b k old no_block is lb size in
      let on' = subst (λ (q : CellsView). IsSure q (seen_by (way_ends_view b (length blocks) before before slots arcs)) e) (sym at) on in
      let some = sure e (subst (λ n. IsSure old (seen_by (way_ends_view b n before before slots arcs)) e) (sym size) on') in
      absurd (omega (arith, some, none))

  pub turn_goes : after.rooms ≡ before.rooms → ((n : ℕ) → IsGoing p blocks0 ways0 n → IsGoing p blocks before (n + count_if some 1))
      → (n : ℕ) → IsGoing p blocks0 ways0 n → IsGoing p (slice_set blocks b new) after (n + count_if (some || nat_lt 0 events) 1)
  turn_goes rooms was n from =
      let now = goes_on p blocks before after b events (n + count_if some 1) new (was n from) (omega (arith, lb, size)) rooms reached in
      goes_less p (slice_set blocks b new) after _ _ now (omega (arith, counted_or some events))

  pub turn_still : (m : ℕ) → IsQuietAndHeld p → IsGoing p blocks before m → (slots : List ℕ) (arcs : ℕ) → ((e : Step) → IsSure old (seen_by (way_ends_view b k before before slots arcs)) e → 0 < events)
      → (IsFalse some → IsStill p blocks0 ways0 0 → IsStill p blocks before b) → IsFalse (some || nat_lt 0 events) → IsStill p blocks0 ways0 0 → IsStill p (slice_set blocks b new) after (b + 1)
  turn_still m ready going slots arcs sure was off from =
      let both = neither some events off in
      let l : b < length blocks = omega (arith, lb, size) in
      still_on p blocks before b m ready going l (was both.0 from) after slots arcs new
      (subst (λ n. ReachesFrom (length blocks) b n (block_at (with_blocks (whole_of p.net p.parts) blocks) b) new before.messages after.messages) both.1 reached)
      (none_sure slots arcs sure both.1)

-- ---- the whole work

-- the count fell, where the state was not finished
pub work_done : (p : Pieces) (blocks : List CellsView) (ways : AllWaysView) (s t : State) (r : Bool) → s ≡ state_in p → IsGoing p blocks ways (count_if r 1)
    → ((n : ℕ) → IsGoing p blocks ways n → potential t + n ≤ potential (state_in p)) → (IsFalse r → IsFinished (state_in p)) → ¬ IsFinished s
    → potential t < potential s
work_done p blocks ways s t true is going lower still unfinished = omega (arith, lower 1 going, ap potential is)
work_done p blocks ways s t false is going lower still unfinished = absurd (unfinished (subst IsFinished (sym is) (still refl)))
