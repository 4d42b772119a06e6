-- What is sure to be told where the turns of all blocks do nothing.
use Rattle.std.proofs.Common.{◌≡◌, ◌≢◌, ℕ, ◌+◌, ◌<◌, ◌≤◌, Bool, true, false, ◌||◌, eqb, List, [], ◌∷◌, length, slice_set, refl, sym, ◌∙◌, ap, subst, inl, inr, arith}
use Rattle.std.proofs.lemmas.Bool.{and_from, not_from_false, not-true, eq-eqb, lt-ltb, true≢false, cases_lt}
use Rattle.std.proofs.lemmas.Bool.Decides.{eqb_tells}
use Rattle.sums.specs.Sums.{count_if}
use Rattle.sums.proofs.SumLemmas.{term-le-sum_below, counted-true}
use Rattle.flow_network.specs.Cut.{Network}
use Rattle.block_events.specs.declared.direction.Direction.{Direction}
use Rattle.block_events.specs.declared.event.Event.{Event}
use Rattle.block_events.specs.declared.event.Event.TheVariants.{PushInner, PushSink, Relabel, Send, Accept, Refuse, Settle, RaiseAll}
use Rattle.block_events.specs.declared.message.Message.{Message}
use Rattle.block_events.specs.Directions.{IsDirection, forward, backward, far, over_directions}
use Rattle.block_events.specs.States.{State, way_at, near_block, far_block}
use Rattle.block_events.specs.Soundness.{IsSound, joins, room_between}
use Rattle.block_events.specs.Events.{IsActive, IsRunOfEvents}
use Rattle.block_events.proofs.Ends.{far_in, block_in}
use Rattle.block_events.specs.Workers.{MayStart}
use Rattle.block_net.specs.Views.{CellsView, border_in}
use Rattle.block_net.specs.Whole.{Whole, block_at, node_block, with_blocks}
use Rattle.block_split.specs.Split.{whole_of}
use Rattle.block_events.specs.Effects.{BlocksView, state_of}
use Rattle.net_in_blocks.specs.Views.{IsLaid, blocks_in}
use Rattle.block_state.specs.AllWays.{AllWaysView, HasRooms, room_at}
use Rattle.block_state.specs.declared.pieces.Pieces.{Pieces}
use Rattle.block_state.specs.Pieces.{state_in}
use Rattle.block_discharge.specs.Steps.{Step, IsSure, turn_view}
use Rattle.cut_in_blocks.specs.TurnEvents.{HasRoom}
use Rattle.cut_in_blocks.specs.Seats.{logs_of}
use Rattle.cut_in_blocks.proofs.Laid.{put_own, seated}
use Rattle.cut_in_blocks.proofs.Starts.{start_is_step}
use Rattle.cut_in_blocks.specs.WayEnds.{is_other_block, way_ends_view, seen_by}
use Rattle.cut_in_blocks.specs.Turns.{ReachesFrom}
use Rattle.cut_in_blocks.specs.Passes.{state_at, IsGoing, IsQuietAndHeld, IsStill}

-- ---- room

-- the term at a direction is at most the sum over all
direction_within : (m k : ℕ) (back : Bool) (f : Direction → ℕ) → k < m → f (record { arc = k; back = back }) ≤ over_directions m f
direction_within m k true f l = omega (arith, term-le-sum_below m (λ i. f (forward i) + f (backward i)) k l)
direction_within m k false f l = omega (arith, term-le-sum_below m (λ i. f (forward i) + f (backward i)) k l)

or_left : (t u : Bool) → t ≡ true → (t || u) ≡ true
or_left true u h = refl
or_left false u h = absurd (true≢false (sym h))

-- there is room between the blocks of a direction's ends
room_along : (net : Network) (blocks : ℕ) (x : Direction) (b c : ℕ) → IsDirection net x → near_block net blocks x ≡ b → far_block net blocks x ≡ c → 1 ≤ room_between net blocks b c
room_along net blocks x b c is near far =
    let at = direction_within (length net.arcs) x.arc x.back (λ y. count_if (joins net blocks b c y) 1) is in
    let one = counted-true (joins net blocks b c x) 1 (or_left _ _ (and_from _ _ (eq-eqb _ b near) (eq-eqb _ c far))) in
    omega (arith, at, one)

-- in a quiet state room is seen for a message to each block that a direction leads to
has_room : (w : Whole) (b : ℕ) (ways : AllWaysView) (slots : List ℕ) (arcs : ℕ) → IsLaid w → b < length w.blocks → ((c : ℕ) → c < length w.blocks → way_at ways.messages b c ≡ [])
    → HasRooms w.net (length w.blocks) ways.rooms → HasRoom (block_at w b) (seen_by (way_ends_view b (length w.blocks) ways ways slots arcs))
has_room w b ways slots arcs laid lb quiet rooms = λ j lj.
    let n = length w.blocks in
    let e = way_ends_view b n ways ways slots arcs in
    let found = laid.filled.borders b j lb lj in
    let x = found.0 in
    let stands = found.2 in
    let c = (border_in (block_at w b) j).to in
    let far_node_block = node_block w (far w.net x) in
    let to : c ≡ far_node_block =
    sym (ap (λ k. (border_in (block_at w k) j).to) found.1)
    ∙ (sym (ap (λ i. (border_in (block_at w (near_block w.net n x)) i).to) stands.slot) ∙ (laid.placed.borders x stands.direction stands.outer).to) in
    let below : c < n = omega (arith, to, block_in w.net n (far w.net x) (far_in w.net x laid.net stands.direction) laid.some) in
    let apart : eqb c b ≡ false = elim (eqb_tells c b) [
      | inl same ↦
          let near_far : near_block w.net n x ≡ far_block w.net n x = found.1 ∙ (sym same.1 ∙ to) in
          absurd (true≢false (sym (eq-eqb (near_block w.net n x) (far_block w.net n x) near_far) ∙ not-true _ stands.outer))
      | inr other ↦ other.0
    ] in
    let off : b ≢ c = λ same. true≢false (sym (eq-eqb c b (sym same)) ∙ apart) in
    let one = room_along w.net n x b c stands.direction found.1 (sym to) in
    let none : length (way_at ways.messages b c) ≡ 0 = ap length (quiet c below) in
    let free : length (way_at ways.messages b c) < room_at ways.rooms b c = omega (arith, one, none, rooms b c lb below off) in
    and_from (is_other_block e c) _ (and_from _ _ (lt-ltb c n below) (not_from_false (eqb c b) apart)) (lt-ltb _ _ free)

-- ---- what a block may start

active_with : (v : BlocksView) (ways ways' : List (List (List Message))) (got got' u : ℕ) → IsActive (state_of v ways got) u → IsActive (state_of v ways' got') u
active_with v ways ways' got got' u active = record { node = active.node; excess = active.excess; below = active.below }

-- the ways and what the sink got do not matter
may_with : (v : BlocksView) (b : ℕ) (ways ways' : List (List (List Message))) (got got' : ℕ) (e : Event) → MayStart b (state_of v ways got) e → MayStart b (state_of v ways' got') e
may_with v b ways ways' got got' (PushInner x) may = (may.0, (may.1.0, may.1.1, active_with v ways ways' got got' _ may.1.2, may.1.3, may.1.4))
may_with v b ways ways' got got' (PushSink u) may = (may.0, (active_with v ways ways' got got' u may.1.0, may.1.1, may.1.2))
may_with v b ways ways' got got' (Relabel u) may = (may.0, (active_with v ways ways' got got' u may.1.0, may.1.1))
may_with v b ways ways' got got' (Send x) may = (may.0, (may.1.0, may.1.1, active_with v ways ways' got got' _ may.1.2, may.1.3, may.1.4, may.1.5))
may_with v b ways ways' got got' (Accept c to) may = absurd may
may_with v b ways ways' got got' (Refuse c to) may = absurd may
may_with v b ways ways' got got' (Settle c to) may = absurd may
may_with v b ways ways' got got' RaiseAll may = absurd may.0

-- no events change nothing
no_events : (s t : State) (events : List Event) → length events ≡ 0 → IsRunOfEvents s events t → t ≡ s
no_events s t [] none run = run
no_events s t (e ∷ es) none run = absurd (omega (arith, none))

-- ---- a turn that does nothing

module _ (p : Pieces) (blocks : List CellsView) (before : AllWaysView) (b m : ℕ) (ready : IsQuietAndHeld p) (going : IsGoing p blocks before m) (lb : b < length blocks) (still : IsStill p blocks before b) where
  abbrev w : Whole
  w = with_blocks (whole_of p.net p.parts) blocks

  -- the state is as it was
  same_after : (after : AllWaysView) (new : CellsView) → ReachesFrom (length blocks) b 0 (block_at w b) new before.messages after.messages → state_at p (slice_set blocks b new) after.messages p.got ≡ state_in p
  same_after after new reaches =
      let own = put_own w b in
      let sound = subst (λ (q : Whole). IsSound (state_of (blocks_in q) before.messages p.got)) (sym own) (subst IsSound (sym still.same) ready.held.sound) in
      let r = reaches w p.got refl (seated w b going.laid lb) sound in
      let same = no_events _ _ r.events r.number r.run ∙ (ap (λ (q : Whole). state_of (blocks_in q) before.messages p.got) own ∙ still.same) in
      let got : r.got' ≡ p.got = ap (λ (s : State). s.got) same in
      ap (λ g. state_at p (slice_set blocks b new) after.messages g) (sym got) ∙ same

  quiet_to : (c : ℕ) → c < length blocks → way_at before.messages b c ≡ []
  quiet_to c lc =
      let size = going.size in
      ap (λ (s : State). way_at s.ways b c) still.same ∙ ready.quiet b c (omega (arith, lb, size)) (omega (arith, lc, size))

  rooms_are : HasRooms p.net (length blocks) before.rooms
  rooms_are =
      subst (λ k. HasRooms p.net k before.rooms) (sym going.size)
      (subst (HasRooms p.net (length p.parts.blocks.items)) (sym going.rooms) ready.held.room)

  -- the block may start nothing where no step of it is sure
  none_of : (slots : List ℕ) (arcs : ℕ) → ((e : Step) → ¬ IsSure (block_at w b) (seen_by (way_ends_view b (length blocks) before before slots arcs)) e) → (e : Event) → ¬ MayStart b (state_in p) e
  none_of slots arcs none e = λ may.
      let seen = seen_by (way_ends_view b (length blocks) before before slots arcs) in
      let h = turn_view (block_at w b) seen in
      let now : MayStart b (state_at p blocks before.messages p.got) e = subst (λ (s : State). MayStart b s e) (sym still.same) may in
      let logs = logs_of (length blocks) b h.sent h.taken in
      let shown = subst (λ (q : Whole). MayStart b (state_of (blocks_in q) logs p.got) e) (sym (put_own w b)) (may_with (blocks_in w) b before.messages logs p.got p.got e now) in
      let found = start_is_step w b p.got h seen e (seated w b going.laid lb) (has_room w b before slots arcs going.laid lb quiet_to rooms_are) shown in
      none found.0 found.1

  pub still_on : (after : AllWaysView) (slots : List ℕ) (arcs : ℕ) (new : CellsView) → ReachesFrom (length blocks) b 0 (block_at w b) new before.messages after.messages
      → ((e : Step) → ¬ IsSure (block_at w b) (seen_by (way_ends_view b (length blocks) before before slots arcs)) e)
      → IsStill p (slice_set blocks b new) after (b + 1)
  still_on after slots arcs new reaches none = record {
    same = same_after after new reaches;
    none = λ c lc. elim (cases_lt c b) [
      | inl below ↦ still.none c below
      | inr high ↦
          let same : c ≡ b = omega (arith, high, lc) in
          λ e may. none_of slots arcs none e (subst (λ k. MayStart k (state_in p) e) same may)
    ];
  }
