-- What a turn of a block keeps of the pieces of a state, and the state that they make in the end.
use Rattle.std.proofs.Common.{◌≡◌, ℕ, ◌+◌, ◌<◌, ◌≤◌, List, length, slice_set, slice_index_or, sum, refl, sym, ◌∙◌, ap, subst, arith}
use Rattle.std.proofs.lemmas.List.{length-set, get_or_read_under}
use Rattle.flow_network.specs.Cut.{Network}
use Rattle.block_events.specs.States.{State}
use Rattle.block_events.specs.Events.{IsQuiet}
use Rattle.block_events.specs.Soundness.{IsSound, IsFinished, potential}
use Rattle.block_net.specs.Views.{CellsView}
use Rattle.block_net.specs.Whole.{Whole, no_block, block_at, with_blocks}
use Rattle.block_split.specs.Split.{whole_of}
use Rattle.block_events.specs.Effects.{state_of}
use Rattle.net_in_blocks.specs.Views.{IsLaid, blocks_in}
use Rattle.block_state.specs.AllWays.{AllWaysView, HasRooms, IsHeld}
use Rattle.block_state.specs.declared.pieces.Pieces.{Pieces}
use Rattle.block_state.specs.Pieces.{state_in}
use Rattle.cut_in_blocks.proofs.Laid.{put_own, seated}
use Rattle.cut_in_blocks.specs.Turns.{ReachesFrom}
use Rattle.cut_in_blocks.specs.Passes.{state_at, IsGoing, IsQuietAndHeld, IsStill}
use Rattle.cut_in_blocks.proofs.Lowering.{none_starts}

pub goes_on : (p : Pieces) (blocks : List CellsView) (before after : AllWaysView) (b n m : ℕ) (new : CellsView)
    → IsGoing p blocks before m → b < length blocks → after.rooms ≡ before.rooms
    → ReachesFrom (length blocks) b n (block_at (with_blocks (whole_of p.net p.parts) blocks) b) new before.messages after.messages
    → IsGoing p (slice_set blocks b new) after (m + n)
goes_on p blocks before after b n m new going l rooms reaches =
    let w = with_blocks (whole_of p.net p.parts) blocks in
    let own = put_own w b in
    let sound = subst (λ (q : Whole). IsSound (state_of (blocks_in q) before.messages going.got)) (sym own) going.sound in
    let same = ap (λ (q : Whole). potential (state_of (blocks_in q) before.messages going.got)) own in
    let r = reaches w going.got refl (seated w b going.laid l) sound in
    record {
      got = r.got';
      size = length-set blocks b new ∙ going.size;
      rooms = rooms ∙ going.rooms;
      laid = r.seated.laid;
      sound = r.sound;
      lower = omega (arith, same, r.lower, going.lower);
    }

-- less is known of the count
pub goes_less : (p : Pieces) (blocks : List CellsView) (ways : AllWaysView) (n m : ℕ) → IsGoing p blocks ways n → m ≤ n → IsGoing p blocks ways m
goes_less p blocks ways n m going l = record {
  got = going.got;
  size = going.size;
  rooms = going.rooms;
  laid = going.laid;
  sound = going.sound;
  lower = omega (arith, going.lower, l);
}

-- the block as the code has it
pub reaches_at : (p : Pieces) (blocks : List CellsView) (before after : AllWaysView) (k b n : ℕ) (old new : CellsView)
    → k ≡ length blocks → b < k → old ≡ slice_index_or blocks b old
    → ReachesFrom k b n old new before.messages after.messages
    → ReachesFrom (length blocks) b n (block_at (with_blocks (whole_of p.net p.parts) blocks) b) new before.messages after.messages
reaches_at p blocks before after k b n old new size l is reaches =
    subst (λ m. ReachesFrom m b n (block_at (with_blocks (whole_of p.net p.parts) blocks) b) new before.messages after.messages) size
    (subst (λ (q : CellsView). ReachesFrom k b n q new before.messages after.messages) (get_or_read_under blocks b k old no_block is l size) reaches)

pub goes_from : (p : Pieces) → IsLaid (whole_of p.net p.parts) → IsHeld p.ways.rooms (state_in p) → IsGoing p p.parts.blocks.items p.ways 0
goes_from p laid held = record { got = p.got; size = refl; rooms = refl; laid = laid; sound = held.sound; lower = omega arith }

pub ready_from : (p : Pieces) (s : State) → s ≡ state_in p → IsQuiet s → IsHeld p.ways.rooms s → IsQuietAndHeld p
ready_from p s is quiet held = record { quiet = subst IsQuiet is quiet; held = subst (IsHeld p.ways.rooms) is held }

pub still_from : (p : Pieces) → IsStill p p.parts.blocks.items p.ways 0
still_from p = record { same = refl; none = λ b l. absurd (omega (arith, l)) }

-- ---- in the end

module _ (p q : Pieces) (net : q.net ≡ p.net) (firsts : q.parts.firsts.items ≡ p.parts.firsts.items) (slots : q.parts.slots.items ≡ p.parts.slots.items) where
  pub whole_same : whole_of q.net q.parts ≡ with_blocks (whole_of p.net p.parts) q.parts.blocks.items
  whole_same =
      let w = whole_of q.net q.parts in
      ap (λ (n : Network). record w { net = n }) net
      ∙ (ap (λ (f : List ℕ). record w { net = p.net; firsts = f }) firsts
      ∙ ap (λ (s : List ℕ). record w { net = p.net; firsts = p.parts.firsts.items; slots = s }) slots)

  module _ (n : ℕ) (going : IsGoing p q.parts.blocks.items q.ways n) where
    pub laid_again : IsLaid (whole_of q.net q.parts)
    laid_again = subst IsLaid (sym whole_same) going.laid

    pub sound_given : IsSound (state_of (blocks_in (whole_of q.net q.parts)) q.ways.messages going.got)
    sound_given = subst (λ (w : Whole). IsSound (state_of (blocks_in w) q.ways.messages going.got)) (sym whole_same) going.sound

    module _ (given : q.got + sum (state_in q).rooms ≡ sum q.net.sinks) where
      got_same : going.got ≡ q.got
      got_same = omega (arith, sound_given.flow.got, given)

      pub held_again : IsHeld p.ways.rooms (state_in p) → IsHeld q.ways.rooms (state_in q)
      held_again held = record {
        sound = subst (λ g. IsSound (state_of (blocks_in (whole_of q.net q.parts)) q.ways.messages g)) got_same sound_given;
        few = laid_again.few;
        arcs = laid_again.arcs;
        room = subst (λ (n : Network). HasRooms n (length q.parts.blocks.items) q.ways.rooms) (sym net)
            (subst (λ k. HasRooms p.net k q.ways.rooms) (sym going.size) (subst (HasRooms p.net (length p.parts.blocks.items)) (sym going.rooms) held.room));
      }

      pub lower_all : potential (state_in q) + n ≤ potential (state_in p)
      lower_all =
          let whole = ap (λ (w : Whole). potential (state_of (blocks_in w) q.ways.messages q.got)) whole_same in
          let got = ap (λ g. potential (state_at p q.parts.blocks.items q.ways.messages g)) got_same in
          omega (arith, whole, got, going.lower)

-- where nothing was done, the state was finished
pub still_finished : (p : Pieces) (blocks : List CellsView) (ways : AllWaysView) → IsQuietAndHeld p → length blocks ≡ length p.parts.blocks.items
    → IsStill p blocks ways (length blocks) → IsFinished (state_in p)
still_finished p blocks ways ready size still =
    none_starts (state_in p) ready.held.sound ready.quiet (λ b l. still.none b (omega (arith, l, size)))
