-- A block in its place: what its places stand for, and what a step leaves.
use Rattle.std.proofs.Common.{◌≡◌, ℕ, ◌+◌, ◌<◌, Bool, true, false, List, length, slice_index, refl, sym, ◌∙◌, ap, subst, arith}
use Rattle.std.proofs.lemmas.List.{length-set, set-set}
use Rattle.flow_network.specs.Cut.{nodes}
use Rattle.block_events.specs.declared.direction.Direction.{Direction}
use Rattle.block_events.specs.declared.message.Message.{Message}
use Rattle.block_events.specs.declared.event.Event.{Event}
use Rattle.block_events.specs.Directions.{near}
use Rattle.block_events.specs.States as core
use Rattle.block_events.specs.Events as events
use Rattle.block_events.specs.Workers.{DoesOwn}
use Rattle.block_net.specs.Views.{CellsView, count}
use Rattle.block_net.specs.Whole.{Whole, block_at, block_with, node_block, place, StandsAt, put_block}
use Rattle.block_events.specs.Effects.{BlocksView, state_of}
use Rattle.net_in_blocks.specs.Views.{blocks_in, IsSpot, IsRow}
use Rattle.net_in_blocks.proofs.Writing.{spot_put, row_put, block_same}
use Rattle.net_in_blocks.proofs.Steps.{IsAt, excess_read, label_read, top_read}
use Rattle.block_discharge.specs.Active as standing
use Rattle.block_discharge.specs.Steps as steps
use Rattle.block_discharge.specs.Steps.{TurnView}
use Rattle.cut_in_blocks.specs.Seats.{IsSeated, shown_by}

-- what the whole shows with the block in its place
abbrev pub view_with : Whole → ℕ → CellsView → BlocksView
view_with w b B = blocks_in (put_block w b B)

pub at_seat : (w : Whole) (b : ℕ) (B : CellsView) → IsSeated w b B → IsAt (put_block w b B) (view_with w b B) b B
at_seat w b B seat = record {
  laid = seat.laid;
  view = refl;
  block = omega (arith, seat.block, length-set w.blocks b B);
  is = block_same w b B seat.block;
}

pub node_seat : (w : Whole) (b : ℕ) (B : CellsView) (p : ℕ) → IsSeated w b B → p < count B → (u : ℕ) × IsSpot (put_block w b B) u b p
node_seat w b B p seat l = let found = seat.nodes p l in (found.0, spot_put w found.0 b p b B found.1)

pub border_seat : (w : Whole) (b : ℕ) (B : CellsView) (j : ℕ) → IsSeated w b B → j < length B.borders → (x : Direction) × IsRow (put_block w b B) x true b j
border_seat w b B j seat l = let found = seat.borders j l in (found.0, row_put w found.0 true b j b B found.1)

-- ---- what a step leaves

-- what a step of block b came to: an event that the block does by itself
pub record Goes (w : Whole) (b : ℕ) (h h' : TurnView) (got : ℕ) : Type 0 where
  pub event : Event
  pub got' : ℕ
  pub does : DoesOwn b (shown_by w b h got) event (shown_by w b h' got')
  pub seated : IsSeated w b h'.block

pub put_again : (w : Whole) (b : ℕ) (B B' : CellsView) → put_block (put_block w b B) b B' ≡ put_block w b B'
put_again w b B B' = ap (λ (q : List CellsView). record w { blocks = q }) (set-set w.blocks b B B')

-- the block that was written shows what was written
pub view_after : (w : Whole) (b : ℕ) (B B' : CellsView) (v : BlocksView) → IsAt (put_block (put_block w b B) b B') v b B' → view_with w b B' ≡ v
view_after w b B B' v at = ap blocks_in (sym (put_again w b B B')) ∙ at.view

pub seat_after : (w : Whole) (b : ℕ) (B B' : CellsView) (v : BlocksView) → IsSeated w b B → IsAt (put_block (put_block w b B) b B') v b B' → count B' ≡ count B
    → length B'.labels ≡ length B.labels → length B'.borders ≡ length B.borders → IsSeated w b B'
seat_after w b B B' v seat at nodes labels borders =
    let at' : IsAt (put_block w b B') v b B' = subst (λ (q : Whole). IsAt q v b B') (put_again w b B B') at in
    record {
      laid = at'.laid;
      block = seat.block;
      labels = labels ∙ (seat.labels ∙ sym nodes);
      nodes = λ p l. seat.nodes p (omega (arith, l, nodes));
      borders = λ j l. seat.borders j (omega (arith, l, borders));
    }

-- ---- what its places stand for

-- a direction of a node of a block
pub record IsFound (w : Whole) (v : BlocksView) (b : ℕ) (leaves : Bool) (u p j : ℕ) : Type 0 where
  pub x : Direction
  pub row : IsRow w x leaves b j
  pub leaves_it : near v.net x ≡ u
  pub spot : IsSpot w (near v.net x) b p

module _ (w : Whole) (v : BlocksView) (b : ℕ) (B : CellsView) (at : IsAt w v b B) (ways : List (List (List Message))) (got : ℕ) where
  -- the node's block
  pub node_block_is : (u p : ℕ) → IsSpot w u b p → core.block_of v.net v.blocks u ≡ b
  node_block_is u p spot = ap (λ (q : BlocksView). core.block_of q.net q.blocks u) (sym at.view) ∙ spot.node_block

  -- a node that is active in its block is active
  pub active_is : (u p : ℕ) → IsSpot w u b p → standing.IsActiveInBlock B p → events.IsActive (state_of v ways got) u
  active_is u p spot active = record {
    node = subst (λ (q : BlocksView). u < nodes q.net) at.view spot.node;
    excess = omega (arith, active.excess, excess_read w v b B u p at spot);
    below = omega (arith, active.below, label_read w v b B u p at spot, top_read w v b B at);
  }

  pub with_is : (u p : ℕ) → IsSpot w u b p → block_with w u ≡ B
  with_is u p spot = ap (block_at w) spot.node_block ∙ at.is

  pub read_at : (u p : ℕ) (f : CellsView → List ℕ) (g : ℕ → ℕ) → IsSpot w u b p → slice_index (f (block_with w u)) (g (place w u)) ≡ slice_index (f B) (g p)
  read_at u p f g spot = ap (λ q. slice_index (f (block_with w u)) (g q)) spot.place ∙ ap (λ (q : CellsView). slice_index (f q) (g p)) (with_is u p spot)

  row_of : (leaves : Bool) (u p j : ℕ) (x : Direction) → IsSpot w u b p → StandsAt w leaves u j x → IsRow w x leaves b j
  row_of leaves u p j x spot stands = record {
    direction = stands.direction;
    outer = stands.outer;
    node_block = ap (node_block w) stands.near ∙ spot.node_block;
    slot = stands.slot;
    block = spot.block;
  }

  found_at : (leaves : Bool) (u p j : ℕ) (x : Direction) → IsSpot w u b p → StandsAt w leaves u j x → IsFound w v b leaves u p j
  found_at leaves u p j x spot stands =
      let here : near v.net x ≡ u = ap (λ (q : BlocksView). near q.net x) (sym at.view) ∙ stands.near in
      record {
        x = x;
        row = row_of leaves u p j x spot stands;
        leaves_it = here;
        spot = subst (λ n. IsSpot w n b p) (sym here) spot;
      }

  pub lane_found : (u p j : ℕ) → IsSpot w u b p → steps.IsOfNode B p j → IsFound w v b false u p j
  lane_found u p j spot of =
      let found = at.laid.placed.lanes u j spot.node (omega (arith, of.low, read_at u p (λ (q : CellsView). q.starts) (λ q. q) spot))
      (omega (arith, of.high, read_at u p (λ (q : CellsView). q.starts) (λ q. q + 1) spot)) in
      found_at false u p j found.0 spot found.1

  pub border_found : (u p j : ℕ) → IsSpot w u b p → steps.IsBorderOfNode B p j → IsFound w v b true u p j
  border_found u p j spot of =
      let found = at.laid.placed.outers u j spot.node (omega (arith, of.low, read_at u p (λ (q : CellsView). q.border_starts) (λ q. q) spot))
      (omega (arith, of.high, read_at u p (λ (q : CellsView). q.border_starts) (λ q. q + 1) spot)) in
      found_at true u p j found.0 spot found.1
