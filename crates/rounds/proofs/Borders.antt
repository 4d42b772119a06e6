-- Where the directions of a block to others lead.
use Rattle.std.proofs.Common.{◌≡◌, ◌≢◌, ℕ, ◌-◌, ◌<◌, ◌≤◌, length, slice_index, sym, ◌∙◌, ap, subst, inl, inr, arith}
use Rattle.std.proofs.lemmas.Bool.{cases_lt}
use Rattle.flow_network.specs.Cut.{nodes}
use Rattle.std.proofs.lemmas.List.{get_or_default}
use Rattle.block_events.specs.Directions.{far}
use Rattle.block_events.proofs.Ends.{far_in}
use Rattle.block_net.specs.Views.{CellsView, count, border_in}
use Rattle.block_net.specs.Whole.{Whole, no_block, block_at, node_block, slot, state_shown}
use Rattle.net_in_blocks.specs.Views.{IsLaid}
use Rattle.block_state.proofs.Effects.{border_apart}
use Rattle.rounds.specs.Seated.{AreBlocksSmall}

-- a direction of block b leads to another block
pub record LeadsOut (w : Whole) (b j : ℕ) : Type 0 where
  pub below : (border_in (block_at w b) j).to < length w.blocks
  pub off : (border_in (block_at w b) j).to ≢ b

pub leads_out : (w : Whole) (b j : ℕ) → IsLaid w → b < length w.blocks → j < length (block_at w b).borders → LeadsOut w b j
leads_out w b j laid lb lj =
    let found = laid.filled.borders b j lb lj in
    let x = found.0 in
    let stands = found.2 in
    let at = laid.placed.borders x stands.direction stands.outer in
    let to : (border_in (block_at w b) j).to ≡ node_block w (far w.net x) =
    sym (ap (λ i. (border_in (block_at w i) (slot w x)).to) found.1 ∙ ap (λ i. (border_in (block_at w b) i).to) stands.slot) ∙ at.to in
    record {
      below = subst (λ i. i < length w.blocks) (sym to) (laid.placed.node_blocks (far w.net x) (far_in w.net x laid.net stands.direction));
      off = λ same. border_apart (state_shown w) x stands.outer (found.1 ∙ (sym same ∙ to));
    }

-- a block has no more nodes than the net
pub few_nodes : (w : Whole) (b : ℕ) → IsLaid w → b < length w.blocks → count (block_at w b) ≤ nodes w.net
few_nodes w b laid lb = elim (cases_lt (nodes w.net) (count (block_at w b))) [
  | inr low ↦ low
  | inl high ↦
      let found = laid.filled.nodes b (nodes w.net) lb high in
      let at : found.0 - slice_index w.firsts (node_block w found.0) ≡ nodes w.net = found.1.place in
      absurd (omega (arith, at, found.1.node))
]

pub small_blocks : (w : Whole) → IsLaid w → AreBlocksSmall w.blocks
small_blocks w laid b d low =
    let few = few_nodes w b laid low in
    let is = ap (λ (B : CellsView). count B) (get_or_default w.blocks b d no_block low) in
    omega (arith, is, few, laid.net.count)
