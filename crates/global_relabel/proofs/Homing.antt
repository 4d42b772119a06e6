-- Where the nodes of a block stand.
use Rattle.std.proofs.Common.{◌≡◌, ℕ, ◌+◌, ◌-◌, ◌<◌, ◌≤◌, List, length, slice_index, sym, ◌∙◌, ap, subst, inl, inr, arith}
use Rattle.std.proofs.lemmas.Bool.{cases_lt}
use Rattle.flow_network.specs.Cut.{nodes}
use Rattle.block_net.specs.Views.{count}
use Rattle.block_net.specs.Whole.{Whole, block_at, node_block}
use Rattle.net_in_blocks.specs.Views.{IsLaid, IsSpot}
use Rattle.global_relabel.specs.NodeBlocks.{AreNodeBlocks}

-- the table tells a node's block, and so its place
pub spot_of_node_block : (w : Whole) (node_blocks : List ℕ) (v b p first : ℕ) → IsLaid w → AreNodeBlocks w.net (length w.blocks) node_blocks → v < nodes w.net
    → b ≡ slice_index node_blocks v → first ≡ slice_index w.firsts b → p ≡ v - first → IsSpot w v b p
spot_of_node_block w node_blocks v b p first laid are l is from at =
    let here : node_block w v ≡ b = omega (arith, is, are.node_block v l) in
    record {
      node = l;
      node_block = here;
      place = omega (arith, at, from, ap (slice_index w.firsts) here);
      block = omega (arith, here, laid.placed.node_blocks v l);
    }

module _ (w : Whole) (laid : IsLaid w) (b : ℕ) (lb : b < length w.blocks) where
  abbrev first : ℕ
  first = slice_index w.firsts b

  -- the node at a place of a block
  pub number : (p : ℕ) → p < count (block_at w b) → (v : ℕ) × (v < nodes w.net) × (first + p ≡ v) × (node_block w v ≡ b)
  number p l =
      let there = laid.filled.nodes b p lb l in
      let lies = there.1 in
      (there.0, lies.node, omega (arith, ap (slice_index w.firsts) lies.node_block, lies.place, laid.placed.firsts there.0 lies.node), lies.node_block)

  pub number_below : (p : ℕ) → p < count (block_at w b) → first + p < nodes w.net
  number_below p l = let found = number p l in omega (arith, found.1, found.2)

  -- a node lies in the block exactly where its number lies among those of the block
  pub inside_is : (v : ℕ) → first ≤ v → v < first + count (block_at w b) → node_block w v ≡ b
  inside_is v low high =
      let found = number (v - first) (omega (arith, low, high)) in
      let same : found.0 ≡ v = omega (arith, found.2, low) in
      ap (node_block w) (sym same) ∙ found.3

  pub is_inside : (v : ℕ) → v < nodes w.net → node_block w v ≡ b → (first ≤ v) × (v < first + count (block_at w b))
  is_inside v l here = (
    omega (arith, laid.placed.firsts v l, ap (slice_index w.firsts) here),
    omega (arith, laid.placed.places v l, laid.placed.firsts v l, ap (slice_index w.firsts) here, ap (λ c. count (block_at w c)) here),
  )

  -- one more block is written
  pub node_blocks_more : (old new : List ℕ) (n : ℕ) → n ≡ count (block_at w b) → ((v : ℕ) → v < nodes w.net → node_block w v < b → slice_index old v ≡ node_block w v)
      → ((v : ℕ) → first ≤ v → v < first + n → slice_index new v ≡ b)
      → ((v : ℕ) → v < first → slice_index new v ≡ slice_index old v) → ((v : ℕ) → first + n ≤ v → slice_index new v ≡ slice_index old v)
      → (v : ℕ) → v < nodes w.net → node_block w v < b + 1 → slice_index new v ≡ node_block w v
  node_blocks_more old new n size was inside below above v l low = elim (cases_lt (node_block w v) b) [
    | inl less ↦ elim (cases_lt v first) [
      | inl before ↦ below v before ∙ was v l less
      | inr from ↦ elim (cases_lt v (first + n)) [
        | inl here ↦ absurd (omega (arith, less, inside_is v from (omega (arith, here, size))))
        | inr after ↦ above v after ∙ was v l less
      ]
    ]
    | inr high ↦
        let here : node_block w v ≡ b = omega (arith, high, low) in
        let found = is_inside v l here in
        inside v found.0 (omega (arith, found.1, size)) ∙ sym here
  ]

  pub spot_at : (p : ℕ) → p < count (block_at w b) → IsSpot w (first + p) b p
  spot_at p l =
      let there = laid.filled.nodes b p lb l in
      let lies = there.1 in
      let spot : IsSpot w there.0 b p = record { node = lies.node; node_block = lies.node_block; place = lies.place; block = lb } in
      let is : first + p ≡ there.0 = omega (arith, ap (slice_index w.firsts) lies.node_block, lies.place, laid.placed.firsts there.0 lies.node) in
      subst (λ u. IsSpot w u b p) (sym is) spot
