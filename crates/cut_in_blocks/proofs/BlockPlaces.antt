-- Each node is at one place of one block, and each place of a block is that of one node.
use Rattle.std.proofs.Common.{◌≡◌, ℕ, ◌+◌, ◌<◌, Bool, true, false, eqb, length, slice_index, sum, sum_by, All, refl, sym, ◌∙◌, ap, inl, inr, arith}
use Rattle.std.proofs.lemmas.Bool.{cases_eq, eq-eqb, eqb-true}
use Rattle.std.proofs.lemmas.List.Elements.{All-get_or}
use Rattle.sums.specs.Sums.{sum_below, count_if}
use Rattle.sums.proofs.SumLemmas.{sum_below-same, sum_below-swap, sum_below-pick, sum_below-counted, sum_by-sum_below, counted-other, counted-true, counted-zero}
use Rattle.flow_network.specs.Cut.{nodes}
use Rattle.block_events.specs.Soundness.{IsSound}
use Rattle.block_net.specs.Views.{CellsView, count}
use Rattle.block_net.specs.Whole.{Whole, no_block, block_at, block_with, node_block, place}
use Rattle.block_net.proofs.Tables.{length_table, table_at}
use Rattle.block_events.specs.Effects.{state_of}
use Rattle.net_in_blocks.specs.Views.{IsLaid, blocks_in}
use Rattle.cut_in_blocks.proofs.Laid.{seated}
use Rattle.net_in_blocks.proofs.Writing.{numbers, same_spot}
use Rattle.cut_in_blocks.specs.Rounds.{Ways}

-- ---- counting one of them

counted_same : (t : Bool) (x y : ℕ) → (t ≡ true → x ≡ y) → count_if t x ≡ count_if t y
counted_same true x y same = same refl
counted_same false x y same = refl

counted_both : (a b c d z : ℕ) → a ≡ b → c ≡ d → count_if (eqb a b) (count_if (eqb c d) z) ≡ z
counted_both a b c d z e f = counted-true (eqb a b) (count_if (eqb c d) z) (eq-eqb a b e) ∙ counted-true (eqb c d) z (eq-eqb c d f)

module _ (w : Whole) (laid : IsLaid w) (F : ℕ → ℕ → ℕ) where
  -- the number at a place, where the node is at that place
  abbrev there : ℕ → ℕ → ℕ → ℕ
  there v b p = count_if (eqb (node_block w v) b) (count_if (eqb (place w v) p) (F b p))

  -- all places of a block
  abbrev over : ℕ → (ℕ → ℕ) → ℕ
  over b f = sum_below (count (block_at w b)) f

  node_in_block : (v b : ℕ) → v < nodes w.net → over b (there v b) ≡ count_if (eqb (node_block w v) b) (F b (place w v))
  node_in_block v b lv =
      let at = λ (p : ℕ). count_if (eqb (place w v) p) (F b p) in
      sym (sum_below-counted (count (block_at w b)) (eqb (node_block w v) b) at)
      ∙ counted_same (eqb (node_block w v) b) (over b at) (F b (place w v)) (λ t.
      let size = ap (λ c. count (block_at w c)) (eqb-true (node_block w v) b t) in
      sum_below-pick (count (block_at w b)) (place w v) (F b) (omega (arith, size, laid.placed.places v lv)))

  node_once : (v : ℕ) → v < nodes w.net → F (node_block w v) (place w v) ≡ sum_below (length w.blocks) (λ b. over b (there v b))
  node_once v lv =
      let n = length w.blocks in
      sym (sum_below-same n (λ b. over b (there v b)) (λ b. count_if (eqb (node_block w v) b) (F b (place w v))) (λ b lb. node_in_block v b lv)
      ∙ sum_below-pick n (node_block w v) (λ b. F b (place w v)) (laid.placed.node_blocks v lv))

  place_once : (b p : ℕ) → b < length w.blocks → p < count (block_at w b) → sum_below (nodes w.net) (λ v. there v b p) ≡ F b p
  place_once b p lb lp =
      let found = (seated w b laid lb).nodes p lp in
      let u = found.0 in
      let spot = found.1 in
      sum_below-same (nodes w.net) (λ v. there v b p) (λ v. count_if (eqb u v) (F b p)) (λ v lv.
      elim (cases_eq v u) [
        | inl e ↦
            counted_both (node_block w v) b (place w v) p (F b p) (ap (node_block w) e ∙ spot.node_block) (ap (place w) e ∙ spot.place)
            ∙ sym (counted-true (eqb u v) (F b p) (eq-eqb u v (sym e)))
        | inr off ↦
            counted-zero (eqb (node_block w v) b) (count_if (eqb (place w v) p) (F b p)) (λ t.
            counted-zero (eqb (place w v) p) (F b p) (λ t'.
            absurd (off (same_spot w v u b p laid.placed (record { node = lv; node_block = eqb-true (node_block w v) b t; place = eqb-true (place w v) p t'; block = lb }) spot))))
            ∙ sym (counted-other u v (F b p) off)
      ])
      ∙ sum_below-pick (nodes w.net) u (λ v. F b p) spot.node

  -- so a sum over all nodes is one over the places of all blocks
  pub over_places : sum_below (nodes w.net) (λ v. F (node_block w v) (place w v)) ≡ sum_below (length w.blocks) (λ b. over b (F b))
  over_places =
      let m = nodes w.net in
      let n = length w.blocks in
      sum_below-same m (λ v. F (node_block w v) (place w v)) (λ v. sum_below n (λ b. over b (there v b))) node_once
      ∙ (sum_below-swap m n (λ v b. over b (there v b))
      ∙ sum_below-same n (λ b. sum_below m (λ v. over b (there v b))) (λ b. over b (F b)) (λ b lb.
      sum_below-swap m (count (block_at w b)) (λ v p. there v b p)
      ∙ sum_below-same (count (block_at w b)) (λ p. sum_below m (λ v. there v b p)) (F b) (λ p lp. place_once b p lb lp)))

-- ---- the rooms

pub rooms_tell_got : (w : Whole) (got : ℕ) (ways : Ways) → IsLaid w → All (λ B. length B.rooms ≡ count B) w.blocks → IsSound (state_of (blocks_in w) ways got)
    → got + sum_by (λ B. sum B.rooms) w.blocks ≡ sum w.net.sinks
rooms_tell_got w got ways laid long sound =
    let m = nodes w.net in
    let n = length w.blocks in
    let room = λ (v : ℕ). slice_index (block_with w v).rooms (place w v) in
    let rooms = λ (q : CellsView). q.rooms in
    let shown : sum (numbers rooms w) ≡ sum_below m room =
    sum_by-sum_below (λ (x : ℕ). x) (numbers rooms w) 0
    ∙ (ap (λ k. sum_below k (slice_index (numbers rooms w))) (length_table m room)
    ∙ sum_below-same m (slice_index (numbers rooms w)) room (λ v lv. table_at m room v 0 lv)) in
    let turn = over_places w laid (λ b p. slice_index (block_at w b).rooms p) in
    let each : sum_by (λ (q : CellsView). sum q.rooms) w.blocks ≡ sum_below n (λ b. sum_below (count (block_at w b)) (slice_index (block_at w b).rooms)) =
    sum_by-sum_below (λ (q : CellsView). sum q.rooms) w.blocks no_block
    ∙ sum_below-same n (λ b. sum (block_at w b).rooms) (λ b. sum_below (count (block_at w b)) (slice_index (block_at w b).rooms)) (λ b lb.
    sum_by-sum_below (λ (x : ℕ). x) (block_at w b).rooms 0
    ∙ ap (λ k. sum_below k (slice_index (block_at w b).rooms)) (All-get_or (λ (q : CellsView). length q.rooms ≡ count q) w.blocks b no_block lb long)) in
    omega (arith, shown, turn, each, sound.flow.got)
