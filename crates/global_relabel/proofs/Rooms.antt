-- A search begins at the nodes that can give the sink more, found block by block.
use Rattle.std.proofs.Common.{◌≡◌, ℕ, ◌+◌, ◌<◌, ◌≤◌, length, slice_index, inl, inr, refl, ◌∙◌, ap, arith}
use Rattle.std.proofs.lemmas.Bool.{cases_lt}
use Rattle.flow_network.specs.Cut.{nodes}
use Rattle.sink_distances.specs.Search.{Search, search_label, Grows, AreStarts}
use Rattle.sink_distances.proofs.Order.{grows_falls}
use Rattle.block_events.specs.States.{State, room_of}
use Rattle.block_net.specs.Views.{CellsView, count, room_in}
use Rattle.block_net.specs.Whole.{Whole, LiesAt, block_at, node_block, place}
use Rattle.block_split.specs.declared.parts.Parts.{Parts}
use Rattle.block_split.specs.Split.{whole_of}
use Rattle.net_in_blocks.specs.Views.{blocks_in}
use Rattle.block_state.specs.Parts.{IsIn}
use Rattle.net_in_blocks.proofs.Steps.{room_read}
use Rattle.global_relabel.specs.Search.{GivesIn}

module _ (s : State) (p : Parts) (is : IsIn s p) where
  abbrev w : Whole
  w = whole_of s.net p

  abbrev first : ℕ → ℕ
  first b = slice_index p.firsts.items b

  -- what a node can still give the sink, by its block
  room_there : (b q v : ℕ) → b < length p.blocks.items → LiesAt w b q v → room_in (block_at w b) q ≡ room_of s v
  room_there b q v lb lies =
      room_read w (blocks_in w) b (block_at w b) v q (record { laid = is.laid; view = refl; block = lb; is = refl })
      (record { node = lies.node; node_block = lies.node_block; place = lies.place; block = lb })
      ∙ ap (λ (t : State). room_of t v) is.shown

  number_of : (b q v : ℕ) → LiesAt w b q v → first b + q ≡ v
  number_of b q v lies = omega (arith, ap first lies.node_block, lies.place, is.laid.placed.firsts v lies.node)

  pub place_below : (b q : ℕ) → b < length p.blocks.items → q < count (block_at w b) → first b + q < nodes s.net
  place_below b q lb lq =
      let there = is.laid.filled.nodes b q lb lq in
      omega (arith, number_of b q there.0 there.1, there.1.node)

  -- one more block is seen
  pub starts_more : (b f : ℕ) (B : CellsView) (old new : Search) → b < length p.blocks.items → f ≡ first b → block_at w b ≡ B → AreStarts s.net s.rooms 0 old
      → ((v : ℕ) → v < nodes s.net → node_block w v < b → 0 < room_of s v → search_label old v ≤ 1)
      → Grows 1 (GivesIn B f) old new → ((v : ℕ) → GivesIn B f v → search_label new v ≤ 1)
      → AreStarts s.net s.rooms 0 new × ((v : ℕ) → v < nodes s.net → node_block w v < b + 1 → 0 < room_of s v → search_label new v ≤ 1)
  starts_more b f B old new lb from at starts before g marked =
      let size = ap (λ (q : CellsView). count q) at in (
        record {
          len = g.len ∙ starts.len;
          order = g.order;
          below = g.below;
          leads = λ u l. elim (g.labels u (omega (arith, l, starts.len))) [
            | inl same ↦ elim (starts.leads u l) [
              | inl none ↦ inl (same ∙ none)
              | inr one ↦ inr (same ∙ one.0, one.1)
            ]
            | inr now ↦
                let why = now.2 in
                let there = is.laid.filled.nodes b why.0 lb (omega (arith, why.1, size)) in
                let number : there.0 ≡ u = omega (arith, number_of b why.0 there.0 there.1, why.2, from) in
                let room = ap (λ (q : CellsView). room_in q why.0) at in
                inr (now.1, omega (arith, why.3, room, room_there b why.0 there.0 lb there.1, ap (room_of s) number))
          ];
          sinks = λ u l. absurd (omega (arith, l));
        },
        λ v l low some. elim (cases_lt (node_block w v) b) [
          | inl less ↦ omega (arith, before v l less some, grows_falls 1 (GivesIn B f) old new g (omega arith) v)
          | inr high ↦
              let here : node_block w v ≡ b = omega (arith, high, low) in
              let q = place w v in
              let lies : LiesAt w b q v = record { node = l; node_block = here; place = refl } in
              let lq : q < count B = omega (arith, is.laid.placed.places v l, ap (λ c. count (block_at w c)) here, size) in
              let room = ap (λ (r : CellsView). room_in r q) at in
              marked v (q, lq, omega (arith, number_of b q v lies, from), omega (arith, some, room, room_there b q v lb lies))
        ],
      )
