-- What the first pushes keep of a block and of the blocks of a net.
use Rattle.std.proofs.Common.{◌≡◌, ◌≢◌, min, ℕ, zero, suc, ◌+◌, ◌-◌, ◌<◌, ◌≤◌, List, length, set, slice_set, slice_index, slice_index_or, sum, refl, sym, ◌∙◌, ap, subst, inl, inr, arith, get_or-set_other}
use Rattle.std.proofs.lemmas.Bool.{cases_eq}
use Rattle.std.proofs.lemmas.List.{ext_get_or, length-set, get_or-set_same, get_or_read_under, get_or-replicate}
use Rattle.flow_network.specs.Cut.{Network, nodes}
use Rattle.block_events.specs.declared.message.Message.{Message}
use Rattle.block_events.specs.States.{State, label_of}
use Rattle.block_events.specs.Events.{IsQuiet}
use Rattle.block_events.specs.Soundness.{IsSound, opening_state}
use Rattle.block_net.specs.Views.{CellsView, count, excess_in, label_in, room_in, lane_in, cells_after_push, cells_after_sink_push}
use Rattle.block_net.specs.Whole.{Whole, no_block, block_at, node_block, place, with_blocks}
use Rattle.block_split.specs.declared.parts.Parts.{Parts}
use Rattle.block_split.specs.Split.{whole_of}
use Rattle.block_events.specs.Effects.{state_of}
use Rattle.net_in_blocks.specs.Views.{IsLaid, IsSpot, blocks_in}
use Rattle.block_state.specs.AllWays.{HasRooms, IsHeld}
use Rattle.block_state.specs.declared.pieces.Pieces.{Pieces}
use Rattle.block_state.specs.Parts.{IsIn}
use Rattle.block_state.specs.Pieces.{state_in}
use Rattle.net_in_blocks.proofs.Steps.{excess_read, label_read, room_read}
use Rattle.net_in_blocks.proofs.Writing.{block_same}
use Rattle.block_discharge.specs.Steps.{IsOfNode}
use Rattle.cut_in_blocks.specs.Loose.{IsInPlace}
use Rattle.cut_in_blocks.proofs.Laid.{put_own, seated}
use Rattle.cut_in_blocks.proofs.Loosely.{loose_push_keeps, loose_give_keeps}
use Rattle.cut_in_blocks.specs.Passes.{state_at}
use Rattle.cut_in_blocks.specs.Opening.{IsFlat, AreLabelsZero, Opens, AreOpening, HaveGiven, AllBlocksGave, AllHaveGiven}

-- ---- one block

pub opens_none : (B : CellsView) → Opens B B
opens_none B = record { nodes = refl; starts = refl; lanes = refl; labels = refl; stands = λ w b ways got flat stands. (got, stands) }

flat_again : (A B : CellsView) → count B ≡ count A → B.labels ≡ A.labels → IsFlat A → IsFlat B
flat_again A B size labels flat v l = ap (λ (q : List ℕ). slice_index q v) labels ∙ flat v (omega (arith, l, size))

pub opens_more : (A B C : CellsView) → Opens A B → Opens B C → Opens A C
opens_more A B C p q = record {
  nodes = q.nodes ∙ p.nodes;
  starts = q.starts ∙ p.starts;
  lanes = q.lanes ∙ p.lanes;
  labels = q.labels ∙ p.labels;
  stands = λ w b ways got flat stands.
      let first = p.stands w b ways got flat stands in
      q.stands w b ways first.0 (flat_again A B p.nodes p.labels flat) first.1;
}

pub given_opens : (B : CellsView) (p a : ℕ) → p < count B → p < length B.rooms → a ≤ excess_in B p → a ≤ room_in B p → Opens B (cells_after_sink_push B p a)
given_opens B p a lp lr enough fits = record {
  nodes = length-set B.excess p _;
  starts = refl;
  lanes = refl;
  labels = refl;
  stands = λ w b ways got flat stands. (got + a, loose_give_keeps w b B ways got p a stands lp lr enough fits);
}

pub pushed_opens : (B : CellsView) (p j a : ℕ) → p < count B → IsOfNode B p j → a ≤ excess_in B p → a ≤ (lane_in B j).residual → (lane_in B j).far < count B → Opens B (cells_after_push B p j a)
pushed_opens B p j a lp of enough fits lf = record {
  nodes = length-set (set B.excess p (excess_in B p - a)) (lane_in B j).far _ ∙ length-set B.excess p _;
  starts = refl;
  lanes = length-set (set B.lanes j _) (lane_in B j).opposite _ ∙ length-set B.lanes j _;
  labels = refl;
  stands = λ w b ways got flat stands. (got, loose_push_keeps w b B ways got p j a stands lp of enough fits (omega (arith, flat (lane_in B j).far lf)));
}

-- ---- what the nodes give

pub given_none : (B : CellsView) (v : ℕ) → excess_in B v ≡ 0 → HaveGiven v B → HaveGiven (v + 1) B
given_none B v none have u lu = elim (cases_eq u v) [
  | inl e ↦ rw e (omega (arith, none))
  | inr off ↦ have u (omega (arith, lu, off))
]

pub given_more : (B : CellsView) (v a : ℕ) → v < count B → v < length B.rooms → a ≡ min (excess_in B v) (room_in B v) → HaveGiven v B → HaveGiven (v + 1) (cells_after_sink_push B v a)
given_more B v a lv lr ea have u lu = elim (cases_eq u v) [
  | inl e ↦ rw e (omega (arith, get_or-set_same B.excess v (excess_in B v - a) 0 lv, get_or-set_same B.rooms v (room_in B v - a) 0 lr, ea))
  | inr off ↦
      omega (arith, get_or-set_other B.excess v u (excess_in B v - a) 0 off, get_or-set_other B.rooms v u (room_in B v - a) 0 off, have u (omega (arith, lu, off)))
]

-- a push to a higher node leaves the lower ones as they are
pub pushed_more : (B : CellsView) (v j a : ℕ) → v < count B → v < (lane_in B j).far → HaveGiven (v + 1) B → HaveGiven (v + 1) (cells_after_push B v j a)
pushed_more B v j a lv higher have u lu =
    let w = (lane_in B j).far in
    let less = set B.excess v (excess_in B v - a) in
    let off : u ≢ w = λ e. omega (arith, e, lu, higher) in
    let first = get_or-set_other less w u (slice_index less w + a) 0 off in
    elim (cases_eq u v) [
      | inl e ↦ omega (arith, first, ap (slice_index less) e, get_or-set_same B.excess v (excess_in B v - a) 0 lv, ap (excess_in B) e, ap (room_in B) e, have u lu)
      | inr ne ↦ omega (arith, first, get_or-set_other B.excess v u (excess_in B v - a) 0 ne, have u lu)
    ]

-- ---- the blocks of a net

module _ (p : Pieces) (blocks : List CellsView) (opening : AreOpening p blocks) where
  standing : (b : ℕ) → b < length blocks → IsInPlace (with_blocks (whole_of p.net p.parts) blocks) b (block_at (with_blocks (whole_of p.net p.parts) blocks) b) p.ways.messages opening.got
  standing b l = record {
    seated = seated (with_blocks (whole_of p.net p.parts) blocks) b opening.laid l;
    sound = subst (λ (q : Whole). IsSound (state_of (blocks_in q) p.ways.messages opening.got)) (sym (put_own (with_blocks (whole_of p.net p.parts) blocks) b)) opening.sound;
  }

  flat_put : (b : ℕ) (new : CellsView) → b < length blocks → Opens (block_at (with_blocks (whole_of p.net p.parts) blocks) b) new → (c : ℕ) → c < length (set blocks b new) → IsFlat (block_at (with_blocks (whole_of p.net p.parts) (set blocks b new)) c)
  flat_put b new l opens c lc = elim (cases_eq c b) [
    | inl e ↦
        let w = with_blocks (whole_of p.net p.parts) blocks in
        let flat = flat_again (block_at w b) new opens.nodes opens.labels (opening.flat b l) in
        rw e (subst IsFlat (sym (block_same w b new l)) flat)
    | inr off ↦ subst IsFlat (sym (get_or-set_other blocks b c new no_block off)) (opening.flat c (omega (arith, lc, length-set blocks b new)))
  ]

  pub block_opened : (b : ℕ) (new : CellsView) → b < length blocks → Opens (block_at (with_blocks (whole_of p.net p.parts) blocks) b) new → AreOpening p (slice_set blocks b new)
  block_opened b new l opens =
      let then' = opens.stands (with_blocks (whole_of p.net p.parts) blocks) b p.ways.messages opening.got (opening.flat b l) (standing b l) in
      record {
        got = then'.0;
        size = length-set blocks b new ∙ opening.size;
        laid = then'.1.seated.laid;
        sound = then'.1.sound;
        flat = flat_put b new l opens;
      }

-- the same by the number of blocks and the block as the code has them
pub turn_opened : (p : Pieces) (blocks : List CellsView) (k b : ℕ) (old new : CellsView) → AreOpening p blocks → k ≡ length blocks → b < k → old ≡ slice_index_or blocks b old
    → Opens old new → AreOpening p (slice_set blocks b new)
turn_opened p blocks k b old new opening size l is opens =
    block_opened p blocks opening b new (omega (arith, size, l))
    (subst (λ (q : CellsView). Opens q new) (get_or_read_under blocks b k old no_block is l size) opens)

-- ---- all blocks side by side

-- of the blocks the first k are the new ones
abbrev mix : List CellsView → List CellsView → ℕ → List CellsView
mix old new zero = old
mix old new (suc k) = set (mix old new k) k (slice_index_or new k no_block)

mix_long : (old new : List CellsView) (k : ℕ) → length (mix old new k) ≡ length old
mix_long old new zero = refl
mix_long old new (suc k) = length-set (mix old new k) k (slice_index_or new k no_block) ∙ mix_long old new k

mix_after : (old new : List CellsView) (k i : ℕ) → k ≤ i → slice_index_or (mix old new k) i no_block ≡ slice_index_or old i no_block
mix_after old new zero i l = refl
mix_after old new (suc k) i l =
    get_or-set_other (mix old new k) k i (slice_index_or new k no_block) no_block (omega (arith, l)) ∙ mix_after old new k i (omega (arith, l))

mix_before : (old new : List CellsView) (k i : ℕ) → i < k → i < length old → slice_index_or (mix old new k) i no_block ≡ slice_index_or new i no_block
mix_before old new zero i l li = absurd (omega (arith, l))
mix_before old new (suc k) i l li = elim (cases_eq i k) [
  | inl e ↦ rw e (get_or-set_same (mix old new k) k (slice_index_or new k no_block) no_block (omega (arith, li, e, mix_long old new k)))
  | inr off ↦
      get_or-set_other (mix old new k) k i (slice_index_or new k no_block) no_block off ∙ mix_before old new k i (omega (arith, l, off)) li
]

module _ (p : Pieces) (old new : List CellsView) (opening : AreOpening p old) (long : length new ≡ length old)
    (each : (b : ℕ) → b < length old → Opens (slice_index_or old b no_block) (slice_index_or new b no_block)) where
  mix_opened : (k : ℕ) → k ≤ length old → AreOpening p (mix old new k)
  mix_opened zero l = opening
  mix_opened (suc k) l =
      let lk : k < length old = omega (arith, l) in
      block_opened p (mix old new k) (mix_opened k (omega (arith, l))) k (slice_index_or new k no_block) (omega (arith, lk, mix_long old new k))
      (subst (λ (B : CellsView). Opens B (slice_index_or new k no_block)) (sym (mix_after old new k k (omega arith))) (each k lk))

  mixed : mix old new (length old) ≡ new
  mixed = ext_get_or no_block (mix old new (length old)) new (mix_long old new (length old) ∙ sym long)
      (λ i l.
      let li : i < length old = omega (arith, l, mix_long old new (length old)) in
      mix_before old new (length old) i li li)

  pub all_opened : AreOpening p new
  all_opened = subst (AreOpening p) mixed (mix_opened (length old) (omega arith))

-- ---- at first

-- a block shows the labels of its nodes
flat_at : (w : Whole) (ways : List (List (List Message))) (got b : ℕ) → IsLaid w → AreLabelsZero (state_of (blocks_in w) ways got) → b < length w.blocks → IsFlat (block_at w b)
flat_at w ways got b laid zeros l p lp =
    let found = laid.filled.nodes b p l lp in
    let spot : IsSpot w found.0 b p = record { node = found.1.node; node_block = found.1.node_block; place = found.1.place; block = l } in
    label_read w (blocks_in w) b (block_at w b) found.0 p (record { laid = laid; view = refl; block = l; is = refl }) spot ∙ zeros found.0 found.1.node

pub opening_from : (p : Pieces) (s : State) → state_in p ≡ s → IsLaid (whole_of p.net p.parts) → IsHeld p.ways.rooms s → AreLabelsZero s → AreOpening p p.parts.blocks.items
opening_from p s is laid held zeros = record {
  got = p.got;
  size = refl;
  laid = laid;
  sound = subst IsSound (sym is) held.sound;
  flat = λ b l. flat_at (whole_of p.net p.parts) p.ways.messages p.got b laid (subst AreLabelsZero (sym is) zeros) l;
}

-- where all labels of each block are 0, all labels are
pub zeros_of_flat : (s : State) (p : Parts) → IsIn s p → ((b : ℕ) → b < length p.blocks.items → IsFlat (block_at (whole_of s.net p) b)) → AreLabelsZero s
zeros_of_flat s p is all v l =
    let w = whole_of s.net p in
    let b = node_block w v in
    let lb = is.laid.placed.node_blocks v l in
    let here : label_in (block_at w b) (place w v) ≡ label_of s v =
    label_read w (blocks_in w) b (block_at w b) v (place w v) (record { laid = is.laid; view = refl; block = lb; is = refl })
    (record { node = l; node_block = refl; place = refl; block = lb })
    ∙ ap (λ (t : State). label_of t v) is.shown in
    omega (arith, here, all b lb (place w v) (is.laid.placed.places v l))

pub zeros_at_first : (net : Network) (blocks : ℕ) → AreLabelsZero (opening_state net blocks)
zeros_at_first net blocks v l = get_or-replicate (nodes net) v 0 0 l

-- ---- in the end

held_by : (p : Pieces) (blocks : List CellsView) (got : ℕ) → AreOpening p blocks → IsHeld p.ways.rooms (state_in p) → got + sum (state_at p blocks p.ways.messages got).rooms ≡ sum p.net.sinks
    → IsHeld p.ways.rooms (state_at p blocks p.ways.messages got)
held_by p blocks got opening held given' =
    let same : opening.got ≡ got = omega (arith, opening.sound.flow.got, given') in
    record {
      sound = subst (λ g. IsSound (state_at p blocks p.ways.messages g)) same opening.sound;
      few = opening.laid.few;
      arcs = opening.laid.arcs;
      room = subst (λ k. HasRooms p.net k p.ways.rooms) (sym opening.size) held.room;
    }

pub held_after : (p q : Pieces) (got : ℕ) → q ≡ record p { parts = record p.parts { blocks = q.parts.blocks } } → AreOpening p q.parts.blocks.items → IsHeld p.ways.rooms (state_in p)
    → got + sum (state_in q).rooms ≡ sum q.net.sinks → IsHeld q.ways.rooms (state_in (record q { got = got }))
held_after p q got same opening held given' =
    let given'' = subst (λ (z : Pieces). got + sum (state_in z).rooms ≡ sum z.net.sinks) same given' in
    subst (λ (z : Pieces). IsHeld z.ways.rooms (state_in (record z { got = got }))) (sym same) (held_by p q.parts.blocks.items got opening held given'')

pub quiet_after : (p q : Pieces) (got : ℕ) → q ≡ record p { parts = record p.parts { blocks = q.parts.blocks } } → AreOpening p q.parts.blocks.items → IsQuiet (state_in p)
    → IsQuiet (state_in (record q { got = got }))
quiet_after p q got same opening quiet =
    subst (λ (z : Pieces). IsQuiet (state_in (record z { got = got }))) (sym same)
    (λ b c lb lc. quiet b c (omega (arith, lb, opening.size)) (omega (arith, lc, opening.size)))

pub gave_after : (p q : Pieces) (got : ℕ) → q ≡ record p { parts = record p.parts { blocks = q.parts.blocks } } → AreOpening p q.parts.blocks.items → AllBlocksGave q.parts.blocks.items
    → AllHaveGiven (state_in (record q { got = got }))
gave_after p q got same opening gave v l =
    let w = whole_of q.net q.parts in
    let laid : IsLaid w = subst (λ (z : Pieces). IsLaid (whole_of z.net z.parts)) (sym same) opening.laid in
    let b = node_block w v in
    let lb = laid.placed.node_blocks v l in
    let spot : IsSpot w v b (place w v) = record { node = l; node_block = refl; place = refl; block = lb } in
    let excess = excess_read w (blocks_in w) b (block_at w b) v (place w v) (record { laid = laid; view = refl; block = lb; is = refl }) spot in
    let room = room_read w (blocks_in w) b (block_at w b) v (place w v) (record { laid = laid; view = refl; block = lb; is = refl }) spot in
    omega (arith, excess, room, gave b lb (place w v) (laid.placed.places v l))

-- labels that stay the same are 0 as before
pub zeros_again : (s t : State) → t.net ≡ s.net → t.labels ≡ s.labels → AreLabelsZero s → AreLabelsZero t
zeros_again s t net labels zeros v l =
    ap (λ (q : List ℕ). slice_index q v) labels ∙ zeros v (omega (arith, l, ap (λ (n : Network). nodes n) net))

-- where all labels are 0, those of each block are
pub flat_of_zeros : (s : State) (p : Parts) (b : ℕ) → IsIn s p → AreLabelsZero s → b < length p.blocks.items → IsFlat (block_at (whole_of s.net p) b)
flat_of_zeros s p b is zeros l = flat_at (whole_of s.net p) s.ways s.got b is.laid (subst AreLabelsZero (sym is.shown) zeros) l
