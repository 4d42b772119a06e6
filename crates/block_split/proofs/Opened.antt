-- What a block holds at the opening, and where its directions stand in the order of all.
use Rattle.std.proofs.Common.{◌≡◌, ℕ, ◌+◌, ◌-◌, ◌<◌, ◌≤◌, Bool, true, false, List, slice_index, slice_range, drop, replicate, refl, sym, ◌∙◌, ap, arith}
use Rattle.std.proofs.lemmas.List.{get_or-drop}
use Rattle.flow_network.specs.Cut.{Network, nodes, IsNet}
use Rattle.flow_network.specs.Progress.{top}
use Rattle.block_events.specs.declared.direction.Direction.{Direction}
use Rattle.block_events.specs.Directions.{IsDirection, near}
use Rattle.block_events.specs.States.{block_of, is_border}
use Rattle.block_events.proofs.Ends.{near_in}
use Rattle.block_net.specs.declared.lanes.InnerLane.{InnerLane}
use Rattle.block_net.specs.declared.lanes.Border.{Border}
use Rattle.block_net.specs.Views.{CellsView, IsBlock}
use Rattle.block_net.specs.Whole.{index_of}
use Rattle.block_net.proofs.Tables.{table_at}
use Rattle.block_split.specs.Split.{starts_from, block_made, inner_rows, outer_rows, CanSplit, first_node, base_of, firsts_made, starts_made, ranks_made, rows_made, block_rows}
use Rattle.block_split.proofs.Numbers.{first_within, first_grows, node_block_below}
use Rattle.block_split.proofs.Spots.{starts_grow}
use Rattle.block_split.proofs.Made.{block_from_is}
use Rattle.block_split.proofs.Splitting.{IsReady, pick, picked, row_of}
use Rattle.block_split.proofs.Ordered.{rows_grouped, starts_are, inner_back, outer_back}

pub ready_made : (net : Network) (blocks : ℕ) → IsNet net → CanSplit net blocks → IsReady net blocks (rows_made net blocks)
ready_made net blocks h split = record { net_is = h; split = split; rows_are = rows_grouped net blocks h }

-- ---- what is read of a direction

pub first_read : (net : Network) (blocks v node_block : ℕ) (firsts : List ℕ) → firsts ≡ firsts_made net blocks → node_block ≡ block_of net blocks v → node_block < blocks
    → slice_index firsts node_block ≡ first_node (nodes net) blocks (block_of net blocks v)
first_read net blocks v node_block firsts e h l =
    ap (λ (xs : List ℕ). slice_index xs node_block) e ∙ (table_at blocks (first_node (nodes net) blocks) node_block 0 l ∙ ap (first_node (nodes net) blocks) h)

pub inner_base : (net : Network) (blocks b f : ℕ) (starts : List ℕ) → starts ≡ starts_made net blocks → f ≡ first_node (nodes net) blocks b
    → slice_index starts f ≡ base_of net blocks (inner_rows (rows_made net blocks)) b
inner_base net blocks b f starts e ef =
    ap (λ (xs : List ℕ). slice_index xs f) (e ∙ sym (starts_are net blocks)) ∙ ap (slice_index (rows_made net blocks).starts) ef

pub outer_base : (net : Network) (blocks b m f : ℕ) (starts : List ℕ) → starts ≡ starts_made net blocks → m ≡ nodes net → f ≡ first_node (nodes net) blocks b
    → slice_index starts (m + f) ≡ base_of net blocks (outer_rows (nodes net) (rows_made net blocks)) b
outer_base net blocks b m f starts e em ef =
    ap (λ (xs : List ℕ). slice_index xs (m + f)) (e ∙ sym (starts_are net blocks))
    ∙ (ap (λ k. slice_index (rows_made net blocks).starts (k + f)) em
    ∙ (sym (get_or-drop (nodes net) (rows_made net blocks).starts f 0) ∙ ap (slice_index (drop (nodes net) (rows_made net blocks).starts)) ef))

back_of : (net : Network) (blocks : ℕ) (o : Bool) (p : ℕ) → IsNet net → slice_index (pick o net (rows_made net blocks)).starts 0 ≤ p
    → p < slice_index (pick o net (rows_made net blocks)).starts (nodes net) → slice_index (ranks_made net blocks) (slice_index (pick o net (rows_made net blocks)).places p) ≡ p
back_of net blocks true p h low high = outer_back net blocks p h low high
back_of net blocks false p h low high = inner_back net blocks p h low high

-- a direction's rank is not before where those of its kind begin in its block
pub base_before : (net : Network) (blocks : ℕ) (o : Bool) (x : Direction) → IsNet net → CanSplit net blocks → IsDirection net x → is_border net blocks x ≡ o
    → base_of net blocks (pick o net (rows_made net blocks)) (block_of net blocks (near net x)) ≤ slice_index (ranks_made net blocks) (index_of net x)
base_before net blocks o x h split d e =
    let n = nodes net in
    let rows = rows_made net blocks in
    let ready = ready_made net blocks h split in
    let v = near net x in
    let b = block_of net blocks v in
    let first = first_node n blocks b in
    let next = first_node n blocks (b + 1) in
    let lb = node_block_below n blocks v split.some (near_in net x h d) in
    let within = first_within n blocks (b + 1) split.some (omega (arith, lb)) in
    let grows = first_grows n blocks b split.some in
    let grow = starts_grow net blocks o (pick o net rows) (picked net blocks rows o ready.rows_are) in
    let row = row_of net blocks rows o x ready d e in
    let r = row.1 in
    let rank : slice_index (ranks_made net blocks) (index_of net x) ≡ row.0 =
    ap (slice_index (ranks_made net blocks)) (sym r.stands)
    ∙ back_of net blocks o row.0 h (omega (arith, r.low, grow 0 first (omega arith) (omega (arith, grows, within)))) (omega (arith, r.high, grow next n within (omega arith))) in
    omega (arith, rank, r.low)

-- ---- a block

less_both : (a b c d : ℕ) → a ≡ c → b ≡ d → a - b ≡ c - d
less_both a b c d e f = ap (λ k. k - b) e ∙ ap (λ k. c - k) f

abbrev view : ℕ → List ℕ → List ℕ → List ℕ → List ℕ → List InnerLane → List ℕ → List Border → CellsView
view t e l r s lanes bs borders =
    record { top = t; excess = e; labels = l; rooms = r; starts = s; lanes = lanes; border_starts = bs; borders = borders }

same_view : (t t' : ℕ) (e e' l l' r r' s s' : List ℕ) (f f' : List InnerLane) (u u' : List ℕ) (g g' : List Border)
    → t ≡ t' → e ≡ e' → l ≡ l' → r ≡ r' → s ≡ s' → f ≡ f' → u ≡ u' → g ≡ g' → view t e l r s f u g ≡ view t' e' l' r' s' f' u' g'
same_view t t' e e' l l' r r' s s' f f' u u' g g' e1 e2 e3 e4 e5 e6 e7 e8 = rw (e1, e2, e3, e4, e5, e6, e7, e8) refl

range_by : (xs : List ℕ) (i j k l : ℕ) → i ≡ k → j ≡ l → slice_range xs i j ≡ slice_range xs k l
range_by xs i j k l e f = rw (e, f) refl

starts_by : (xs ys : List ℕ) (i j k l : ℕ) → xs ≡ ys → i ≡ k → j ≡ l → starts_from xs i j ≡ starts_from ys k l
starts_by xs ys i j k l e f g = rw (e, f, g) refl

pub opened_block : (net : Network) (blocks b first next t : ℕ) (s outer e l r starts : List ℕ) (lanes : List InnerLane) (border_starts : List ℕ) (borders : List Border)
    → first ≡ first_node (nodes net) blocks b → next ≡ first_node (nodes net) blocks (b + 1) → s ≡ starts_made net blocks → outer ≡ drop (nodes net) s → t ≡ top net
    → e ≡ slice_range net.sources first next → l ≡ replicate (next - first) 0 → r ≡ slice_range net.sinks first next
    → starts ≡ starts_from s first next → lanes ≡ (block_rows net blocks (rows_made net blocks) b).lanes
    → border_starts ≡ starts_from outer first next → borders ≡ (block_rows net blocks (rows_made net blocks) b).borders
    → view t e l r starts lanes border_starts borders ≡ block_made net blocks (rows_made net blocks) b
opened_block net blocks b first next t s outer e l r starts lanes border_starts borders ef en es eo et e1 e2 e3 e4 e5 e6 e7 =
    let rows = rows_made net blocks in
    let s_is : s ≡ rows.starts = es ∙ sym (starts_are net blocks) in
    same_view t (top net) e _ l _ r _ starts _ lanes _ border_starts _ borders _ et
    (e1 ∙ range_by net.sources first next _ _ ef en)
    (e2 ∙ ap (λ k. replicate k 0) (less_both _ _ _ _ en ef))
    (e3 ∙ range_by net.sinks first next _ _ ef en)
    (e4 ∙ starts_by s rows.starts first next _ _ s_is ef en)
    e5
    (e6 ∙ starts_by outer (drop (nodes net) rows.starts) first next _ _ (eo ∙ ap (drop (nodes net)) s_is) ef en)
    e7

pub made_is_block : (net : Network) (blocks b : ℕ) → IsNet net → CanSplit net blocks → b < blocks → IsBlock (block_made net blocks (rows_made net blocks) b)
made_is_block net blocks b h split lb =
    block_from_is net blocks (rows_made net blocks) b _ _ h split (rows_grouped net blocks h) refl refl (first_grows (nodes net) blocks b split.some) (first_within (nodes net) blocks (b + 1) split.some (omega (arith, lb)))
