-- What the nodes gave the sink, block by block.
use Rattle.std.proofs.Common.{◌≡◌, ℕ, zero, suc, ◌+◌, ◌-◌, ◌<◌, ◌≤◌, eqb, List, length, get_or, slice_index, sum, refl, sym, ◌∙◌, ap, inl, inr, arith}
use Rattle.std.proofs.lemmas.List.{get_or_read}
use Rattle.std.proofs.lemmas.Bool.{eqb-true, cases_lt}
use Rattle.sums.specs.Sums.{sum_below, count_if}
use Rattle.sums.proofs.SumLemmas.{sum_below-add, sum_below-same, sum_below-le, sum_below-le-longer, sum_below-swap, sum_below-none, sum_below-pick, sum_by-sum_below, term-le-sum_below, counted-same, counted-zero}
use Rattle.flow_network.specs.Cut.{nodes}
use Rattle.block_net.specs.Views.{CellsView, count, room_in}
use Rattle.block_net.specs.Whole.{Whole, block_at, node_block, place}
use Rattle.net_in_blocks.specs.Views.{blocks_in, IsLaid, IsSpot}
use Rattle.block_state.specs.Pieces.{given_at, given_by}
use Rattle.net_in_blocks.proofs.Opened.{laid_long}
use Rattle.net_in_blocks.proofs.ByBlock.{nodes_of}
use Rattle.net_in_blocks.proofs.Steps.{at_read, room_read}

-- ---- the nodes of a block

pub node_in : (w : Whole) (b p : ℕ) → IsLaid w → b < length w.blocks → p < count (block_at w b) → IsSpot w (slice_index w.firsts b + p) b p
node_in w b p laid lb lp =
    let found = laid.filled.nodes b p lb lp in
    let v = found.0 in
    let at = found.1 in
    let first = laid.placed.firsts v at.node in
    let here = ap (slice_index w.firsts) at.node_block in
    let away : v - slice_index w.firsts b ≡ p = sym (ap (λ h. v - slice_index w.firsts h) at.node_block) ∙ at.place in
    let is : slice_index w.firsts b + p ≡ v = omega (arith, away, first, here) in
    rw is record { node = at.node; node_block = at.node_block; place = at.place; block = lb }

-- what the code reads of a node at its place in a block
pub record IsReadNode (w : Whole) (b f p : ℕ) (B : CellsView) : Type 0 where
  pub many : count B ≡ count (block_at w b)
  pub node : f + p < nodes w.net
  pub given : slice_index w.net.sinks (f + p) - room_in B p ≡ given_at w (slice_index w.firsts b + p)
  pub fits : room_in B p ≤ slice_index w.net.sinks (f + p)

pub read_node : (w : Whole) (b : ℕ) (B : CellsView) (f p : ℕ) → IsLaid w → b < length w.blocks → B ≡ get_or w.blocks b B → f ≡ get_or w.firsts b f → p < count B
    → ((v : ℕ) → v < nodes w.net → slice_index (blocks_in w).rooms v ≤ slice_index w.net.sinks v) → IsReadNode w b f p B
read_node w b B f p laid lb read first lp rooms =
    let at = at_read w (blocks_in w) b B laid refl lb read in
    let many : count B ≡ count (block_at w b) = sym (ap (λ (q : CellsView). count q) at.is) in
    let first' : f ≡ slice_index w.firsts b = get_or_read w.firsts b f (omega (arith, lb, laid.placed.firsts_len)) first 0 in
    let spot = node_in w b p laid lb (omega (arith, lp, many)) in
    let room : room_in B p ≡ slice_index (blocks_in w).rooms (slice_index w.firsts b + p) = room_read w (blocks_in w) b B _ p at spot in
    record {
      many = many;
      node = omega (arith, spot.node, first');
      given = rw (first', room) refl;
      fits = rw (first', room) (rooms _ spot.node);
    }

first_le : (w : Whole) (b v : ℕ) → IsLaid w → v < nodes w.net → node_block w v ≡ b → slice_index w.firsts b ≤ v
first_le w b v laid lv node_block = omega (arith, laid.placed.firsts v lv, ap (slice_index w.firsts) node_block)

before_end : (w : Whole) (b v : ℕ) → IsLaid w → v < nodes w.net → node_block w v ≡ b → v < slice_index w.firsts b + count (block_at w b)
before_end w b v laid lv node_block =
    let at : place w v ≡ v - slice_index w.firsts b = ap (λ h. v - slice_index w.firsts h) node_block in
    omega (arith, at, laid.placed.places v lv, ap (λ h. count (block_at w h)) node_block, first_le w b v laid lv node_block)

-- ---- sums over them

add_zero : (m : ℕ) → m + 0 ≡ m
add_zero m = omega arith

add_suc : (m k : ℕ) → m + suc k ≡ suc (m + k)
add_suc m k = omega arith

rest_none : (m k : ℕ) (f : ℕ → ℕ) → ((i : ℕ) → m ≤ i → i < m + k → f i ≡ 0) → sum_below (m + k) f ≡ sum_below m f
rest_none m zero f none = ap (λ i. sum_below i f) (add_zero m)
rest_none m (suc k) f none =
    ap (λ i. sum_below i f) (add_suc m k) ∙ omega (arith, rest_none m k f (λ i low high. none i low (omega (arith, high))), none (m + k) (omega arith) (omega arith))

in_two : (m k : ℕ) (f : ℕ → ℕ) → sum_below (m + k) f ≡ sum_below m f + sum_below k (λ i. f (m + i))
in_two m zero f = ap (λ i. sum_below i f) (add_zero m) ∙ omega arith
in_two m (suc k) f = ap (λ i. sum_below i f) (add_suc m k) ∙ omega (arith, in_two m k f)

-- a node's share in the sum of a block
abbrev share : Whole → ℕ → ℕ → ℕ
share w b v = count_if (eqb (node_block w v) b) (given_at w v)

share_none : (w : Whole) (b v : ℕ) → (node_block w v ≡ b → ⊥) → share w b v ≡ 0
share_none w b v off = counted-zero (eqb (node_block w v) b) (given_at w v) (λ t. absurd (off (eqb-true (node_block w v) b t)))

share_all : (w : Whole) (b v : ℕ) → node_block w v ≡ b → share w b v ≡ given_at w v
share_all w b v e = ap (λ q. count_if (eqb q b) (given_at w v)) e ∙ counted-same b (given_at w v)

none_at_all : (w : Whole) (b : ℕ) → IsLaid w → count (block_at w b) ≡ 0 → given_by w b ≡ 0
none_at_all w b laid none = sum_below-none (nodes w.net) (share w b) (λ v lv. share_none w b v (λ e. omega (arith, none, before_end w b v laid lv e, first_le w b v laid lv e)))

-- the sum over the nodes of a block, one after another
pub in_a_row : (w : Whole) (b : ℕ) → IsLaid w → b < length w.blocks → sum_below (count (block_at w b)) (λ i. given_at w (slice_index w.firsts b + i)) ≡ given_by w b
in_a_row w b laid lb =
    let n = nodes w.net in
    let first = slice_index w.firsts b in
    let many = count (block_at w b) in
    let g : ℕ → ℕ = λ i. given_at w (first + i) in
    elim (cases_lt 0 many) as (λ q. sum_below many g ≡ given_by w b) [
      | inl some ↦
          let within = nodes_of w b laid lb some in
          let all : first + many + (n - (first + many)) ≡ n = omega (arith, within) in
          let rest = rest_none (first + many) (n - (first + many)) (share w b)
          (λ i low high. share_none w b i (λ e. omega (arith, low, before_end w b i laid (omega (arith, high, all)) e))) in
          let before = sum_below-none first (share w b) (λ i li. share_none w b i (λ e. omega (arith, li, first_le w b i laid (omega (arith, li, within)) e))) in
          let here = sum_below-same many (λ i. share w b (first + i)) g (λ i li. share_all w b (first + i) (node_in w b i laid lb li).node_block) in
          let whole = ap (λ k. sum_below k (share w b)) all in
          omega (arith, whole, rest, before, here, in_two first many (share w b))
      | inr none ↦
          let zero' : many ≡ 0 = omega (arith, none) in
          ap (λ k. sum_below k g) zero' ∙ sym (none_at_all w b laid zero')
    ]

-- ---- all nodes

-- all blocks together
pub all_blocks : (w : Whole) → IsLaid w → sum_below (length w.blocks) (given_by w) ≡ sum_below (nodes w.net) (given_at w)
all_blocks w laid =
    sum_below-swap (length w.blocks) (nodes w.net) (λ b v. share w b v)
    ∙ sum_below-same (nodes w.net) (λ v. sum_below (length w.blocks) (λ b. share w b v)) (given_at w) (λ v lv.
    sum_below-pick (length w.blocks) (node_block w v) (λ b. given_at w v) (laid.placed.node_blocks v lv))

sum_is : (xs : List ℕ) → sum xs ≡ sum_below (length xs) (slice_index xs)
sum_is xs = sum_by-sum_below (λ (n : ℕ). n) xs 0

pub given_most : (w : Whole) → IsLaid w → sum_below (nodes w.net) (given_at w) ≤ sum w.net.sinks
given_most w laid =
    let le = sum_below-le (nodes w.net) (given_at w) (slice_index w.net.sinks) (λ v lv. omega arith) in
    let is : sum w.net.sinks ≡ sum_below (nodes w.net) (slice_index w.net.sinks) = sum_is w.net.sinks ∙ ap (λ k. sum_below k (slice_index w.net.sinks)) laid.net.same in
    omega (arith, le, is)

-- the sums of some blocks
pub some_blocks : (w : Whole) (many : ℕ) → IsLaid w → many ≤ length w.blocks → sum_below many (given_by w) ≤ sum w.net.sinks
some_blocks w many laid l =
    omega (arith, sum_below-le-longer many (length w.blocks) (given_by w) l, all_blocks w laid, given_most w laid)

-- the sum over some nodes of a block
pub some_nodes : (w : Whole) (b many : ℕ) → IsLaid w → b < length w.blocks → many ≤ count (block_at w b)
    → sum_below many (λ i. given_at w (slice_index w.firsts b + i)) ≤ sum w.net.sinks
some_nodes w b many laid lb l =
    let longer = sum_below-le-longer many (count (block_at w b)) (λ i. given_at w (slice_index w.firsts b + i)) l in
    let one = term-le-sum_below (length w.blocks) (given_by w) b lb in
    omega (arith, longer, in_a_row w b laid lb, one, all_blocks w laid, given_most w laid)

pub given_all : (w : Whole) → IsLaid w → ((v : ℕ) → v < nodes w.net → slice_index (blocks_in w).rooms v ≤ slice_index w.net.sinks v)
    → sum_below (length w.blocks) (given_by w) + sum (blocks_in w).rooms ≡ sum w.net.sinks
given_all w laid rooms =
    let n = nodes w.net in
    let r = (blocks_in w).rooms in
    let sinks : sum w.net.sinks ≡ sum_below n (slice_index w.net.sinks) = sum_is w.net.sinks ∙ ap (λ k. sum_below k (slice_index w.net.sinks)) laid.net.same in
    let left : sum r ≡ sum_below n (slice_index r) = sum_is r ∙ ap (λ k. sum_below k (slice_index r)) (laid_long w (blocks_in w) laid refl).rooms in
    let each = sum_below-same n (λ v. given_at w v + slice_index r v) (slice_index w.net.sinks) (λ v lv. omega (arith, rooms v lv)) in
    omega (arith, sinks, left, each, all_blocks w laid, sum_below-add n (given_at w) (slice_index r))
