-- How many events all blocks do together.
use Rattle.std.proofs.Common.{◌≡◌, ℕ, zero, suc, ◌+◌, ◌-◌, ◌*◌, ◌<◌, ◌≤◌, Bool, ◌==◌, List, [], length, get_or, slice_index, sum_by, ◌∙◌, ap, subst, inl, inr, arith}
use Rattle.std.proofs.Math.Nat.{mul-le-mul_left, mul-le-mul_right}
use Rattle.std.proofs.lemmas.Bool.{cases_lt, eq-eqb}
use Rattle.sums.specs.Sums.{sum_below, count_if}
use Rattle.sums.proofs.SumLemmas.{sum_below-le-longer, sum_by-sum_below}
use Rattle.flow_network.specs.Cut.{nodes}
use Rattle.block_events.specs.declared.event.Event.{Event}
use Rattle.block_net.specs.Views.{count}
use Rattle.block_net.specs.Whole.{Whole, block_at, node_block}
use Rattle.net_in_blocks.specs.Views.{IsLaid}
use Rattle.cut_in_blocks.specs.Rounds.{quiet_state}
use Rattle.rounds.specs.Short.{nodes_in, AreBlocksOf}

-- ---- sums

-- k terms from f on that are 1
ones : (g : ℕ → ℕ) (f k : ℕ) → ((p : ℕ) → p < k → g (p + f) ≡ 1) → k ≤ sum_below (k + f) g
ones g f zero one = omega arith
ones g f (suc k) one =
    let before = ones g f k (λ p low. one p (omega (arith, low))) in
    let last = one k (omega arith) in
    let longer : suc k + f ≡ suc (k + f) = omega arith in
    let split : sum_below (suc k + f) g ≡ sum_below (k + f) g + g (k + f) = ap (λ n. sum_below n g) longer in
    omega (arith, before, last, split)

pub few_in_all : (n k : ℕ) (f t : ℕ → ℕ) → ((i : ℕ) → i < n → f i ≤ (t i + 1) * k) → sum_below n f ≤ (n + sum_below n t) * k
few_in_all zero k f t each = omega arith
few_in_all (suc n) k f t each =
    let before = few_in_all n k f t (λ i low. each i (omega (arith, low))) in
    let last = each n (omega arith) in
    omega (arith, before, last)

block_grows : (a b m : ℕ) → a ≤ b → b ≤ m → a + 16 ≤ m + 16
block_grows a b m low high = omega (arith, low, high)

more_turns : (n a b : ℕ) → a ≤ b → n + a ≤ n + b
more_turns n a b low = omega (arith, low)

-- ---- the nodes of a block

-- the node at place p of block b
found_at : (w : Whole) (b p : ℕ) → IsLaid w → b < length w.blocks → p < count (block_at w b)
    → (p + slice_index w.firsts b < nodes w.net) × (node_block w (p + slice_index w.firsts b) ≡ b)
found_at w b p laid lb low =
    let found = laid.filled.nodes b p lb low in
    let v = found.0 in
    let first : slice_index w.firsts (node_block w v) ≡ slice_index w.firsts b = ap (λ i. slice_index w.firsts i) found.1.node_block in
    let after = laid.placed.firsts v found.1.node in
    let at : v - slice_index w.firsts (node_block w v) ≡ p = found.1.place in
    let is : v ≡ p + slice_index w.firsts b = omega (arith, first, after, at) in
    (subst (λ u. u < nodes w.net) is found.1.node, subst (λ u. node_block w u ≡ b) is found.1.node_block)

-- each block has as many nodes as lie in it
pub many_in : (w : Whole) (got b : ℕ) → IsLaid w → b < length w.blocks → count (block_at w b) ≤ nodes_in (quiet_state w got) b
many_in w got b laid lb = elim (cases_lt 0 (count (block_at w b))) [
  | inr none ↦ omega (arith, none)
  | inl some ↦
      let k = count (block_at w b) in
      let f = slice_index w.firsts b in
      let g : ℕ → ℕ = λ v. count_if (node_block w v == b) 1 in
      let last = (found_at w b (k - 1) laid lb (omega (arith, some))).0 in
      let within : k + f ≤ nodes w.net = omega (arith, some, last) in
      let all : k ≤ sum_below (k + f) g = ones g f k (λ p low. ap (λ (t : Bool). count_if t 1) (eq-eqb (node_block w (p + f)) b (found_at w b p laid lb low).1)) in
      let more = sum_below-le-longer (k + f) (nodes w.net) g within in
      omega (arith, all, more)
]

-- ---- a round

-- as many events as blocks that drew so many turns can do, where the histories are as long as those
pub few_events : (w : Whole) (got turns m : ℕ) (drawn steps : ℕ → ℕ) (histories : List (List Event)) → IsLaid w → AreBlocksOf m (quiet_state w got)
    → length histories ≡ length w.blocks → ((b : ℕ) → b < length w.blocks → length (get_or histories b []) ≡ steps b)
    → ((b : ℕ) → b < length w.blocks → steps b ≤ (drawn b + 1) * (count (block_at w b) + 16)) → sum_below (length w.blocks) drawn ≤ turns
    → sum_by (λ (h : List Event). length h) histories ≤ (length w.blocks + turns) * (m + 16)
few_events w got turns m drawn steps histories laid small long numbers each few =
    let n = length w.blocks in
    let f : ℕ → ℕ = λ b. length (get_or histories b []) in
    let all : sum_by (λ (h : List Event). length h) histories ≡ sum_below n f =
    sum_by-sum_below (λ (h : List Event). length h) histories [] ∙ ap (λ k. sum_below k f) long in
    let most = few_in_all n (m + 16) f drawn (λ b low.
    let is = numbers b low in
    let low_step = each b low in
    let block = many_in w got b laid low in
    let bound = small b low in
    let grow = mul-le-mul_left (drawn b + 1) (block_grows (count (block_at w b)) (nodes_in (quiet_state w got) b) m block bound) in
    omega (arith, is, low_step, grow)) in
    let more = mul-le-mul_right (m + 16) (more_turns n (sum_below n drawn) turns few) in
    omega (arith, all, most, more)
