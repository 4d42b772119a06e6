-- What stands in the rows of a block.
use Rattle.std.proofs.Common.{◌≡◌, ℕ, ◌+◌, ◌-◌, ◌<◌, ◌≤◌, Bool, List, length, get_or, drop, slice_index, slice_range, sym, ◌∙◌, ap, subst, inl, inr, arith, All}
use Rattle.std.proofs.lemmas.Bool.{cases_lt}
use Rattle.std.proofs.lemmas.List.{get_or-drop, get_or-take, length-take, length-drop}
use Rattle.std.proofs.lemmas.List.Elements.{All-from_get_or}
use Rattle.flow_network.specs.Cut.{Network, nodes, IsNet}
use Rattle.block_events.specs.declared.direction.Direction.{Direction}
use Rattle.block_events.specs.Directions.{IsDirection, near}
use Rattle.block_events.specs.States.{block_of, is_border}
use Rattle.block_events.proofs.Ends.{near_in}
use Rattle.block_net.specs.Whole.{index_of}
use Rattle.block_split.specs.Split.{Rows, directions, direction_in, AreNodeRows, HasSlots, first_node, base_of, span}
use Rattle.block_split.proofs.Numbers.{index_is, first_low}
use Rattle.block_split.proofs.Grouped.{part_of}
use Rattle.block_split.proofs.Spots.{starts_grow}

-- ---- parts of lists

pub length_range : {A : Type 0} (xs : List A) (i j : ℕ) → j ≤ length xs → length (slice_range xs i j) ≡ j - i
length_range xs i j l = omega (arith, length-take (j - i) (drop i xs), length-drop i xs, l)

pub range_at : {A : Type 0} (xs : List A) (i j k : ℕ) (d : A) → k < j - i → get_or (slice_range xs i j) k d ≡ get_or xs (i + k) d
range_at xs i j k d l = get_or-take (j - i) (drop i xs) k d l ∙ get_or-drop i xs k d

pub all_in_range : (P : ℕ → Type 0) (xs : List ℕ) (i j : ℕ) → j ≤ length xs → ((p : ℕ) → i ≤ p → p < j → P (slice_index xs p)) → All P (slice_range xs i j)
all_in_range P xs i j l each = All-from_get_or P (slice_range xs i j) 0 (λ k lk.
    let lk' : k < j - i = omega (arith, lk, length_range xs i j l) in
    subst P (sym (range_at xs i j k 0 lk')) (each (i + k) (omega arith) (omega (arith, lk'))))

-- ---- slots

-- the place of a direction among the rows, and its slot
pub record IsSlotOf (net : Network) (blocks : ℕ) (rows : Rows) (slots : List ℕ) (x : Direction) (p : ℕ) : Type 0 where
  pub from : slice_index rows.starts (near net x) ≤ p
  pub below : p < slice_index rows.starts (near net x + 1)
  pub stands : slice_index rows.places p ≡ index_of net x
  pub slot : slice_index slots (index_of net x) ≡ p - base_of net blocks rows (block_of net blocks (near net x))
  pub base : base_of net blocks rows (block_of net blocks (near net x)) ≤ p

pub slot_of : (net : Network) (blocks : ℕ) (outer : Bool) (rows : Rows) (slots : List ℕ) (x : Direction) → IsNet net → 1 ≤ blocks
    → AreNodeRows net blocks outer rows → HasSlots net blocks rows slots → IsDirection net x → is_border net blocks x ≡ outer
    → (p : ℕ) × IsSlotOf net blocks rows slots x p
slot_of net blocks outer rows slots x h some is has d b =
    let n = nodes net in
    let v = near net x in
    let lv = near_in net x h d in
    let found = is.found x d b in
    let p = found.0 in
    let grow = starts_grow net blocks outer rows is in
    let low : slice_index rows.starts 0 ≤ p = omega (arith, found.1, grow 0 v (omega arith) (omega (arith, lv))) in
    let high : p < slice_index rows.starts n = omega (arith, found.2, grow (v + 1) n (omega (arith, lv)) (omega arith)) in
    let same : direction_in net (slice_index rows.places p) ≡ x = ap (direction_in net) found.3 ∙ index_is net x d in
    let slot : slice_index slots (index_of net x) ≡ p - base_of net blocks rows (block_of net blocks v) =
    ap (slice_index slots) (sym found.3) ∙ (has p low high ∙ ap (λ y. p - base_of net blocks rows (block_of net blocks (near net y))) same) in (
      p,
      record {
        from = found.1;
        below = found.2;
        stands = found.3;
        slot = slot;
        base = omega (arith, found.1, grow (first_node n blocks (block_of net blocks v)) v (first_low n blocks v some lv) (omega (arith, lv)));
      },
    )

-- ---- the rows of a block

-- the direction that stands at a place between the starts of two nodes
pub record StandsIn (net : Network) (blocks : ℕ) (leaves : Bool) (rows : Rows) (first next p : ℕ) : Type 0 where
  pub small : slice_index rows.places p < directions net
  pub low : first ≤ near net (direction_in net (slice_index rows.places p))
  pub high : near net (direction_in net (slice_index rows.places p)) < next
  pub outer : is_border net blocks (direction_in net (slice_index rows.places p)) ≡ leaves

pub stands_in : (net : Network) (blocks : ℕ) (outer : Bool) (rows : Rows) (first next p : ℕ) → AreNodeRows net blocks outer rows → next ≤ nodes net → first ≤ next
    → slice_index rows.starts first ≤ p → p < slice_index rows.starts next → StandsIn net blocks outer rows first next p
stands_in net blocks outer rows first next p is ln lf low high =
    let n = nodes net in
    let grow = starts_grow net blocks outer rows is in
    let part = part_of (slice_index rows.starts) n p (omega (arith, low, grow 0 first (omega arith) (omega (arith, lf, ln)))) (omega (arith, high, grow next n ln (omega arith))) in
    let v = part.0 in
    let node = is.node v p part.1 part.2 part.3 in
    let above : first ≤ v = elim (cases_lt v first) as (λ q. first ≤ v) [
      | inl less ↦ absurd (omega (arith, part.3, low, grow (v + 1) first (omega (arith, less)) (omega (arith, lf, ln))))
      | inr more ↦ omega (arith, more)
    ] in
    let below : v < next = elim (cases_lt v next) as (λ q. v < next) [
      | inl less ↦ less
      | inr more ↦ absurd (omega (arith, part.2, high, grow next v (omega (arith, more)) (omega (arith, part.1))))
    ] in
    record {
      small = is.small v p part.1 part.2 part.3;
      low = omega (arith, node, above);
      high = omega (arith, node, below);
      outer = is.outer v p part.1 part.2 part.3;
    }

pub all_in_span : (P : ℕ → Type 0) (net : Network) (blocks : ℕ) (outer : Bool) (rows : Rows) (first next : ℕ) → AreNodeRows net blocks outer rows → next ≤ nodes net → first ≤ next
    → ((p : ℕ) → StandsIn net blocks outer rows first next p → P (slice_index rows.places p)) → All P (span rows first next)
all_in_span P net blocks outer rows first next is ln lf each =
    all_in_range P rows.places (slice_index rows.starts first) (slice_index rows.starts next)
    (omega (arith, is.places_len, is.within next ln)) (λ p low high. each p (stands_in net blocks outer rows first next p is ln lf low high))

pub length_span : (net : Network) (blocks : ℕ) (outer : Bool) (rows : Rows) (first next : ℕ) → AreNodeRows net blocks outer rows → next ≤ nodes net
    → length (span rows first next) ≡ slice_index rows.starts next - slice_index rows.starts first
length_span net blocks outer rows first next is ln =
    length_range rows.places (slice_index rows.starts first) (slice_index rows.starts next) (omega (arith, is.places_len, is.within next ln))
