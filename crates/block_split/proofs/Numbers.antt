-- Directions by their indices, and nodes by their blocks.
use Rattle.std.proofs.Common.{◌≡◌, ℕ, ◌+◌, ◌-◌, ◌*◌, ◌/◌, ◌%◌, ◌<◌, ◌≤◌, Bool, true, false, cond, nat_lt, length, refl, ◌∙◌, ap, inl, inr, arith}
use Rattle.std.proofs.lemmas.Bool.{cases_lt, true≢false, false≢true}
use Rattle.std.proofs.lemmas.Bool.Decides.{nat_tests}
use Rattle.std.proofs.lemmas.Nat.{div-add-mod', mul-le, div_below, le-div}
use Rattle.flow_network.specs.Cut.{Network}
use Rattle.block_events.specs.declared.direction.Direction.{Direction}
use Rattle.block_events.specs.Directions.{IsDirection, alike}
use Rattle.block_net.specs.Whole.{index_of}
use Rattle.block_split.specs.Split.{directions, direction_in, slot_direction, first_node}

-- ---- tests

pub lt_true : (a b : ℕ) → a < b → nat_lt a b ≡ true
lt_true a b h = grind (arith, nat_tests)

pub lt_false : (a b : ℕ) → b ≤ a → nat_lt a b ≡ false
lt_false a b h = grind (arith, nat_tests)

pub alike_true : (a b : Bool) → alike a b ≡ true → a ≡ b
alike_true true true h = refl
alike_true true false h = absurd (false≢true h)
alike_true false true h = absurd (false≢true h)
alike_true false false h = refl

pub alike_same : (a b : Bool) → a ≡ b → alike a b ≡ true
alike_same true true h = refl
alike_same true false h = absurd (true≢false h)
alike_same false true h = absurd (false≢true h)
alike_same false false h = refl

-- ---- directions

abbrev pub direction : ℕ → Bool → Direction
direction k b = record { arc = k; back = b }

along_same : (k j : ℕ) (b c : Bool) → k ≡ j → b ≡ c → direction k b ≡ direction j c
along_same k j b c e f = rw (e, f) refl

pub arc_of_low : (m i : ℕ) → i < m → slot_direction m i ≡ direction i false
arc_of_low m i h = along_same _ _ _ _ (rw (lt_true i m h) refl) (rw (lt_true i m h) refl)

pub arc_of_high : (m i : ℕ) → m ≤ i → slot_direction m i ≡ direction (i - m) true
arc_of_high m i h = along_same _ _ _ _ (rw (lt_false i m h) refl) (rw (lt_false i m h) refl)

pub is_direction : (net : Network) (i : ℕ) → i < directions net → IsDirection net (direction_in net i)
is_direction net i h =
    let m = length net.arcs in
    elim (cases_lt i m) [
      | inl low ↦ omega (arith, low, ap (λ (x : Direction). x.arc) (arc_of_low m i low))
      | inr high ↦ omega (arith, h, high, ap (λ (x : Direction). x.arc) (arc_of_high m i (omega (arith, high))))
    ]

index_small' : (m k : ℕ) (b : Bool) → k < m → cond b (m + k) k < 2 * m
index_small' m k true h = omega (arith, h)
index_small' m k false h = omega (arith, h)

pub index_small : (net : Network) (x : Direction) → IsDirection net x → index_of net x < directions net
index_small net x h = index_small' (length net.arcs) x.arc x.back h

index_back : (m k : ℕ) (b : Bool) → k < m → slot_direction m (cond b (m + k) k) ≡ direction k b
index_back m k true h = arc_of_high m (m + k) (omega arith) ∙ along_same _ _ _ _ (omega arith) refl
index_back m k false h = arc_of_low m k h

pub index_is : (net : Network) (x : Direction) → IsDirection net x → direction_in net (index_of net x) ≡ x
index_is net x h = index_back (length net.arcs) x.arc x.back h

pub index_forth : (net : Network) (i : ℕ) → i < directions net → index_of net (direction_in net i) ≡ i
index_forth net i h =
    let m = length net.arcs in
    elim (cases_lt i m) [
      | inl low ↦ ap (index_of net) (arc_of_low m i low)
      | inr high ↦
          let le : m ≤ i = omega (arith, high) in
          let e : index_of net (direction (i - m) true) ≡ i = omega (arith, le) in
          ap (index_of net) (arc_of_high m i le) ∙ e
    ]

-- ---- blocks

one_more : (v b : ℕ) → (v + 1) * b ≡ v * b + b
one_more v b = grind arith

swapped : (a b : ℕ) → a * b ≡ b * a
swapped a b = grind arith

mul_pos : (a b : ℕ) → 1 ≤ a → 1 ≤ b → 1 ≤ a * b
mul_pos a b la lb = mul-le 1 1 a b la lb

pub node_block_below : (n blocks v : ℕ) → 1 ≤ blocks → v < n → (v * blocks) / n < blocks
node_block_below n blocks v some l =
    div_below (v * blocks) n blocks (omega (arith, l)) (omega (arith, some, one_more v blocks, swapped n blocks, mul-le (v + 1) blocks n blocks (omega (arith, l)) (omega arith)))

pub first_low : (n blocks v : ℕ) → 1 ≤ blocks → v < n → first_node n blocks ((v * blocks) / n) ≤ v
first_low n blocks v some l =
    let b = (v * blocks) / n in
    let split = div-add-mod' (v * blocks) n in
    let below = div_below (b * n + (blocks - 1)) blocks (v + 1) (omega (arith, some)) (omega (arith, some, split, one_more v blocks)) in
    omega (arith, below)

pub first_high : (n blocks v : ℕ) → 1 ≤ blocks → v < n → v < first_node n blocks ((v * blocks) / n + 1)
first_high n blocks v some l =
    let b = (v * blocks) / n in
    let split = div-add-mod' (v * blocks) n in
    let rest : (v * blocks) % n < n = omega (arith, l) in
    let le = le-div (v + 1) ((b + 1) * n + (blocks - 1)) blocks (omega (arith, some)) (omega (arith, some, split, rest, one_more v blocks, one_more b n)) in
    omega (arith, le)

pub first_within : (n blocks b : ℕ) → 1 ≤ blocks → b ≤ blocks → first_node n blocks b ≤ n
first_within n blocks b some l =
    let below = div_below (b * n + (blocks - 1)) blocks (n + 1) (omega (arith, some)) (omega (arith, some, one_more n blocks, swapped n blocks, mul-le b n blocks n l (omega arith))) in
    omega (arith, below)

pub first_grows : (n blocks b : ℕ) → 1 ≤ blocks → first_node n blocks b ≤ first_node n blocks (b + 1)
first_grows n blocks b some =
    let f = first_node n blocks b in
    let split = div-add-mod' (b * n + (blocks - 1)) blocks in
    le-div f ((b + 1) * n + (blocks - 1)) blocks (omega (arith, some)) (omega (arith, split, one_more b n))

-- a node from the first of a block on, and before the next block's first, lies in the block
pub node_block_is : (n blocks b v : ℕ) → 1 ≤ blocks → v < n → first_node n blocks b ≤ v → v < first_node n blocks (b + 1) → (v * blocks) / n ≡ b
node_block_is n blocks b v some l low high =
    let q = first_node n blocks b in
    let q' = first_node n blocks (b + 1) in
    let split = div-add-mod' (b * n + (blocks - 1)) blocks in
    let rest : (b * n + (blocks - 1)) % blocks < blocks = omega (arith, some) in
    let below : b * n ≤ v * blocks = omega (arith, some, split, rest, mul-le q blocks v blocks low (omega arith)) in
    let split' = div-add-mod' ((b + 1) * n + (blocks - 1)) blocks in
    let above : v * blocks < (b + 1) * n =
    omega (arith, some, split', one_more v blocks, mul-le (v + 1) blocks q' blocks (omega (arith, high)) (omega arith), mul_pos (b + 1) n (omega arith) (omega (arith, l))) in
    omega (arith, le-div b (v * blocks) n (omega (arith, l)) below, div_below (v * blocks) n (b + 1) (omega (arith, l)) above)

pub first_zero : (n blocks : ℕ) → 1 ≤ blocks → first_node n blocks 0 ≡ 0
first_zero n blocks some =
    let below = div_below (0 * n + (blocks - 1)) blocks 1 (omega (arith, some)) (omega (arith, some)) in
    omega (arith, below)

pub first_last : (n blocks : ℕ) → 1 ≤ blocks → first_node n blocks blocks ≡ n
first_last n blocks some =
    let most = first_within n blocks blocks some (omega arith) in
    let least = le-div n (blocks * n + (blocks - 1)) blocks (omega (arith, some)) (omega (arith, swapped n blocks)) in
    omega (arith, most, least)
