-- Sums over all messages, way by way, and over all directions, node by node.
use Rattle.std.proofs.Common.{◌≡◌, ℕ, zero, suc, ◌+◌, ◌<◌, eqb, List, [], ◌∷◌, length, get_or, sum_by, refl, sym, ◌∙◌, ap, inl, inr, ◌⊎◌, arith}
use Rattle.std.proofs.lemmas.List.{get_or_past}
use Rattle.std.proofs.lemmas.List.Sums.{sum_by-cons}
use Rattle.std.proofs.lemmas.Bool.{cases_lt, cases_Bool, eqb-true}
use Rattle.sums.specs.Sums.{sum_below, count_if}
use Rattle.sums.proofs.SumLemmas.{sum_below-add, sum_below-same, sum_below-zero, sum_below-none, sum_below-change, sum_below-swap, sum_below-pick, sum_by-sum_below}
use Rattle.flow_network.specs.Cut.{Network, nodes, IsNet}
use Rattle.block_events.specs.declared.direction.Direction.{Direction}
use Rattle.block_events.specs.declared.message.Message.{Message}
use Rattle.block_events.specs.Directions.{forward, backward, IsDirection, near, sum_leaving, over_directions}
use Rattle.block_events.specs.States.{way_at, over_messages}
use Rattle.block_events.specs.Soundness.{IsSquare}
use Rattle.block_events.proofs.Ends.{near_in}

-- ---- sums with one term

pub sum_only : (n u : ℕ) (f : ℕ → ℕ) → u < n → ((i : ℕ) → i < n → (i ≡ u → ⊥) → f i ≡ 0) → sum_below n f ≡ f u
sum_only n u f l off = omega (arith, sum_below-change n u (λ i. 0) f l (λ i h ne. sym (off i h ne)), sum_below-zero n)

-- ---- over all ways

pub each_way : (n : ℕ) (f : Message → ℕ) (ways : List (List (List Message))) → IsSquare n ways
    → over_messages f ways ≡ sum_below n (λ i. sum_below n (λ j. sum_by f (way_at ways i j)))
each_way n f ways sq =
    sum_by-sum_below (λ (r : List (List Message)). sum_by (λ w. sum_by f w) r) ways []
    ∙ (ap (λ k. sum_below k (λ i. sum_by (λ (w : List Message). sum_by f w) (get_or ways i []))) sq.rows
    ∙ sum_below-same n (λ i. sum_by (λ (w : List Message). sum_by f w) (get_or ways i [])) (λ i. sum_below n (λ j. sum_by f (way_at ways i j))) (λ i li.
    sum_by-sum_below (λ (w : List Message). sum_by f w) (get_or ways i []) []
    ∙ ap (λ k. sum_below k (λ j. sum_by f (way_at ways i j))) (sq.columns i li)))

pub over_same : (n : ℕ) (f g : Message → ℕ) (ways : List (List (List Message))) → IsSquare n ways
    → ((i j : ℕ) → i < n → j < n → sum_by f (way_at ways i j) ≡ sum_by g (way_at ways i j)) → over_messages f ways ≡ over_messages g ways
over_same n f g ways sq same =
    each_way n f ways sq
    ∙ (sum_below-same n (λ i. sum_below n (λ j. sum_by f (way_at ways i j))) (λ i. sum_below n (λ j. sum_by g (way_at ways i j))) (λ i li.
    sum_below-same n (λ j. sum_by f (way_at ways i j)) (λ j. sum_by g (way_at ways i j)) (λ j lj. same i j li lj))
    ∙ sym (each_way n g ways sq))

pub over_node_block : (n : ℕ) (f : Message → ℕ) (ways : List (List (List Message))) (b c : ℕ) → IsSquare n ways → b < n → c < n
    → ((i j : ℕ) → i < n → j < n → (i ≡ b → j ≡ c → ⊥) → sum_by f (way_at ways i j) ≡ 0) → over_messages f ways ≡ sum_by f (way_at ways b c)
over_node_block n f ways b c sq lb lc off =
    each_way n f ways sq
    ∙ (sum_only n b (λ i. sum_below n (λ j. sum_by f (way_at ways i j))) lb (λ i li ne. sum_below-none n (λ j. sum_by f (way_at ways i j)) (λ j lj. off i j li lj (λ e g. ne e)))
    ∙ sum_only n c (λ j. sum_by f (way_at ways b j)) lc (λ j lj ne. off b j lb lj (λ e g. ne g)))

pub sum_by_both : {A : Type 0} (f g : A → ℕ) (xs : List A) → sum_by (λ x. f x + g x) xs ≡ sum_by f xs + sum_by g xs
sum_by_both f g [] = refl
sum_by_both f g (x ∷ xs) = omega (arith, sum_by_both f g xs, sum_by-cons f x xs, sum_by-cons g x xs, sum_by-cons (λ y. f y + g y) x xs)

pub over_both : (n : ℕ) (f g : Message → ℕ) (ways : List (List (List Message))) → IsSquare n ways
    → over_messages (λ m. f m + g m) ways ≡ over_messages f ways + over_messages g ways
over_both n f g ways sq =
    let F = λ (i j : ℕ). sum_by f (way_at ways i j) in
    let G = λ (i j : ℕ). sum_by g (way_at ways i j) in
    let inside = sum_below-same n (λ i. sum_below n (λ j. sum_by (λ m. f m + g m) (way_at ways i j))) (λ i. sum_below n (F i) + sum_below n (G i)) (λ i li.
    sum_below-same n (λ j. sum_by (λ m. f m + g m) (way_at ways i j)) (λ j. F i j + G i j) (λ j lj. sum_by_both f g (way_at ways i j)) ∙ sum_below-add n (F i) (G i)) in
    let outside = sum_below-add n (λ i. sum_below n (F i)) (λ i. sum_below n (G i)) in
    omega (arith, each_way n (λ m. f m + g m) ways sq, inside, outside, each_way n f ways sq, each_way n g ways sq)

pub sum_same : {A : Type 0} (f g : A → ℕ) (xs : List A) → ((k : ℕ) (d : A) → k < length xs → f (get_or xs k d) ≡ g (get_or xs k d)) → sum_by f xs ≡ sum_by g xs
sum_same f g [] each = refl
sum_same f g (x ∷ xs) each =
    omega (arith, sum_same f g xs (λ k d l. each (suc k) d (omega (arith, l))), each 0 x (omega arith), sum_by-cons f x xs, sum_by-cons g x xs)

sum_by_zero : {A : Type 0} (xs : List A) → sum_by (λ x. 0) xs ≡ 0
sum_by_zero [] = refl
sum_by_zero (x ∷ xs) = omega (arith, sum_by_zero xs, sum_by-cons (λ y. 0) x xs)

pub sum_none : {A : Type 0} (f : A → ℕ) (xs : List A) → ((k : ℕ) (d : A) → k < length xs → f (get_or xs k d) ≡ 0) → sum_by f xs ≡ 0
sum_none f xs each = sum_same f (λ x. 0) xs each ∙ sum_by_zero xs

over_nothing : (n : ℕ) (ways : List (List (List Message))) → IsSquare n ways → over_messages (λ m. 0) ways ≡ 0
over_nothing n ways sq =
    each_way n (λ m. 0) ways sq
    ∙ sum_below-none n (λ i. sum_below n (λ j. sum_by (λ m. 0) (way_at ways i j))) (λ i li. sum_below-none n (λ j. sum_by (λ m. 0) (way_at ways i j)) (λ j lj. sum_by_zero (way_at ways i j)))

pub over_none : (n : ℕ) (f : Message → ℕ) (ways : List (List (List Message))) → IsSquare n ways
    → ((i j : ℕ) → i < n → j < n → sum_by f (way_at ways i j) ≡ 0) → over_messages f ways ≡ 0
over_none n f ways sq none = over_same n f (λ m. 0) ways sq (λ i j li lj. none i j li lj ∙ sym (sum_by_zero (way_at ways i j))) ∙ over_nothing n ways sq

pub over_sum : (n m : ℕ) (f : ℕ → Message → ℕ) (ways : List (List (List Message))) → IsSquare n ways
    → sum_below m (λ k. over_messages (f k) ways) ≡ over_messages (λ q. sum_below m (λ k. f k q)) ways
over_sum n zero f ways sq = sym (over_nothing n ways sq)
over_sum n (suc m) f ways sq = omega (arith, over_sum n m f ways sq, over_both n (λ q. sum_below m (λ k. f k q)) (f m) ways sq)

-- a way is empty, or lies between two blocks
pub in_or_none : (n : ℕ) (ways : List (List (List Message))) (b c : ℕ) → IsSquare n ways → ((b < n) × (c < n)) ⊎ (length (way_at ways b c) ≡ 0)
in_or_none n ways b c sq = elim (cases_lt b n) [
  | inr past ↦ inr (ap (λ (r : List (List Message)). length (get_or r c [])) (get_or_past ways b [] (omega (arith, sq.rows))))
  | inl lb ↦ elim (cases_lt c n) [
    | inl lc ↦ inl (lb, lc)
    | inr past ↦ inr (ap (λ (r : List Message). length r) (get_or_past (get_or ways b []) c [] (omega (arith, sq.columns b lb))))
  ]
]

-- ---- over the directions that leave a node

leaving_one : (net : Network) (v : ℕ) (f g : Direction → ℕ) (x : Direction) → IsDirection net x → ((x : Direction) → IsDirection net x → near net x ≡ v → f x ≡ g x)
    → count_if (eqb (near net x) v) (f x) ≡ count_if (eqb (near net x) v) (g x)
leaving_one net v f g x lx same = elim (cases_Bool (eqb (near net x) v)) [
  | inl yes' ↦ rw yes' (same x lx (eqb-true (near net x) v yes'))
  | inr no' ↦ rw no' refl
]

pub leaving_same : (net : Network) (v : ℕ) (f g : Direction → ℕ) → ((x : Direction) → IsDirection net x → near net x ≡ v → f x ≡ g x) → sum_leaving net v f ≡ sum_leaving net v g
leaving_same net v f g same =
    sum_below-same (length net.arcs) (λ k. count_if (eqb (near net (forward k)) v) (f (forward k)) + count_if (eqb (near net (backward k)) v) (f (backward k)))
    (λ k. count_if (eqb (near net (forward k)) v) (g (forward k)) + count_if (eqb (near net (backward k)) v) (g (backward k)))
    (λ k l. omega (arith, leaving_one net v f g (forward k) l same, leaving_one net v f g (backward k) l same))

-- each direction leaves one node
pub all_leave : (net : Network) (f : Direction → ℕ) → IsNet net → sum_below (nodes net) (λ v. sum_leaving net v f) ≡ over_directions (length net.arcs) f
all_leave net f h =
    let n = nodes net in
    let m = length net.arcs in
    let F = λ (v k : ℕ). count_if (eqb (near net (forward k)) v) (f (forward k)) in
    let B = λ (v k : ℕ). count_if (eqb (near net (backward k)) v) (f (backward k)) in
    sum_below-swap n m (λ v k. F v k + B v k)
    ∙ sum_below-same m (λ k. sum_below n (λ v. F v k + B v k)) (λ k. f (forward k) + f (backward k)) (λ k l.
    let p = sum_below-pick n (near net (forward k)) (λ v. f (forward k)) (near_in net (forward k) h l) in
    let q = sum_below-pick n (near net (backward k)) (λ v. f (backward k)) (near_in net (backward k) h l) in
    omega (arith, sum_below-add n (λ v. F v k) (λ v. B v k), p, q))
