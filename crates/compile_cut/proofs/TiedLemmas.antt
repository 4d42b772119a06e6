-- A cost over nodes, by a hidden node that is tied to each of them.
use Rattle.std.proofs.Common.{◌≡◌, ℕ, ◌+◌, ◌*◌, ◌<◌, ◌≤◌, ◌⊎◌, Bool, true, false, not, ◌&&◌, ◌||◌, List, [], ◌∷◌, All, ℤ, pos, neg_ℤ, ◌+ℤ◌, ◌-ℤ◌, ◌≤ℤ◌, unsigned_abs, to_z, of_z, w64, refl, ap, ◌∙◌, inl, inr, arith}
use Rattle.std.specs.List.{list_all, list_any, sum_by}
use Rattle.std.proofs.Math.Nat.{mul-le-mul_left}
use Rattle.std.proofs.lemmas.Int.{ints, to_z_pos, to_z-of_z}
use Rattle.sums.proofs.IntegerSumLemmas.{abs-add, within_fits}
use Rattle.std.proofs.lemmas.Bool.{cases_Bool}
use Rattle.std.proofs.lemmas.List.Sums.{sum_by-cons}
use Rattle.std.proofs.lemmas.List.Elements.{All-head, All-tail}
use Rattle.sums.specs.Sums.{count_if}
use Rattle.sums.specs.IntegerSums.{int_counted}
use Rattle.sums.proofs.SumLemmas.{counted-le}
use Rattle.compile_cut.specs.Shown.{Shows}
use Rattle.compile_cut.proofs.PartLemmas.{passed_is}
use Rattle.compile_cut.proofs.WeightLemmas.{extended, extended-at, extended-below}

-- a cost for each node that passes a test: at least the cost where one does, and nothing where none
-- does
abbrev pub paid : (ℕ → Bool) → List ℕ → ℕ → ℕ
paid t nodes cost = sum_by (λ node. count_if (t node) cost) nodes

paid_by : (b a : Bool) (cost s : ℕ) → count_if a cost ≤ s → count_if (b || a) cost ≤ count_if b cost + s
paid_by true a cost s k = omega arith
paid_by false a cost s k = omega (arith, k)

pub paid_once : (t : ℕ → Bool) (nodes : List ℕ) (cost : ℕ) → count_if (list_any t nodes) cost ≤ paid t nodes cost
paid_once t [] cost = omega arith
paid_once t (v ∷ vs) cost = omega (arith, paid_by (t v) (list_any t vs) cost (paid t vs cost) (paid_once t vs cost), sum_by-cons (λ node. count_if (t node) cost) v vs)

none_of : (a b : Bool) → (a || b) ≡ false → (a ≡ false) × (b ≡ false)
none_of true b h = absurd (cc (h))
none_of false b h = (refl, h)

pub paid_never : (t : ℕ → Bool) (nodes : List ℕ) (cost : ℕ) → list_any t nodes ≡ false → paid t nodes cost ≡ 0
paid_never t [] cost h = refl
paid_never t (v ∷ vs) cost h =
    let parts = none_of (t v) (list_any t vs) h in
    let one : count_if (t v) cost ≡ 0 = ap (λ (b : Bool). count_if b cost) parts.0 in
    omega (arith, one, paid_never t vs cost parts.1, sum_by-cons (λ node. count_if (t node) cost) v vs)

not_both : (a b : Bool) → (not a || not b) ≡ not (a && b)
not_both true b = refl
not_both false b = refl

pub any_not : (x : ℕ → Bool) (nodes : List ℕ) → list_any (λ v. not (x v)) nodes ≡ not (list_all x nodes)
any_not x [] = refl
any_not x (v ∷ vs) = ap (λ b. not (x v) || b) (any_not x vs) ∙ not_both (x v) (list_all x vs)

-- what is asked of the nodes alone is the same of sets that are the same on them
pub all-same : (m : ℕ) (x y : ℕ → Bool) (nodes : List ℕ) → All (λ node. node < m) nodes → Shows m x y → list_all y nodes ≡ list_all x nodes
all-same m x y [] below shown = refl
all-same m x y (v ∷ vs) below shown =
    ap (λ b. b && list_all y vs) (shown v (All-head (λ node. node < m) v vs below))
    ∙ ap (λ b. x v && b) (all-same m x y vs (All-tail (λ node. node < m) v vs below) shown)

pub any-same : (m : ℕ) (x y : ℕ → Bool) (nodes : List ℕ) → All (λ node. node < m) nodes → Shows m x y → list_any y nodes ≡ list_any x nodes
any-same m x y [] below shown = refl
any-same m x y (v ∷ vs) below shown =
    ap (λ b. b || list_any y vs) (shown v (All-head (λ node. node < m) v vs below))
    ∙ ap (λ b. x v || b) (any-same m x y vs (All-tail (λ node. node < m) v vs below) shown)

-- at one value of the hidden node the cost is paid, at the other nothing or at least the cost
pub record IsTiedAt (m : ℕ) (f g : (ℕ → Bool) → ℤ) (cost : ℕ) (some : (ℕ → Bool) → Bool) (s : (ℕ → Bool) → ℕ) (pays saves : Bool) : Type 0 where
  pub either : (b : Bool) → (b ≡ pays) ⊎ (b ≡ saves)
  pub at_pays : (x : ℕ → Bool) → x m ≡ pays → g x ≡ f x +ℤ pos cost
  pub at_saves : (x : ℕ → Bool) → x m ≡ saves → g x ≡ f x +ℤ pos (s x)
  pub once : (x : ℕ → Bool) → count_if (some x) cost ≤ s x
  pub never : (x : ℕ → Bool) → some x ≡ false → s x ≡ 0
  pub old_same : (x y : ℕ → Bool) → Shows m x y → f y ≡ f x
  pub some_same : (x y : ℕ → Bool) → Shows m x y → some y ≡ some x

pub tied_lower : (m : ℕ) (f g : (ℕ → Bool) → ℤ) (cost : ℕ) (some : (ℕ → Bool) → Bool) (s : (ℕ → Bool) → ℕ) (pays saves : Bool)
    → IsTiedAt m f g cost some s pays saves → (x : ℕ → Bool) → (f x +ℤ pos (count_if (some x) cost)) ≤ℤ g x
tied_lower m f g cost some s pays saves h x = elim (h.either (x m)) [
  | inl is ↦ omega (arith, ints, h.at_pays x is, counted-le (some x) cost)
  | inr is ↦ omega (arith, ints, h.at_saves x is, h.once x)
]

counted_of : (b c : Bool) (cost : ℕ) → b ≡ c → count_if b cost ≡ count_if c cost
counted_of b c cost same = ap (λ (d : Bool). count_if d cost) same

pub tied_reached : (m : ℕ) (f g : (ℕ → Bool) → ℤ) (cost : ℕ) (some : (ℕ → Bool) → Bool) (s : (ℕ → Bool) → ℕ) (pays saves : Bool)
    → IsTiedAt m f g cost some s pays saves → (x : ℕ → Bool) → (y : ℕ → Bool) × Shows m x y × (g y ≡ f x +ℤ pos (count_if (some x) cost))
tied_reached m f g cost some s pays saves h x =
    let at = λ (w : Bool). extended x m w in
    let shown : (w : Bool) → Shows m x (at w) = λ w v l. extended-below x m w v l in
    elim (cases_Bool (some x)) [
      | inl is ↦
          let here = h.at_pays (at pays) (extended-at x m pays) in
          (at pays, shown pays, omega (arith, ints, here, h.old_same x (at pays) (shown pays), counted_of (some x) true cost is))
      | inr is ↦
          let here = h.at_saves (at saves) (extended-at x m saves) in
          let none = h.never (at saves) (h.some_same x (at saves) (shown saves) ∙ is) in
          (at saves, shown saves, omega (arith, ints, here, none, h.old_same x (at saves) (shown saves), counted_of (some x) false cost is))
    ]

pub false_or_true : (b : Bool) → (b ≡ false) ⊎ (b ≡ true)
false_or_true true = inr refl
false_or_true false = inl refl

pub true_or_false : (b : Bool) → (b ≡ true) ⊎ (b ≡ false)
true_or_false true = inl refl
true_or_false false = inr refl

-- the sums of the arcs, at the values of the hidden node
pub sum_as : (f g : ℕ → ℕ) (nodes : List ℕ) → ((v : ℕ) → f v ≡ g v) → sum_by f nodes ≡ sum_by g nodes
sum_as f g nodes same = λ j. sum_by (λ v. same v j) nodes

pub sum_none : (nodes : List ℕ) → sum_by (λ (v : ℕ). 0) nodes ≡ 0
sum_none [] = refl
sum_none (v ∷ vs) = omega (arith, sum_none vs, sum_by-cons (λ (v : ℕ). 0) v vs)

none_into : (b c : Bool) (cost : ℕ) → b ≡ false → count_if (b && c) cost ≡ 0
none_into b c cost is = ap (λ (d : Bool). count_if (d && c) cost) is

some_into : (b c : Bool) (cost : ℕ) → b ≡ true → count_if (b && c) cost ≡ count_if c cost
some_into b c cost is = ap (λ (d : Bool). count_if (d && c) cost) is

none_out : (c : Bool) (cost : ℕ) → count_if (c && false) cost ≡ 0
none_out true cost = refl
none_out false cost = refl

some_out : (c : Bool) (cost : ℕ) → count_if (c && true) cost ≡ count_if c cost
some_out true cost = refl
some_out false cost = refl

pub into_none : (x : ℕ → Bool) (m : ℕ) (nodes : List ℕ) (cost : ℕ) → x m ≡ false → sum_by (λ node. count_if (x m && not (x node)) cost) nodes ≡ 0
into_none x m nodes cost is = sum_as _ (λ v. 0) nodes (λ v. none_into (x m) (not (x v)) cost is) ∙ sum_none nodes

pub into_some : (x : ℕ → Bool) (m : ℕ) (nodes : List ℕ) (cost : ℕ) → x m ≡ true → sum_by (λ node. count_if (x m && not (x node)) cost) nodes ≡ paid (λ v. not (x v)) nodes cost
into_some x m nodes cost is = sum_as _ (λ v. count_if (not (x v)) cost) nodes (λ v. some_into (x m) (not (x v)) cost is)

pub out_none : (x : ℕ → Bool) (m : ℕ) (nodes : List ℕ) (cost : ℕ) → x m ≡ true → sum_by (λ node. count_if (x node && not (x m)) cost) nodes ≡ 0
out_none x m nodes cost is = sum_as _ (λ v. 0) nodes (λ v. ap (λ (b : Bool). count_if (x v && not b) cost) is ∙ none_out (x v) cost) ∙ sum_none nodes

pub out_some : (x : ℕ → Bool) (m : ℕ) (nodes : List ℕ) (cost : ℕ) → x m ≡ false → sum_by (λ node. count_if (x node && not (x m)) cost) nodes ≡ paid x nodes cost
out_some x m nodes cost is = sum_as _ (λ v. count_if (x v) cost) nodes (λ v. ap (λ (b : Bool). count_if (x v && not b) cost) is ∙ some_out (x v) cost)

-- the values of the new form
pub unless_pays : (q v v' : ℤ) (a a' s cost : ℕ) (b : Bool) → v' ≡ v +ℤ int_counted b (neg_ℤ (pos cost)) → a' ≡ a + s → b ≡ false → s ≡ 0
    → ((q +ℤ pos cost) +ℤ v' +ℤ pos a') ≡ (q +ℤ v +ℤ pos a) +ℤ pos cost
unless_pays q v v' a a' s cost b hv ha is none =
    let zero_weight = ap (λ (d : Bool). int_counted d (neg_ℤ (pos cost))) is in
    omega (arith, ints, hv, ha, none, zero_weight)

pub unless_saves : (q v v' : ℤ) (a a' s t cost : ℕ) (b : Bool) → v' ≡ v +ℤ int_counted b (neg_ℤ (pos cost)) → a' ≡ a + s → b ≡ true → s ≡ t
    → ((q +ℤ pos cost) +ℤ v' +ℤ pos a') ≡ (q +ℤ v +ℤ pos a) +ℤ pos t
unless_saves q v v' a a' s t cost b hv ha is some =
    let weight = ap (λ (d : Bool). int_counted d (neg_ℤ (pos cost))) is in
    omega (arith, ints, hv, ha, some, weight)

pub any_pays : (q v v' : ℤ) (a a' s cost : ℕ) (b : Bool) → v' ≡ v +ℤ int_counted b (pos cost) → a' ≡ a + s → b ≡ true → s ≡ 0
    → (q +ℤ v' +ℤ pos a') ≡ (q +ℤ v +ℤ pos a) +ℤ pos cost
any_pays q v v' a a' s cost b hv ha is none =
    let weight = ap (λ (d : Bool). int_counted d (pos cost)) is in
    omega (arith, ints, hv, ha, none, weight)

pub any_saves : (q v v' : ℤ) (a a' s t cost : ℕ) (b : Bool) → v' ≡ v +ℤ int_counted b (pos cost) → a' ≡ a + s → b ≡ false → s ≡ t
    → (q +ℤ v' +ℤ pos a') ≡ (q +ℤ v +ℤ pos a) +ℤ pos t
any_saves q v v' a a' s t cost b hv ha is some =
    let zero_weight = ap (λ (d : Bool). int_counted d (pos cost)) is in
    omega (arith, ints, hv, ha, some, zero_weight)

-- numbers of the machine
pub cast_is : (cost : ℕ) → cost ≤ 1000000000 → to_z w64 cost ≡ pos cost
cast_is cost h = to_z_pos w64 cost (omega arith)

pub minus_cast : (cost : ℕ) → cost ≤ 1000000000 → to_z w64 (of_z w64 (pos 0 -ℤ to_z w64 cost)) ≡ neg_ℤ (pos cost)
minus_cast cost h =
    let is = cast_is cost h in
    rw is (passed_is (pos 0 -ℤ pos cost) (omega (arith, ints)) ∙ omega (arith, ints))

pub plus_cast : (q : ℤ) (cost : ℕ) → unsigned_abs q ≤ 1000000000000000000 → cost ≤ 1000000000 → to_z w64 (of_z w64 (to_z w64 (of_z w64 q) +ℤ to_z w64 cost)) ≡ q +ℤ pos cost
plus_cast q cost h k =
    let is = cast_is cost k in
    let own = passed_is q h in
    rw (is, own) (to_z-of_z w64 (q +ℤ pos cost) (within_fits 2000000000000000000 (q +ℤ pos cost) (omega (arith, ints, h, abs-add q (pos cost))) (omega arith)))

-- the terms that a tied cost comes to
pub tied_constant : (q : ℤ) (c times cost k terms : ℕ) → unsigned_abs q ≤ 1000000000000000 + 1000000000 * k → c ≤ cost → 1 ≤ times → cost * times ≤ 1000000000 * terms
    → unsigned_abs (q +ℤ pos c) ≤ 1000000000000000 + 1000000000 * (k + terms)
tied_constant q c times cost k terms h l one room =
    let some : cost ≤ cost * times = omega (arith, mul-le-mul_left cost one) in
    omega (arith, ints, h, l, some, room, abs-add q (pos c))

pub tied_size : (w a w' a' len cost k terms : ℕ) → w + a ≤ 56 * 1000000000 * k → w' ≡ w + cost → a' ≡ a + cost * len → cost * (len + 1) ≤ 1000000000 * terms
    → w' + a' ≤ 56 * 1000000000 * (k + terms)
tied_size w a w' a' len cost k terms h hw ha room = omega (arith, h, hw, ha, room)
