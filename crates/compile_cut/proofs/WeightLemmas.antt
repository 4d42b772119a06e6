-- What adding to a weight, or adding a table, changes.
use Rattle.std.proofs.Common.{◌≢◌, [], ◌∷◌, ◌++◌, suc, All, eq-eqb, inl, inr, ◌≡◌, ℕ, ◌+◌, ◌*◌, ◌<◌, ◌≤◌, Bool, true, false, not, ◌&&◌, cond, eqb, List, length, set, ℤ, pos, ◌+ℤ◌, ◌-ℤ◌, unsigned_abs, refl, sym, ap, ◌∙◌, arith, get_or-set_other, get_or-set_same}
use Rattle.std.proofs.Math.ListN.{length-set}
use Rattle.std.proofs.lemmas.Bool.Decides.{eqb_tells}
use Rattle.std.proofs.lemmas.Int.{ints}
use Rattle.std.proofs.Math.ListN.{get_or-append}
use Rattle.std.proofs.Math.Seq.{get_or-append_seam}
use Rattle.std.proofs.lemmas.List.{length-append}
use Rattle.std.proofs.lemmas.List.Elements.{All-head, All-tail, All-cons, All-nil}
use Rattle.std.proofs.lemmas.List.Sums.{get_or-le-sum_by, sum_by-cons}
use Rattle.sums.specs.Sums.{count_if}
use Rattle.sums.specs.IntegerSums.{int_sum_below, int_counted}
use Rattle.sums.proofs.IntegerSumLemmas.{int_sum_below-change, int_sum_below-same}
use Rattle.pseudo_bool.specs.Energies.{entry, digit}
use Rattle.flow_network.specs.declared.arc.Arc.{Arc}
use Rattle.flow_network.specs.Cut.{enters, IsArc}
use Rattle.compile_cut.specs.Shown.{Shows}
use Rattle.compile_cut.specs.Weights.{weights_value, weights_size, arcs_value, AddsArcs}
use Rattle.compile_cut.specs.declared.three.ThreePart.{ThreePart}
use Rattle.compile_cut.specs.Three.{hidden_value, part_value, entry_of_three, IsLeastOverHidden}
use Rattle.compile_cut.proofs.PartLemmas.{one_parts, pair_parts}

int_counted-add : (b : Bool) (y z : ℤ) → int_counted b (y +ℤ z) ≡ int_counted b y +ℤ int_counted b z
int_counted-add true y z = refl
int_counted-add false y z = omega (arith, ints)

-- a list with one number changed, under a sum of what f makes of each
int_sum_below-set : (ws : List ℤ) (at : ℕ) (z : ℤ) (f : ℕ → ℤ → ℤ) → at < length ws
    → int_sum_below (length (set ws at z)) (λ i. f i (entry (set ws at z) i)) +ℤ f at (entry ws at)
    ≡ int_sum_below (length ws) (λ i. f i (entry ws i)) +ℤ f at z
int_sum_below-set ws at z f h =
    let here : entry (set ws at z) at ≡ z = get_or-set_same ws at z (pos 0) h in
    let change = int_sum_below-change (length ws) at (λ i. f i (entry ws i)) (λ i. f i (entry (set ws at z) i)) h
    (λ i l ne. ap (f i) (sym (get_or-set_other ws at i z (pos 0) ne))) in
    rw (length-set ws at z) (omega (arith, ints, change, ap (f at) here))

pub weights_value-add : (ws : List ℤ) (at : ℕ) (by : ℤ) (x : ℕ → Bool) → at < length ws
    → weights_value (set ws at (entry ws at +ℤ by)) x ≡ weights_value ws x +ℤ int_counted (x at) by
weights_value-add ws at by x h =
    omega (arith, ints, int_sum_below-set ws at (entry ws at +ℤ by) (λ i z. int_counted (x i) z) h, int_counted-add (x at) (entry ws at) by)

-- a weight is at most all weights together
pub weight_small : (ws : List ℤ) (at : ℕ) → at < length ws → weights_size ws ≤ 1000000000000000000 → unsigned_abs (entry ws at) ≤ 1000000000000000000
weight_small ws at h s = omega (arith, get_or-le-sum_by unsigned_abs ws at (pos 0) h, s)

-- a form with one table added
pub one_more : (k0 k w v v' : ℤ) (a : ℕ) (table : List ℤ) (b : Bool)
    → v' ≡ v +ℤ int_counted b w → k ≡ entry table 0 → w ≡ entry table 1 -ℤ entry table 0
    → k0 +ℤ k +ℤ v' +ℤ pos a ≡ k0 +ℤ v +ℤ pos a +ℤ entry table (digit b)
one_more k0 k w v v' a table b hv hk hw = omega (arith, ints, one_parts table k w b hk hw, hv)

pub pair_more : (k0 k f s v v' v'' : ℤ) (g a a' : ℕ) (table : List ℤ) (b c : Bool)
    → v' ≡ v +ℤ int_counted b f → v'' ≡ v' +ℤ int_counted c s → a' ≡ a + count_if (c && not b) g
    → k ≡ entry table 0 → f ≡ entry table 2 -ℤ entry table 0 → s ≡ entry table 3 -ℤ entry table 2
    → pos g ≡ entry table 1 +ℤ entry table 2 -ℤ entry table 0 -ℤ entry table 3
    → k0 +ℤ k +ℤ v'' +ℤ pos a' ≡ k0 +ℤ v +ℤ pos a +ℤ entry table (2 * digit b + digit c)
pair_more k0 k f s v v' v'' g a a' table b c hv hv' ha hk hf hs hg =
    omega (arith, ints, pair_parts table k f s g b c hk hf hs hg, hv, hv', ha)

-- ---- arcs, one after another

pub both_below : (n a b : ℕ) → a < n → b < n → All (λ end. end < n) (a ∷ b ∷ [])
both_below n a b la lb =
    All-cons (λ end. end < n) a (b ∷ []) la (All-cons (λ end. end < n) b [] lb (All-nil (λ end. end < n)))

-- the ends of arcs are among the nodes of a longer list
pub adds_among : (a b : List Arc) (ends more : List ℕ) (t : ℕ) (f : (ℕ → Bool) → ℕ)
    → ((n : ℕ) → All (λ end. end < n) more → All (λ end. end < n) ends) → AddsArcs a b ends t f → AddsArcs a b more t f
adds_among a b ends more t f among h = record {
  value = h.value;
  size = h.size;
  nodes = λ n below all. h.nodes n (among n below) all;
  above = h.above;
}

pub adds_then : (a b c : List Arc) (ends : List ℕ) (t u : ℕ) (f g : (ℕ → Bool) → ℕ) → AddsArcs a b ends t f → AddsArcs b c ends u g
    → AddsArcs a c ends (t + u) (λ x. f x + g x)
adds_then a b c ends t u f g h k = record {
  value = λ x. omega (arith, h.value x, k.value x);
  size = omega (arith, h.size, k.size);
  nodes = λ n below all. k.nodes n below (h.nodes n below all);
  above = λ all. k.above (h.above all);
}

-- three arcs, between nodes of a list
pub adds_three : (a b c d : List Arc) (ends : List ℕ) (t u v : ℕ) (f g h : (ℕ → Bool) → ℕ) → AddsArcs a b ends t f → AddsArcs b c ends u g
    → AddsArcs c d ends v h → AddsArcs a d ends (t + u + v) (λ x. f x + g x + h x)
adds_three a b c d ends t u v f g h one two three =
    adds_then a c d ends (t + u) v (λ x. f x + g x) h (adds_then a b c ends t u f g one two) three

-- ---- a hidden node

pub weights_value-push : (ws : List ℤ) (w : ℤ) (x : ℕ → Bool) → weights_value (ws ++ w ∷ []) x ≡ weights_value ws x +ℤ int_counted (x (length ws)) w
weights_value-push ws w x =
    let n = length ws in
    let all = λ (i : ℕ). int_counted (x i) (entry (ws ++ w ∷ []) i) in
    let len : length (ws ++ w ∷ []) ≡ suc n = omega (arith, length-append ws (w ∷ [])) in
    let before = int_sum_below-same n all (λ i. int_counted (x i) (entry ws i)) (λ i l. ap (int_counted (x i)) (get_or-append ws (w ∷ []) (pos 0) i l)) in
    let last = ap (int_counted (x n)) (get_or-append_seam ws w [] (pos 0)) in
    omega (arith, ints, ap (λ m. int_sum_below m all) len, before, last)

-- sets that are the same on the nodes have the same value
pub weights_value-same : (ws : List ℤ) (x y : ℕ → Bool) → Shows (length ws) x y → weights_value ws y ≡ weights_value ws x
weights_value-same ws x y s =
    int_sum_below-same (length ws) (λ i. int_counted (y i) (entry ws i)) (λ i. int_counted (x i) (entry ws i)) (λ i l. ap (λ b. int_counted b (entry ws i)) (s i l))

enters-same : (n : ℕ) (x y : ℕ → Bool) (arc : Arc) → Shows n x y → IsArc n arc → enters y arc ≡ enters x arc
enters-same n x y arc s h =
    ap (λ b. b && not (y arc.from)) (s arc.to h.to) ∙ ap (λ b. x arc.to && not b) (s arc.from h.from)

pub arcs_value-same : (n : ℕ) (arcs : List Arc) (x y : ℕ → Bool) → Shows n x y → All (IsArc n) arcs → arcs_value arcs y ≡ arcs_value arcs x
arcs_value-same n [] x y s h = refl
arcs_value-same n (arc ∷ arcs) x y s h =
    let one = ap (λ b. count_if b arc.capacity) (enters-same n x y arc s (All-head (IsArc n) arc arcs h)) in
    omega (
      arith,
      one,
      arcs_value-same n arcs x y s (All-tail (IsArc n) arc arcs h),
      sum_by-cons (λ (a : Arc). count_if (enters y a) a.capacity) arc arcs,
      sum_by-cons (λ (a : Arc). count_if (enters x a) a.capacity) arc arcs,
    )

pub three_more : (q v v1 v2 : ℤ) (a a1 a2 : ℕ) (p : ThreePart) (w x y z : Bool)
    → v1 ≡ v +ℤ int_counted w p.hidden → v2 ≡ v1 +ℤ int_counted x p.first +ℤ int_counted y p.second +ℤ int_counted z p.third
    → a1 ≡ a + count_if (y && not x) p.arcs.first_second + count_if (z && not x) p.arcs.first_third + count_if (z && not y) p.arcs.second_third
    → a2 ≡ a1 + hidden_value p.hidden w x y z
    → q +ℤ p.constant +ℤ v2 +ℤ pos a2 ≡ q +ℤ v +ℤ pos a +ℤ part_value p w x y z
three_more q v v1 v2 a a1 a2 p w x y z hv hv2 ha ha2 = omega (arith, ints, hv, hv2, ha, ha2)

not_eqb : (a b : ℕ) → a ≢ b → eqb a b ≡ false
not_eqb a b ne = elim (eqb_tells a b) [ inl h ↦ absurd (ne h.1) | inr h ↦ h.0 ]

-- a set with one node more
pub extended : (ℕ → Bool) → ℕ → Bool → ℕ → Bool
extended x m w v = cond (eqb v m) w (x v)

pub extended-at : (x : ℕ → Bool) (m : ℕ) (w : Bool) → extended x m w m ≡ w
unfolding extended
extended-at x m w = ap (λ b. cond b w (x m)) (eq-eqb m m refl)

pub extended-below : (x : ℕ → Bool) (m : ℕ) (w : Bool) (v : ℕ) → v < m → extended x m w v ≡ x v
unfolding extended
extended-below x m w v l = let other : v ≢ m = omega arith in ap (λ b. cond b w (x v)) (not_eqb v m other)

-- of the sets that are the same on the old nodes, one has the table's entry
pub reaches : (m : ℕ) (f g : (ℕ → Bool) → ℤ) (table : List ℤ) (p : ThreePart) (a b c : ℕ) → a < m → b < m → c < m → IsLeastOverHidden table p
    → ((x : ℕ → Bool) → g x ≡ f x +ℤ part_value p (x m) (x a) (x b) (x c)) → ((x y : ℕ → Bool) → Shows m x y → f y ≡ f x)
    → (x : ℕ → Bool) → (y : ℕ → Bool) × Shows m x y × (g y ≡ f x +ℤ entry_of_three table (x a) (x b) (x c))
reaches m f g table p a b c la lb lc least is same x =
    let best = least.reached (x a) (x b) (x c) in
    let w = best.0 in
    let y = extended x m w in
    let shows : Shows m x y = λ v l. extended-below x m w v l in
    let parts =
    ap (λ u. part_value p u (y a) (y b) (y c)) (extended-at x m w)
    ∙ ap (λ u. part_value p w u (y b) (y c)) (shows a la)
    ∙ ap (λ u. part_value p w (x a) u (y c)) (shows b lb)
    ∙ ap (λ u. part_value p w (x a) (x b) u) (shows c lc) in
    (y, shows, omega (arith, ints, is y, same x y shows, parts, best.1))
