-- What smallest least cuts say of the form whose net is cut, and of the form less its borders.
use Rattle.std.proofs.Common.{◌≡◌, ℕ, zero, suc, ◌+◌, ◌≤◌, Bool, true, false, not, List, length, slice_index, sum, vec_len, ℤ, pos, ◌+ℤ◌, ◌-ℤ◌, refl, sym, ◌∙◌, ap, arith}
use Rattle.std.proofs.lemmas.Int.{ints}
use Rattle.sums.specs.Sums.{sum_below, count_if}
use Rattle.sums.proofs.SumLemmas.{sum_below-add, sum_below-same}
use Rattle.flow_network.specs.Cut.{Network, nodes, with_larger_sinks, capacity_of, IsLeastCut, IsNet, IsSmallestLeastCut}
use Rattle.flow_network.proofs.Bounds.{sum_is}
use Rattle.flow_network.proofs.Widening.{added, added_at}
use Rattle.compile_cut.specs.declared.quadratic.Quadratic.{Quadratic}
use Rattle.compile_cut.specs.Quadratics.{quadratic_value}
use Rattle.site_bounds.specs.Decisions.{IsSmallestLeast}
use Rattle.persistency.proofs.Forms.{reweighed_value}
use Rattle.strip_nets.specs.Sides.{IsLessBorder}

least_too : (net : Network) (side other : ℕ → Bool) → IsLeastCut net side → capacity_of net other ≤ capacity_of net side → IsLeastCut net other
least_too net side other least low third = omega (arith, low, least third)

-- where the capacity of each cut and a constant are the value, a smallest least cut is the least
-- assignment with the fewest ones
pub cut_least : (n : ℕ) (E : (ℕ → Bool) → ℤ) (net : Network) (k : ℤ) (side : ℕ → Bool) → nodes net ≡ n
    → ((x : ℕ → Bool) → pos (capacity_of net x) +ℤ k ≡ E x) → IsSmallestLeastCut net side → IsSmallestLeast n E side
cut_least n E net k side count is best = record {
  least = λ y. omega (arith, ints, is side, is y, best.least y);
  smallest = λ y level v l one.
      best.smallest y (least_too net side y best.least (omega (arith, ints, is side, is y, level))) v (omega (arith, count, l)) one;
}

-- ---- with more room to the sink

counted_add : (b : Bool) (y z : ℕ) → count_if b (y + z) ≡ count_if b y + count_if b z
counted_add true y z = refl
counted_add false y z = refl

counted_both : (b : Bool) (z : ℕ) → count_if b z + count_if (not b) z ≡ z
counted_both true z = omega arith
counted_both false z = omega arith

-- the nodes of a set and those outside it are all
both_parts : (n : ℕ) (x : ℕ → Bool) (f : ℕ → ℕ) → sum_below n (λ v. count_if (x v) (f v)) + sum_below n (λ v. count_if (not (x v)) (f v)) ≡ sum_below n f
both_parts zero x f = refl
both_parts (suc n) x f = omega (arith, both_parts n x f, counted_both (x n) (f n))

-- a cut has the room of the nodes outside it more
wider_capacity : (net : Network) (more : List ℕ) (x : ℕ → Bool) → IsNet net → length more ≡ nodes net
    → capacity_of (with_larger_sinks net more) x ≡ capacity_of net x + sum_below (nodes net) (λ v. count_if (not (x v)) (slice_index more v))
wider_capacity net more x h e =
    let sinks =
    sum_below-same (nodes net) (λ v. count_if (not (x v)) (slice_index (added net.sinks more) v))
    (λ v. count_if (not (x v)) (slice_index net.sinks v) + count_if (not (x v)) (slice_index more v))
    (λ v l.
    ap (count_if (not (x v))) (added_at net.sinks more v (omega (arith, e, h.same)) (omega (arith, h.same, l)))
    ∙ counted_add (not (x v)) (slice_index net.sinks v) (slice_index more v))
    ∙ sum_below-add (nodes net) (λ v. count_if (not (x v)) (slice_index net.sinks v)) (λ v. count_if (not (x v)) (slice_index more v)) in
    omega (arith, sinks)

more_parts : (net : Network) (more : List ℕ) (x : ℕ → Bool) → length more ≡ nodes net
    → sum_below (nodes net) (λ v. count_if (x v) (slice_index more v)) + sum_below (nodes net) (λ v. count_if (not (x v)) (slice_index more v)) ≡ sum more
more_parts net more x e = both_parts (nodes net) x (slice_index more) ∙ ap (λ n. sum_below n (slice_index more)) (sym e) ∙ sym (sum_is more)

wider_by : (less q k : ℤ) (wide narrow ones others all : ℕ) → wide ≡ narrow + others → ones + others ≡ all → pos narrow +ℤ k ≡ q
    → less +ℤ pos ones ≡ q → pos wide +ℤ (k -ℤ pos all) ≡ less
wider_by less q k wide narrow ones others all h i j l = omega (arith, ints, h, i, j, l)

-- so with room for the borders it shows the form less the borders, all of which the constant lacks
wider_value : (borders : List ℕ) (form less : Quadratic) (net : Network) (k : ℤ) (x : ℕ → Bool) → IsNet net → nodes net ≡ vec_len form.weights
    → length borders ≡ vec_len form.weights → pos (capacity_of net x) +ℤ k ≡ quadratic_value form x → IsLessBorder borders form less
    → pos (capacity_of (with_larger_sinks net borders) x) +ℤ (k -ℤ pos (sum borders)) ≡ quadratic_value less x
wider_value borders form less net k x h count len is lower =
    let e = len ∙ sym count in
    let value = ap (λ n. quadratic_value less x +ℤ pos (sum_below n (λ v. count_if (x v) (slice_index borders v)))) count ∙ reweighed_value form less (slice_index borders) x lower.again lower.weights in
    wider_by (quadratic_value less x) (quadratic_value form x) k (capacity_of (with_larger_sinks net borders) x) (capacity_of net x) _ _ (sum borders) (wider_capacity net borders x h e) (more_parts net borders x e) is value

pub wider_least : (borders : List ℕ) (form less : Quadratic) (net : Network) (k : ℤ) (side : ℕ → Bool) → IsNet net → nodes net ≡ vec_len form.weights
    → length borders ≡ vec_len form.weights → ((x : ℕ → Bool) → pos (capacity_of net x) +ℤ k ≡ quadratic_value form x)
    → IsLessBorder borders form less → IsSmallestLeastCut (with_larger_sinks net borders) side → IsSmallestLeast (vec_len form.weights) (quadratic_value less) side
wider_least borders form less net k side h count len is lower best =
    cut_least (vec_len form.weights) (quadratic_value less) (with_larger_sinks net borders) (k -ℤ pos (sum borders)) side count
    (λ x. wider_value borders form less net k x h count len (is x) lower) best
